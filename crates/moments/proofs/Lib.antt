pub mod RowFromBits
pub mod MomentsFromBits
pub mod Owned
pub mod Rows
pub mod Calls
pub mod Lasting
