pub mod SheetLaws
pub mod CodeLaws
pub mod Walking
pub mod Putting
pub mod Sizes
pub mod Early
pub mod Promises
pub mod Cases
