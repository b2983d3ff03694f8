pub mod ValueLaws
pub mod CodeLaws
pub mod Putting
pub mod Cases
