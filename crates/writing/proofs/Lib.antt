pub mod DecimalLaws
pub mod Written
pub mod LineLaws
pub mod RoundTrip
pub mod Cases
pub mod PageLaws
