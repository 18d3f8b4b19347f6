pub mod Plain
pub mod RowsBack
pub mod Decimals
pub mod FieldsBack
pub mod InRange
pub mod Unbroken
pub mod Verdicts
pub mod Lawful
