pub mod Order
pub mod Rows
pub mod Edits
pub mod Codes
