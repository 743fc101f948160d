pub mod Calls
pub mod Laws
pub mod Numerals
pub mod Prices
pub mod Tokens
