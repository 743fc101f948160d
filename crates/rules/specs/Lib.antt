pub mod Prices
pub mod Shares
pub mod Proportions
