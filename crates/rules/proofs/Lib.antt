pub mod Halves
pub mod Sharers
