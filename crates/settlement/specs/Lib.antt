pub mod Rounding
pub mod Entries
pub mod Postings
pub mod Balance
pub mod Sessions
pub mod Settling
pub mod Writing
pub mod Answers
