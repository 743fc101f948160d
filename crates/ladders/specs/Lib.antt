pub mod Answered
pub mod Ladders
