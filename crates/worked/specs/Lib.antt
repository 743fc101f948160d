pub mod Session
pub mod Drawn
pub mod All
