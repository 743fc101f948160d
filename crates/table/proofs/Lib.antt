pub mod Moves
pub mod Pairs
pub mod Keys
pub mod Sounds
pub mod Distincts
pub mod Sieves
