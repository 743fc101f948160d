pub mod Clears
pub mod Joins
pub mod Settles
pub mod Zones
