pub mod Calls
pub mod Applying
pub mod History
pub mod After
pub mod Law
pub mod Runs
pub mod Examples
pub mod Winding
