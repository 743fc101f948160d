pub mod Tables
pub mod Causes
pub mod Changes
pub mod Outcomes
pub mod Answers
pub mod Lending
