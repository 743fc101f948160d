pub mod Forms
pub mod Gathering
pub mod Reading
pub mod Text
pub mod Tokens
