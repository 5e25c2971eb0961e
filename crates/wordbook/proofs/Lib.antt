pub mod Switches
pub mod Words
