pub mod Twice
pub mod Walks
pub mod Judges
pub mod Tables
pub mod Steps
pub mod Draws
