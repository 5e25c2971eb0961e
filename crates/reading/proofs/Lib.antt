pub mod Tables
pub mod Questions
