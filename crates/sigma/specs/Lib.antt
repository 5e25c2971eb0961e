pub mod Signature
pub mod Tables
