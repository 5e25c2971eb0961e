pub mod Risings
pub mod Places
