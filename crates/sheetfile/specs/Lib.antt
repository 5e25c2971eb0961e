pub mod Format
pub mod Opening
pub mod Judging
pub mod Reader
pub mod Letters
pub mod Drawn
