pub mod Limits
pub mod Splices
