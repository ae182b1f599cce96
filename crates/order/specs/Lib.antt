pub mod Deeds
pub mod Faults
pub mod Keys
pub mod Order
pub mod Plain
