-- The files of this folder.
pub mod Examples
pub mod Faults
pub mod History
pub mod Lent
pub mod Level
pub mod Memory
pub mod Play
pub mod Tower
pub mod Law
