-- The proofs, from a field of a line to a whole dialogue.
pub mod Acting
pub mod Adding
pub mod Brief
pub mod Fields
pub mod Held
pub mod Lining
pub mod Lists
pub mod Parted
pub mod Said
pub mod Says
pub mod Telling
pub mod Walks
