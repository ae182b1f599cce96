-- The files of this folder.
pub mod Carrying
pub mod Running
