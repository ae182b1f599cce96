-- The files of this folder.
pub mod Bytes
pub mod Commands
pub mod Replies
pub mod Runs
pub mod Waiting
