-- The files of this folder.
pub mod Cell
pub mod Cells
pub mod Chain
pub mod Ring
pub mod Report
