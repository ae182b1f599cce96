pub mod Cursor
pub mod Last
pub mod Limit
pub mod Splice
