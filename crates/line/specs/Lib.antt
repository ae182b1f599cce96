-- The words of the contracts, from the bytes of a line to a dialogue of lines.
pub mod Answers
pub mod Consoles
pub mod Dialogues
pub mod Faults
pub mod Grammar
pub mod Lines
pub mod Pages
pub mod Printing
pub mod Replies
pub mod States
pub mod Words
