-- The lemmas of the cases.
mod Deciding
mod Following
mod Inserting
mod Moving
mod Splicing
