-- The statement of the cases.
pub mod Cases
