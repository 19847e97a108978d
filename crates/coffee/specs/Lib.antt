-- The answers of the C interface as numbers.
pub mod Numbers
