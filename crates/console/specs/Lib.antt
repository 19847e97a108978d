-- The text of programs: numbers as digits, the run program's step limit and line.
pub mod Digits
pub mod Limit
pub mod Line
pub mod Computed
