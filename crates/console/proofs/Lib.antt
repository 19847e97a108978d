-- Laws of the text of programs.
pub mod Digits
pub mod Limits
pub mod Lines
pub mod Worked
