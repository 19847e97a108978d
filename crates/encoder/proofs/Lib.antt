-- Laws of writing words.
pub mod Parts
pub mod Values
pub mod Operands
pub mod Choices
pub mod ReadBack
pub mod Lines
pub mod Fits
pub mod Forms
pub mod Worked
