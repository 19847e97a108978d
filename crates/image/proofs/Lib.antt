-- Laws of the machine image.
pub mod Sections
pub mod Image
pub mod Reading
pub mod Writing
