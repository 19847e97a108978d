-- Laws of listings.
pub mod Texts
pub mod Spaced
pub mod Rooms
pub mod Columns
pub mod Lines
pub mod Calls
pub mod Theorems
pub mod Worked
