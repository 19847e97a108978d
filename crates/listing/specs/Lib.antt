-- The listing of a program.
pub mod Line
pub mod Parts
pub mod Listing
pub mod Theorems
pub mod Computed
