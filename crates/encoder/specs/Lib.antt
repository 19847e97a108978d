-- Instruction words made from what a listing shows of them.
pub mod Encode
pub mod Fields
pub mod Theorems
pub mod Computed
