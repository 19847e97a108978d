-- The instruction set: operations, instruction words, conditions.
pub mod Text
pub mod Operation
pub mod Condition
pub mod Format
pub mod Decode
pub mod Shown
pub mod Used
pub mod Letters
pub mod Places
pub mod Theorems
pub mod Computed
