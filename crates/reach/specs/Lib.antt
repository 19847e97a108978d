-- The words of a program that can be reached.
pub mod Successors
pub mod Reachable
pub mod Search
pub mod Call
pub mod Theorems
pub mod Computed
