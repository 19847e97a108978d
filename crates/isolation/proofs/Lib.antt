-- The isolation of user mode, layer by layer: updates in user mode, states, views, one transition, the claim, and a worked pair that it applies to.
pub mod User
pub mod States
pub mod Views
pub mod Unwinding
pub mod Isolation
pub mod Example
