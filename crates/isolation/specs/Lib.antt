-- The isolation of user mode, as one claim over whole lists of run calls (Manual 10).
pub mod Isolation
pub mod Computed
