-- A timer and its clock (Timer), the clock of both timers of a machine (Clock), and what is proved of them (Theorems).
pub mod Timer
pub mod Clock
pub mod Theorems
pub mod Computed
