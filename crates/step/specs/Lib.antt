-- One step: interrupts (Interrupt), the step itself (Step), worked examples (Worked), what is proved (Theorems; Codes, of the codes of
-- exceptions; AddressOrder, of the order of the data tests; Return, of a change of task; RequiredNops, of the nops that must follow), and the code's
-- search for the source to accept (Search).
pub mod Interrupt
pub mod Step
pub mod Search
pub mod Worked
pub mod Theorems
pub mod Codes
pub mod AddressOrder
pub mod Return
pub mod RequiredNops
pub mod Computed
