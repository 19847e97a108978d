-- The run call and lists of run calls (Run), which run calls are refused (Questions), what they leave (Closure), calls on programs with the nops that must follow (RequiredNops); calls that only write an image
-- (Outcome): the image at reset (Reset), and one of the earlier layout carried over (CarryOver).
pub mod Run
pub mod Outcome
pub mod Reset
pub mod CarryOver
pub mod Questions
pub mod Closure
pub mod RequiredNops
pub mod Computed
