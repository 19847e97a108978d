-- Laws of one step.
pub mod Worked
pub mod Theorems
pub mod Accepted
pub mod Formed
pub mod Urgency
pub mod Requests
pub mod Entered
pub mod Stops
pub mod Clocks
pub mod StepKinds
pub mod Transitions
pub mod Codes
pub mod AddressOrder
pub mod Return
pub mod RequiredNops
pub mod Waits
