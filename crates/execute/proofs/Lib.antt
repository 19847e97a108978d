-- Laws of the next instruction: what comes of an attempt that fails, the bytes of its word, data addresses, the nops that must follow, clauses of
-- operations, the order of its tests, instruction words by what their tests give, codes of exceptions and numbers of stops, what a decision can be,
-- which of them ask a data address.
pub mod Attempts
pub mod Bytes
pub mod Addresses
pub mod NopChecks
mod Performed
mod Values
mod Alike
pub mod Tests
pub mod Reported
pub mod Order
pub mod Answers
pub mod Safe
pub mod Places
pub mod Nops
