-- Laws of the run program: its buffers, its report, its worked example.
pub mod Buffers
pub mod Reports
pub mod Worked
