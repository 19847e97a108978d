-- The run program: what it prints (Report), case by case (Reports), and of a worked example (Worked).
pub mod Report
pub mod Reports
pub mod Worked
