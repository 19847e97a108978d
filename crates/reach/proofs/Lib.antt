-- Laws of reachable code.
pub mod Flows
pub mod Words
pub mod Graph
pub mod Marks
pub mod Visits
pub mod ProgramSearch
pub mod Calls
pub mod Theorems
pub mod Worked
