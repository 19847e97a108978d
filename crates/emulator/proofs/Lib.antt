-- Laws of the run call: its questions, its steps, what it leaves, its answer, lists of calls; and of the calls that only write an image.
pub mod Outcomes
pub mod Carried
pub mod Loop
pub mod Questions
pub mod Closed
pub mod Answers
pub mod Running
pub mod Asked
pub mod RequiredNops
