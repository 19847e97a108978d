-- The machine image: its sections, question 2, reading and writing (Image), that these undo each other (RoundTrip), and the earlier layout (Earlier).
pub mod Image
pub mod Earlier
pub mod RoundTrip
pub mod Computed
