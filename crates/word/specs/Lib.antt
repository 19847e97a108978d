-- Words, their arithmetic, and the fields of a word.
pub mod Choice
pub mod Word
pub mod Arithmetic
pub mod Flags
pub mod Computed
