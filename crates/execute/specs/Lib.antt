-- What the next instruction may see of the machine and the memories (View), what each operation does (Execute), the order of the tests (Decide), what
-- functions that carry out an instruction promise (Promises), and what is proved of the fetch and of the words after an instruction (Theorems).
pub mod View
pub mod Execute
pub mod Promises
pub mod Decide
pub mod Theorems
pub mod Computed
