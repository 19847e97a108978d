-- Laws of a timer's clock (Laws), what is proved of it and of the machine's clock (Theorems), and the values of timers in memory (Values).
pub mod Laws
pub mod Theorems
pub mod Values
