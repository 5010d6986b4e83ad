pub mod Numbers
pub mod Alu
pub mod Multiply
pub mod Divide
