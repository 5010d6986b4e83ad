pub mod Numbers
pub mod Registers
pub mod Flags
pub mod Shifts
