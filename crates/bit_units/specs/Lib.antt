pub mod Numbers
pub mod Shifts
pub mod Picks
pub mod Bits
