pub mod Padding
pub mod VectorWalks
pub mod Accesses
pub mod Locality
pub mod Nearness
