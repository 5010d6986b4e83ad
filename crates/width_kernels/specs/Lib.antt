pub mod WidthOps
