pub mod MacOps
