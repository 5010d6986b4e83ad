pub mod CrossOps
