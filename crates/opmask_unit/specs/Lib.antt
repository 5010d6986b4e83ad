pub mod Opmasks
