pub mod Advise
