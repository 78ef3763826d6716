pub mod Firsts
pub mod Flags
