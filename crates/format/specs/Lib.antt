pub mod Tags
pub mod Rows
