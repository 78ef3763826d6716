pub mod Tags
pub mod Rows
pub mod Rules
