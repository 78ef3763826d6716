pub mod Chaining
pub mod Flags
pub mod Rules
