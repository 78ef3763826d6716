pub mod Stores
pub mod Rules
