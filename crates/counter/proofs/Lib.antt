pub mod Readings
pub mod Shares
pub mod Rules
