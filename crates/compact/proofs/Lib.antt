pub mod Closings
pub mod Logs
pub mod Whole
pub mod Verdicts
