pub mod Words
pub mod Constants
pub mod Schedule
pub mod Compression
pub mod Groups
