pub mod Line
pub mod Holder
