pub mod Compare
pub mod Number
pub mod Part
