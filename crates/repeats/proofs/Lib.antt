pub mod Keys
pub mod Neighbours
