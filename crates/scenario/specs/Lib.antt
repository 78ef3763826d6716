pub mod Premise
pub mod Given
