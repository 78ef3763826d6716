pub mod Words
pub mod Quarter
pub mod Rounds
pub mod Block
pub mod Examples
