pub mod Answer
pub mod Ids
