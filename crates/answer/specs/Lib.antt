pub mod Answer
pub mod Verdict
