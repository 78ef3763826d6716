pub mod Compare
pub mod Numbers
pub mod Parts
