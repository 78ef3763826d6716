pub mod Laws
pub mod Number
