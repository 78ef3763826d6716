pub mod Laws
pub mod Least
