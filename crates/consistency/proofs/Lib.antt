pub mod Laws
pub mod Few
