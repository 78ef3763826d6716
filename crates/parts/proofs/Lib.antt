pub mod Laws
pub mod One
