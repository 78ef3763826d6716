pub mod Laws
pub mod Making
pub mod Rules
