pub mod Injective
pub mod Signed
pub mod Carrying
