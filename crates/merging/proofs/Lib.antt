pub mod Places
pub mod Weaving
pub mod Forms
