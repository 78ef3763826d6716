pub mod Cipher
pub mod Call
pub mod Laws
pub mod Examples
