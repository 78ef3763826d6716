pub mod Ids
pub mod Token
