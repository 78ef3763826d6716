pub mod Lists
pub mod Stream
pub mod Rules
