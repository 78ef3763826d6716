pub mod Lists
pub mod Table
pub mod Order
pub mod Search
pub mod Looked
pub mod Examples
