pub mod Lists
pub mod Given
