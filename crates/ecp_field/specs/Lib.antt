pub mod Field
pub mod Lists
