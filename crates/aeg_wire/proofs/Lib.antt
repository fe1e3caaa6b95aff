pub mod Grammar
pub mod Numbers
pub mod Lists
pub mod Begun
