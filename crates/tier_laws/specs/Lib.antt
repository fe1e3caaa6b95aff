pub mod Said
pub mod Services
