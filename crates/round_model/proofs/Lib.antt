pub mod Examples
pub mod NumberedLaws
pub mod HeldLaws
pub mod ShimLaws
