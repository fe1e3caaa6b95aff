pub mod Placed
pub mod StepLaws
pub mod WriteLaws
