pub mod Together
pub mod Plans
