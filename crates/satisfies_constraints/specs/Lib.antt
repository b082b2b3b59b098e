-- scoring.rs: the two constraint tests.
pub mod Constraints
pub mod ByNumber
pub mod Laws
pub mod Rosters
