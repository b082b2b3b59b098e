-- A plan that seats everybody is feasible.
pub mod Premises
pub mod Seats
pub mod Rules
pub mod DemandThree
