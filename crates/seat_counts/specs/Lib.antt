-- scoring.rs: the seats of a plan and the preferences that it uses.
pub mod Seats
pub mod Preferences
pub mod Laws
