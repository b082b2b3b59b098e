-- Checks 14 to 17 of edge values that are proposed from outside.
pub mod Values
pub mod Checks
pub mod Balance
pub mod Number
