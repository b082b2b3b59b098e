-- Refusals and their numbers.
pub mod Number
pub mod Laws
