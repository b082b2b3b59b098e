-- Slot lists as bytes, lengths and covered counts as sums, and the walk from one schedule to the next.
pub mod Lists
pub mod Parts
pub mod PartsLaws
pub mod ListsLaws
pub mod Sums
pub mod SumsLaws
pub mod Walk
pub mod WalkLaws
pub mod Held
pub mod HeldLaws
pub mod Marks
