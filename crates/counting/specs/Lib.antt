-- What every crate counts with: bounded indices, tests, searches, lent buffers, signed differences.
pub mod Fold
pub mod Calls
pub mod FoldLaws
pub mod Tests
pub mod Sums
pub mod Search
pub mod SearchLaws
pub mod Lists
pub mod Written
pub mod WrittenLaws
pub mod Lent
pub mod Ints
pub mod Signed
pub mod Holds
pub mod HoldsLaws
