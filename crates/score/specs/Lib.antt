-- score.rs: IEEE 754's totalOrder, the order of scores, the best of a list, and worked examples.
pub mod TotalOrder
pub mod BitOrder
pub mod Magnitude
pub mod TotalOrderLaws
pub mod Order
pub mod TotalCmp
pub mod Best
pub mod BestLaws
pub mod Listed
pub mod ListedLaws
pub mod Sample
pub mod Answered
