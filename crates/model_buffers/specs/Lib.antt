-- The buffers of a model: their lengths, what stands in them, and how much of them is used.
pub mod Lengths
pub mod Answers
pub mod Answered
pub mod Buffers
pub mod Stored
pub mod StoredLaws
pub mod Lent
