-- input_data.rs: the day read by named accessors, the named lengths, checks 1 to 10, what an accepted day satisfies, its operands, and the bytes in which it is lent.
pub mod Day
pub mod Lengths
pub mod Operands
pub mod Checks
pub mod Accepted
pub mod Numbers
pub mod Fits
pub mod Read
pub mod ReadLaws
pub mod Bytes
pub mod BytesLaws
pub mod ByNumber
pub mod Levels
pub mod Numbered
