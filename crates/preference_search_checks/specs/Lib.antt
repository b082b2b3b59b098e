-- The numbers of begin and tell.
pub mod Checks
pub mod Read
pub mod Numbers
