-- assignment_solver.rs, solve_until: the preference search, its steps, and the bytes in which it is lent.
pub mod Search
pub mod Digits
pub mod Steps
pub mod Bytes
pub mod Answered
pub mod Laws
