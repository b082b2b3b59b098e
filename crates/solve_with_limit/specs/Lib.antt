-- assignment_solver.rs, solve_with_limit: the calls that build a model and check values.
pub mod Answers
pub mod Checking
