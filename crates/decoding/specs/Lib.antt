-- assignment_solver.rs, solve_with_limit: the plan that edge values decode to.
pub mod Decode
pub mod Decoding
