-- assignment_solver.rs, solve_until: what begin and tell give.
pub mod Calls
pub mod Laws
