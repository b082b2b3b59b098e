-- assignment_solver.rs, solve_with_limit: the flow model of tested input, in the lent buffers.
pub mod Lent
pub mod Calls
pub mod Alike
pub mod Building
pub mod Entering
pub mod Made
