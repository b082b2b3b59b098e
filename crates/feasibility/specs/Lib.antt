-- Both is_feasible, on day, schedule and plan; checks 11 and 13.
pub mod Feasible
pub mod Checks
pub mod Laws
