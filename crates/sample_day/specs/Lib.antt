-- The sample day of SPEC 13, and demand 3 applied to a run.
pub mod SampleDay
pub mod Rows
pub mod SampleMemory
pub mod SampleBegins
pub mod RowsHold
pub mod DemandApplied
