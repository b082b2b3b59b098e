-- scheduling.rs: schedules and check 11.
pub mod Schedule
pub mod ScheduleLaws
pub mod Handed
pub mod HandedLaws
