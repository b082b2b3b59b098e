pub mod Feasibility
pub mod Answers
pub mod DemandThreeHolds
