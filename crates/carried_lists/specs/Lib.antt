-- The slots' lists as a call carries them: what a choice that moves leaves of them, and the walk.
pub mod Carried
pub mod CarriedLaws
