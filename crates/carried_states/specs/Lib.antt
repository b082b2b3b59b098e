-- That what is carried from schedule to schedule agrees with a fresh build.
pub mod Agreement
