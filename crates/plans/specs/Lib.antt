-- The model of a day, a state and a limit; which plans can be had from it.
pub mod Model
pub mod Seatable
pub mod CanBeHad
pub mod Read
pub mod Good
pub mod Pairs
pub mod Flow
pub mod SeatPairs
pub mod Balance
pub mod Decode
pub mod Seated
