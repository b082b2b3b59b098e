-- The steps of a search.
pub mod Standing
