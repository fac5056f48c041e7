-- The definitions that the contracts cite.
pub mod Printout
pub mod Records
pub mod Steps
