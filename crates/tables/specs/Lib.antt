pub mod Endings
pub mod Lists
pub mod Machines
pub mod Nodes
pub mod Values
pub mod Worklists
