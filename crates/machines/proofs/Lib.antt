pub mod CallRuns
pub mod CheckedCalls
pub mod JoinedCalls
pub mod LeastSizes
pub mod Promised
pub mod RunMeanings
pub mod ToldStates
pub mod Turned
