pub mod EndingBits
pub mod FindMap
pub mod MachineParts
pub mod SearchLoop
pub mod Tracked
pub mod Yielding
