pub mod Completing
pub mod Placing
pub mod Rests
