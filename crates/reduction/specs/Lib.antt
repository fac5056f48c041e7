pub mod Marks
pub mod PairMoves
pub mod Placed
pub mod Products
pub mod Reducing
pub mod Rounds
pub mod Words
