pub mod FlagParts
pub mod PairParts
pub mod NumberedParts
