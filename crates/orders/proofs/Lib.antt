-- The lemmas that the proofs share.
pub mod Blanks
pub mod Decoding
