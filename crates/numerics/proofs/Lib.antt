-- Laws that the functions' proofs cite, each stated over the width.
pub mod Modulo
pub mod Signed
pub mod Moves
pub mod Counts
