pub mod Ruled
pub mod Asked
pub mod Phases
