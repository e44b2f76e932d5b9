pub mod Lines
pub mod Accesses
pub mod Slots
