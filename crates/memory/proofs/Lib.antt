pub mod Places
pub mod Copies
pub mod Pictures
