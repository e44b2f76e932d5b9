pub mod Held
pub mod Steps
pub mod SameHolder
pub mod Listed
