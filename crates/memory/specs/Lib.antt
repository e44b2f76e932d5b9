pub mod Words
pub mod Placed
pub mod Fills
pub mod Images
