pub mod Functions
pub mod Compression
pub mod Message
pub mod Stream
