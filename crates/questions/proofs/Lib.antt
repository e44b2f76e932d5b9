pub mod Declines
