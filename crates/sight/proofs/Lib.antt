pub mod Watching
pub mod Same
pub mod Apart
mod Verdicts
mod Placing
