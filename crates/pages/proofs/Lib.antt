mod Sweeps
mod Feeds
