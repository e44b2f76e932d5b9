mod Turns
mod News
mod Heeded
