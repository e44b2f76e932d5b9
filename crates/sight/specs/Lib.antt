pub mod Marks
pub mod Places
pub mod Calls
pub mod Answers
pub mod Judged
