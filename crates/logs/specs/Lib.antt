pub mod Text
pub mod Logs
pub mod Every
