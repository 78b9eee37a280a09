pub mod LineCases
pub mod Lines
pub mod Worked
pub mod MailTurns
pub mod Sorting
mod Sessions
pub mod Files
pub mod Gathered
pub mod Images
pub mod Opens
mod Turns
pub mod Counting
pub mod MadeLines
pub mod MadeScripts
