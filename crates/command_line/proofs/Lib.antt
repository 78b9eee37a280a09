pub mod Accepted
pub mod Behind
pub mod Ends
pub mod Numbers
pub mod Rules
pub mod Taken
