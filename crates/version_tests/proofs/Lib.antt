pub mod Growing
pub mod Starting
