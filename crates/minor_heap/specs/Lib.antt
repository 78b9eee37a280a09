pub mod Marking
pub mod Nursery
pub mod Reaches
pub mod Record
pub mod Spans
pub mod Terms
