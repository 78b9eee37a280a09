pub mod EntriesCode
pub mod Memory
pub mod Row
