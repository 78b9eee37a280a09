-- A heap of documents that is closed with the collector's seat, as client_history defines it.
-- Source: this project's.
pub use Rattle.client_history.specs.Closing.{EndedStore}
