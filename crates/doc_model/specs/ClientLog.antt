-- A client's log: its entries in order, and how many more there is room for.
-- Source: this project's.
use Rattle.std.specs.Prelude.{ℕ, List}
use Rattle.doc_model.specs.declared.command.Entry.{Entry}

pub record ClientLog : Type 0 where
  pub client : ℕ
  pub entries : List Entry
  pub spare : ℕ
