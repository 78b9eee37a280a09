-- The order of a name of which some bytes were compared.
-- Source: this project's.
use Rattle.std.specs.Prelude.{ℕ, List}
use Rattle.std.specs.declared.cmp.Ordering.{Ordering}
use Rattle.doc_tree.specs.Tree.{name_cmp}
use Rattle.doc_records.specs.declared.orders.Compared.{Compared}
use Rattle.doc_records.specs.declared.orders.Compared.TheVariants.{Decided, Same}

-- what follows, where these bytes come next
abbrev pub order_then : Compared → List ℕ → Ordering
order_then (Decided order) more = order
order_then (Same rest) more = name_cmp rest.now more
