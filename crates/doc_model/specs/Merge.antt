-- The clients' logs as one list: all their entries in the order of the versions that they saw.
-- Source: this project's.
use Rattle.std.specs.Prelude.{◌≡◌, ◌==◌, List, Bool, not, flat_map, filter, IsPermutation}
use Rattle.std.specs.Prelude.{IsSortedByKey, All}
use Rattle.std.specs.declared.cmp.Ordering.{Ordering}
use Rattle.std.specs.Ordering.{nat_cmp, bool_cmp, ordering_then}
use Rattle.doc_model.specs.declared.command.Entry.{Entry}
use Rattle.doc_model.specs.Answers.{is_ok}
use Rattle.doc_model.specs.ClientLog.{ClientLog}

-- whether an entry stands after the one that made its version
abbrev pub is_late : Entry → Bool
is_late e = not (is_ok e.reply)

-- by place; at one place the entry that made the version comes first, then by client and by number
abbrev pub entry_order : Entry → Entry → Ordering
entry_order d e =
    ordering_then (ordering_then
    (ordering_then (nat_cmp d.place e.place) (bool_cmp (is_late d) (is_late e)))
    (nat_cmp d.client e.client)) (nat_cmp d.number e.number)

abbrev pub all_entries : List ClientLog → List Entry
all_entries logs = flat_map (λ g. g.entries) logs

-- A relation, since entries with the same place, client and number may stand in either order. Logs
-- that agree have no two such entries.
pub record IsMerge (logs : List ClientLog) (merged : List Entry) : Type 0 where
  pub same : IsPermutation (all_entries logs) merged
  pub sorted : IsSortedByKey (λ e. e) entry_order merged

-- each log stands in the list whole and in its own order
abbrev pub KeepsOrder : List ClientLog → List Entry → Type 0
KeepsOrder logs merged = All (λ g. filter (λ e. e.client == g.client) merged ≡ g.entries) logs
