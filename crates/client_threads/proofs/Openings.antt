-- The opening of a store's heap.
use Rattle.std.proofs.Common.{◌≡◌, ◌≤◌, ℕ, List, refl, sym, subst}
use Rattle.cell_words.specs.declared.fields.Field.{Field}
use Rattle.run_limits.specs.declared.TheConstants.{MOST_CLIENTS}
use Rattle.doc_records.specs.Trees.{IsTreeNode, tree_of}
use Rattle.client_history.specs.Spelled.{bare_is_empty, bare_is_node}
use Rattle.heap_table.specs.Opening.{Opens}
use Rattle.version_rule.specs.Opening.{first_rows, first_terms}
use Rattle.version_rule.specs.Pass.{opening_pass}
use Rattle.version_rule.specs.Versions.{HoldsVersions}
use Rattle.version_rule.proofs.Openings.{firsts, opened}

pub opens : (cells mutators keep : ℕ) (rows : List (List Field)) → rows ≡ first_rows
    → mutators ≤ MOST_CLIENTS → 1 ≤ keep → keep ≤ 100
    → Opens opening_pass (HoldsVersions IsTreeNode tree_of)
    record { cells = cells; mutators = mutators; setting = keep; first = rows }
opens cells mutators keep rows is fewer least most =
    subst (λ (first : List (List Field)). Opens opening_pass (HoldsVersions IsTreeNode tree_of)
    record { cells = cells; mutators = mutators; setting = keep; first = first }) (sym is) (
      first_terms,
      firsts,
      opened IsTreeNode tree_of bare_is_node bare_is_empty
          record { cells = cells; mutators = mutators; setting = keep; first = first_rows } record {
            first = refl;
            keeps_some = least;
            keeps_few = most;
            few = fewer;
          },
    )
