-- The opening of a mailbox's heap.
use Rattle.std.proofs.Common.{◌≡◌, ◌≤◌, ℕ, List, refl, sym, subst}
use Rattle.cell_words.specs.declared.fields.Field.{Field}
use Rattle.run_limits.specs.declared.TheConstants.{MOST_CLIENTS}
use Rattle.heap_table.specs.Opening.{Opens}
use Rattle.mail_rule.specs.Mail.{HoldsMail}
use Rattle.mail_rule.specs.Opening.{first_rows, first_terms}
use Rattle.mail_rule.specs.Passes.{opening_pass}
use Rattle.mail_rule.proofs.Openings.{firsts, opened}

pub opens : (cells mutators setting : ℕ) (rows : List (List Field)) → rows ≡ first_rows
    → mutators ≤ MOST_CLIENTS
    → Opens opening_pass HoldsMail
    record { cells = cells; mutators = mutators; setting = setting; first = rows }
opens cells mutators setting rows is most =
    subst (λ (first : List (List Field)). Opens opening_pass HoldsMail
    record { cells = cells; mutators = mutators; setting = setting; first = first }) (sym is) (
      first_terms,
      firsts,
      opened record { cells = cells; mutators = mutators; setting = setting; first = first_rows }
          record { first = refl; few = most },
    )
