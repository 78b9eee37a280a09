use Rattle.std.proofs.Common.{◌≡◌, Bool, true, not, ◌&&◌, ◌∙◌, sym, ap, rules}
use Rattle.core_machine.specs.State.{field_of}
use Rattle.core_machine.specs.Words.{is_cell}
use Rattle.core_machine.proofs.machine.Machine.fill_can.Goals as goal

-- the last test decides where those before it passed
last_test : (before last found : Bool) → before ≡ true → found ≡ last → found ≡ (before && last)
last_test before last found passed is = is ∙ sym (ap (λ b. b && last) passed)

pub returns-then-not-is_raw_value : goal.returns-then-not-is_raw_value
returns-then-not-is_raw_value c =
    record {
      can = last_test _ _ _ (search rules)
          (ap not (c.is_cell.ensures.cell
          ∙ ap is_cell (c.field.ensures.field
          ∙ ap (λ cell. field_of c.args.self.now cell c.args.f)
          c.held-then-not-is_raw_value.ensures.cell)));
    }
