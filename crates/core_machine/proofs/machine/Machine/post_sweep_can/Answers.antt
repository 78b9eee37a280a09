use Rattle.std.proofs.Common.{◌≡◌, Bool, true, ◌&&◌, ◌∙◌, sym, ap, rules}
use Rattle.core_machine.proofs.machine.Machine.post_sweep_can.Goals as goal

-- the last test decides where those before it passed
last_test : (before last found : Bool) → before ≡ true → found ≡ last → found ≡ (before && last)
last_test before last found passed is = is ∙ sym (ap (λ b. b && last) passed)

pub returns-then-at_end : goal.returns-then-at_end
returns-then-at_end c =
    record { can = last_test _ _ _ (search rules) c.is_clean.ensures.clean }
