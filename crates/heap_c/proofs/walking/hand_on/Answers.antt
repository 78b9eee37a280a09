use Rattle.std.proofs.Common.{ℕ, inr, refl, subst, sym}
use Rattle.heap_c.specs.Holding.{turns_of}
use Rattle.heap_c.specs.Walking.{IsAfter}
use Rattle.heap_c.specs.declared.turns.Turns.{Turns}
use Rattle.heap_c.proofs.walking.hand_on.Goals as goal

pub returns-in-None : goal.returns-in-None
returns-in-None c =
    let base = c.args.base in
    let found = c.args.found in
    record {
      handed = inr (
        λ place is. c.in-None.ensures.place place
            (subst (λ (t : Turns). IsAfter t base c.held_len.result found place)
            (sym c.turns-turns.ensures.turns)
            (subst (λ (held : ℕ). IsAfter (turns_of c.args.mine.now) base held found place)
            (sym c.held_len.ensures.len) is)),
        (refl, c.let_go.ensures.gone),
      );
    }
