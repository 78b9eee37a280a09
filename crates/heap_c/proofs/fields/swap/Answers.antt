use Rattle.std.proofs.Common.{ℕ, arith, inl, inr, refl, subst}
use Rattle.mutator_seat.specs.Bound.{bound}
use Rattle.sorted_boxes.proofs.Again.{many_again}
use Rattle.heap_c.specs.Refusing.{NoValue}
use Rattle.heap_c.proofs.fields.swap.Goals as goal

pub returns-else-swapped-clause-longer : goal.returns-else-swapped-clause-longer
returns-else-swapped-clause-longer c =
    let same = many_again (bound c.args.heap.now c.args.seat.now)
    (bound c.args.heap.now c.swap-swapped.new.seat) c.swap-swapped.ensures.keeps in
    omega (
      arith,
      same,
      c.held_len.ensures.len,
      c.held_len.ensures.known,
      c.held_len-held.ensures.len,
      c.held_len-held.ensures.known,
    )

pub returns-in_default-clause-swapped : goal.returns-in_default-clause-swapped
returns-in_default-clause-swapped c = (
  inl (subst (λ (held : ℕ). NoValue c.args.turns held c.args.was) c.held_len-2.ensures.len
      c.in_default.ensures.means),
  refl,
)

pub returns-in_default-value_of-clause-swapped : goal.returns-in_default-value_of-clause-swapped
returns-in_default-value_of-clause-swapped c = (
  inr (inl (subst (λ (held : ℕ). NoValue c.args.turns held c.args.now) c.held_len-3.ensures.len
      c.in_default-value_of.ensures.means)),
  refl,
)
