use Rattle.std.proofs.Common.{ℕ, arith, inl, refl, subst}
use Rattle.mutator_seat.specs.Bound.{bound}
use Rattle.sorted_boxes.proofs.Again.{many_again}
use Rattle.heap_c.specs.Refusing.{NoValue}
use Rattle.heap_c.proofs.fields.write.Goals as goal

pub returns-then-written-clause-longer : goal.returns-then-written-clause-longer
returns-then-written-clause-longer c =
    let same = many_again (bound c.args.heap.now c.args.seat.now)
    (bound c.args.heap.now c.write-written.new.seat) c.write-written.ensures.keeps in
    omega (
      arith,
      same,
      c.held_len.ensures.len,
      c.held_len.ensures.known,
      c.held_len-held.ensures.len,
      c.held_len-held.ensures.known,
    )

pub returns-in_default-clause-wrote : goal.returns-in_default-clause-wrote
returns-in_default-clause-wrote c = (
  inl (subst (λ (held : ℕ). NoValue c.args.turns held c.args.val) c.held_len-2.ensures.len
      c.in_default.ensures.means),
  refl,
)
