use Rattle.std.proofs.Common.{◌∙◌, subst, sym, ap, arith, ℕ}
use Rattle.std.specs.List.{SameBelow}
use Rattle.local_records.specs.Local.{Local}
use Rattle.mutator_seat.specs.Bound.{bound}
use Rattle.sorted_boxes.specs.Holding.{HoldsFirst}
use Rattle.sorted_boxes.proofs.HeldCopies.{grown_records}
use Rattle.heap_c.proofs.Moved.{copied_owned, up_first}
use Rattle.heap_c.proofs.moving.copy_one.Goals as goal

pub hold_records-requires : goal.hold_records-requires
hold_records-requires c =
    let heap = c.args.heap.now in
    let was = bound heap c.args.seat.now in
    let now = bound heap c.promote-copy.new.seat in
    let up = c.promote-copy.ensures.grown in
    let len = c.held_len-first.ensures.len in
    let many = c.held_len-first.ensures.known ∙ len in
    let holds = c.requires.owned.mine.held c.requires.inside in
    record {
      first = subst (λ (n : ℕ). HoldsFirst n c.args.sorts.now now.seat.me) (sym len)
          (up_first was now c.args.most up many c.args.sorts.now holds);
      some = let some = holds.some in omega (arith, len, some);
      records = λ place le lt. grown_records was now up.count up.grown many place
          (omega (arith, le, len)) lt;
    }

pub returns-clause-owned : goal.returns-clause-owned
returns-clause-owned c =
    let slice = c.promote-copy.ensures in
    copied_owned c.args.heap.now c.args.seat.now c.promote-copy.new.seat c.args.sorts.now
    c.hold_records.new.sorts c.args.local.now c.promote-copy.new.self c.args.most
    c.requires.owned c.requires.inside slice.seat slice.grown c.hold_records.ensures.held
    slice.local (ap (λ (l : Local). l.roots) slice.only)

pub returns-clause-copies : goal.returns-clause-copies
returns-clause-copies c = record {
  grown = c.promote-copy.ensures.grown;
  sorts = subst (λ (n : ℕ). SameBelow c.args.sorts.now.records c.hold_records.new.sorts.records n)
      c.held_len-first.ensures.len c.hold_records.ensures.same;
  keeps = c.promote-copy.ensures.keeps;
  terms = c.promote-copy.ensures.terms;
  only = c.promote-copy.ensures.only;
}
