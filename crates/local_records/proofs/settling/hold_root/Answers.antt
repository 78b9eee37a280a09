use Rattle.std.proofs.Common.{◌<◌, ◌++◌, ℕ, All, List, arith, length, subst, sym}
use Rattle.std.proofs.lemmas.List.{append-nil}
use Rattle.mutator_seat.specs.Bound.{bound}
use Rattle.local_records.specs.Settling.{HoldsAgain}
use Rattle.local_records.proofs.Ending.{again_more}
use Rattle.local_records.proofs.settling.hold_root.Goals as goal

pub keep-requires : goal.keep-requires
keep-requires g c =
    let held = length c.args.seat.now.me.own.held in
    let there = subst (λ (ps : List ℕ). All (λ (p : ℕ). p < held) ps) c.in-Some.ensures.place
    c.requires.there in
    let lt = there 0 0 (omega arith) in
    record {
      seat = c.requires.seat;
      may = record {
        inside = c.requires.inside;
        some = omega (arith, c.requires.some, c.held_len-held.ensures.len);
        kept = omega (arith, c.held_len-held.ensures.len);
        copied = omega (arith, lt);
        room = omega (arith, c.requires.room, c.held_len-held.ensures.len);
      };
    }

pub returns-in-Some-clause-held : goal.returns-in-Some-clause-held
returns-in-Some-clause-held g c before places fit there so =
    let b = bound c.args.heap.now c.args.seat.now in
    let new = bound c.args.heap.now c.keep.new.seat in
    let is = c.in-Some.ensures.place in
    let held = length before.seat.me.own.held in
    let lt = subst (λ (ps : List ℕ). All (λ (p : ℕ). p < held) ps) is there 0 0 (omega arith) in
    subst (λ (ps : List ℕ). HoldsAgain before (places ++ ps) new) (sym is)
    (again_more before b new places c.in-Some.place c.held_len-held.result fit lt
    c.held_len-held.ensures.len so c.keep.ensures.told)

pub returns-in-None-clause-held : goal.returns-in-None-clause-held
returns-in-None-clause-held g c before places fit there so =
    let b = bound c.args.heap.now c.args.seat.now in
    subst (λ (ps : List ℕ). HoldsAgain before (places ++ ps) b) (sym c.in-None.ensures.none)
    (subst (λ (ps : List ℕ). HoldsAgain before ps b) (sym (append-nil places)) so)
