use Rattle.std.proofs.Common.{◌<◌, ◌∙◌, ◌∷◌, [], ℕ, List, All, length, sym, ap, subst}
use Rattle.std.proofs.Common.{arith, take}
use Rattle.std.proofs.lemmas.List.{length-take-le}
use Rattle.promotion.proofs.Holding.{appended_none}
use Rattle.mutator_seat.specs.Bound.{bound}
use Rattle.local_references.specs.declared.roots.Root.{Root}
use Rattle.local_records.specs.Settling.{HoldsAgain, places_of}
use Rattle.local_records.proofs.Ending.{again_many, next_places, places_few}
use Rattle.local_records.proofs.settling.hold_roots.Goals as goal

pub loop-i-init : goal.loop-i-init
loop-i-init g c = (c.requires.seat, appended_none (bound c.args.heap.now c.args.seat.now))

pub hold_root-requires : goal.hold_root-requires
hold_root-requires g c =
    let a = bound c.args.heap.now c.args.seat.now in
    let b = bound c.args.heap.now c.loop-i.seat in
    let i = c.loop-i.i in
    let roots = c.args.stack.now.roots in
    let copies = c.args.table.now.places in
    let so = c.loop-i.invariant.1 in
    let lt : i < length roots = omega (arith, c.loop-i-test.true) in
    let many = again_many a b (places_of copies (take i roots)) so in
    let few = places_few copies (take i roots) in
    let first = length-take-le i roots (omega (arith, lt)) in
    let is = c.root-root.ensures.root in
    record {
      seat = c.loop-i.invariant.0;
      inside = so.stays.inside ∙ c.requires.inside;
      some = omega (arith, many, c.requires.some);
      room = omega (arith, many, few, first, lt, c.requires.room, so.stays.room);
      fits = λ r private. c.requires.fits i r (sym is ∙ private);
      copied = λ r private. c.requires.copied i r (sym is ∙ private);
      there = λ k d less.
          let there = subst (λ (x : Root).
          All (λ (p : ℕ). p < length a.seat.me.known) (places_of copies (x ∷ []))) (sym is)
          (c.requires.there i) k d less in omega (arith, there, many, c.requires.fit);
    }

pub loop-i-preserved : goal.loop-i-preserved
loop-i-preserved g c =
    let a = bound c.args.heap.now c.args.seat.now in
    let new = bound c.args.heap.now c.hold_root.new.seat in
    let i = c.loop-i.i in
    let roots = c.args.stack.now.roots in
    let copies = c.args.table.now.places in
    let lt : i < length roots = omega (arith, c.loop-i-test.true) in
    let is = c.root-root.ensures.root in
    let more = places_of copies (c.root-root.result ∷ []) in (
      c.hold_root.ensures.seat,
      subst (λ (ps : List ℕ). HoldsAgain a ps new)
          (sym (next_places copies roots i more lt
          (ap (λ (x : Root). places_of copies (x ∷ [])) (sym is))))
          (c.hold_root.ensures.held a (places_of copies (take i roots)) c.requires.fit
          (λ k d less.
          let there = subst (λ (x : Root).
          All (λ (p : ℕ). p < length a.seat.me.known) (places_of copies (x ∷ []))) (sym is)
          (c.requires.there i) k d less in omega (arith, there, c.requires.fit))
          c.loop-i.invariant.1),
    )
