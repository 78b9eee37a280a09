use Rattle.std.proofs.Common.{◌++◌, ◌∷◌, ◌∙◌, [], List, ap, arith, length, sym}
use Rattle.std.specs.Prelude.{slice_index_or}
use Rattle.minor_heap.specs.declared.fields.MinorRef.{MinorRef}
use Rattle.local_references.specs.Roots.{private_of}
use Rattle.local_references.specs.declared.roots.Root.TheVariants as root
use Rattle.local_references.proofs.Ranks.{at_any, next_root, rank_few}
use Rattle.local_references.proofs.moving.take_private.Goals as goal

pub take_one-requires : goal.take_one-requires
take_one-requires c =
    let few = rank_few c.args.slots.now c.loop-i.i in
    let many = ap (λ (rs : List MinorRef). length rs) c.loop-i.invariant.0 in
    record {
      room = omega (
        arith,
        few,
        many,
        c.loop-i.invariant.1,
        c.loop-i-test.true,
        c.requires.room,
      );
    }

pub loop-i-preserved : goal.loop-i-preserved
loop-i-preserved c =
    let slots = c.args.slots.now in
    let i = c.loop-i.i in
    let x = slice_index_or slots i root.Null in (
      c.take_one.ensures.taken
          ∙ ap (λ (rs : List MinorRef). rs ++ private_of (x ∷ [])) c.loop-i.invariant.0
          ∙ sym (next_root slots i x c.loop-i-test.true
          (at_any slots i root.Null c.loop-i-test.true)),
      c.take_one.ensures.capacity ∙ c.loop-i.invariant.1,
    )
