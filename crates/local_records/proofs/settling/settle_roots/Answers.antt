use Rattle.std.proofs.Common.{◌≡◌, ◌∙◌, ℕ, arith, sym}
use Rattle.minor_heap.specs.declared.fields.MinorRef.{MinorRef}
use Rattle.mutator_seat.specs.Bound.{bound}
use Rattle.local_references.specs.declared.roots.Root.TheVariants as root
use Rattle.local_references.specs.Roots.{slot_at}
use Rattle.record_copying.specs.Copies.{IsCopied}
use Rattle.local_records.specs.Settling.{places_of}
use Rattle.local_records.proofs.Ending.{again_many, end_many, may_end, of_private, places_few}
use Rattle.local_records.proofs.Ending.{private_stands, root_there, settles}
use Rattle.local_records.proofs.Keeping.{local_copies}
use Rattle.local_records.proofs.Naming.{roots_at}
use Rattle.local_records.proofs.Places.{places_many}
use Rattle.local_records.proofs.settling.settle_roots.Goals as goal

pub hold_roots-requires : goal.hold_roots-requires
hold_roots-requires g c =
    let known = c.args.seat.now.me.known in
    let records = c.args.minor.now.records in
    let copied = c.args.table.now.copied in
    let places = c.args.table.now.places in
    let roots = c.args.stack.now.roots in
    let so = c.requires.local in
    let is_copied : (i : ℕ) (r : MinorRef) → slot_at roots i ≡ root.Private r
    → IsCopied copied r = λ i r is. of_private (IsCopied copied) roots i r c.requires.done is in
    record {
      seat = c.requires.seat;
      inside = c.requires.inside;
      some = omega (arith, c.requires.some, c.requires.base);
      fit = sym c.held_len-first.ensures.len ∙ sym c.held_len-first.ensures.known;
      room = c.requires.room;
      fits = λ i r is. let stands = private_stands records (slot_at roots i) r
          (c.requires.stand i) is in omega (arith, stands, c.requires.fits);
      copied = is_copied;
      there = λ i. root_there known records copied places c.args.named (slot_at roots i)
          (local_copies known c.args.named records copied places roots so) so.within
          (c.requires.stand i) (is_copied i) (roots_at c.args.named roots so.below i);
    }

pub keep-requires : goal.keep-requires
keep-requires g c =
    let a = bound c.args.heap.now c.args.seat.now in
    let d = bound c.args.heap.now c.hold_roots.new.seat in
    let places = places_of c.args.table.now.places c.args.stack.now.roots in
    let so = c.hold_roots.ensures.held in
    let many = again_many a d places so in
    let cells = places_many c.args.table.now.places c.args.stack.now.roots in
    let few = places_few c.args.table.now.places c.args.stack.now.roots in
    record {
      seat = c.hold_roots.ensures.seat;
      may = may_end a d places so c.args.base c.held_len-first.result _ c.requires.base
          c.held_len-first.ensures.len
          (omega (arith, many, c.held_len-first.ensures.len, c.held_len-last.ensures.len))
          c.requires.inside c.requires.some (omega (arith, few, c.requires.room));
    }

pub share_roots-requires : goal.share_roots-requires
share_roots-requires g c =
    let a = bound c.args.heap.now c.args.seat.now in
    let d = bound c.args.heap.now c.hold_roots.new.seat in
    let e = bound c.args.heap.now c.keep.new.seat in
    let records = c.args.minor.now.records in
    let copies = c.args.table.now.places in
    let roots = c.args.stack.now.roots in
    let many = again_many a d (places_of copies roots) c.hold_roots.ensures.held in
    let so = settles a d e records c.args.table.now.copied copies roots c.args.named c.args.base
    c.held_len-first.result _ c.requires.local c.requires.stand c.requires.done
    c.hold_roots.ensures.held c.requires.base c.held_len-first.ensures.len
    (omega (arith, many, c.held_len-first.ensures.len, c.held_len-last.ensures.len))
    (sym c.held_len-first.ensures.len ∙ sym c.held_len-first.ensures.known)
    c.keep.ensures.told in
    let count = end_many a e records copies roots c.args.base so c.requires.base in
    record { fits = sym (c.held_len-end.ensures.len ∙ count) }

pub returns-clause-settled : goal.returns-clause-settled
returns-clause-settled g c =
    let a = bound c.args.heap.now c.args.seat.now in
    let d = bound c.args.heap.now c.hold_roots.new.seat in
    let copies = c.args.table.now.places in
    let roots = c.args.stack.now.roots in
    let many = again_many a d (places_of copies roots) c.hold_roots.ensures.held in
    settles a d (bound c.args.heap.now c.keep.new.seat) c.args.minor.now.records
    c.args.table.now.copied copies roots c.args.named c.args.base c.held_len-first.result _
    c.requires.local c.requires.stand c.requires.done c.hold_roots.ensures.held c.requires.base
    c.held_len-first.ensures.len
    (omega (arith, many, c.held_len-first.ensures.len, c.held_len-last.ensures.len))
    (sym c.held_len-first.ensures.len ∙ sym c.held_len-first.ensures.known) c.keep.ensures.told

pub returns-clause-end : goal.returns-clause-end
returns-clause-end g c =
    let so = returns-clause-settled g c in
    let a = bound c.args.heap.now c.args.seat.now in
    let e = bound c.args.heap.now c.keep.new.seat in
    let count = end_many a e c.args.minor.now.records c.args.table.now.places
    c.args.stack.now.roots c.args.base so c.requires.base in
    c.held_len-end.ensures.len ∙ count
