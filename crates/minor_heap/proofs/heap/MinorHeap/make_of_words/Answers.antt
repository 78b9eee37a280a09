use Rattle.std.proofs.Common.{ap, length, arith}
use Rattle.minor_heap.specs.Nursery.{Nursery}
use Rattle.minor_heap.proofs.Packing.{fits_numbered}
use Rattle.minor_heap.proofs.heap.MinorHeap.make_of_words.Goals as goal

pub of_words-requires : goal.of_words-requires
of_words-requires c =
    let count = ap (λ (n : Nursery). length n.records) c.self.view_is in
    record {
      numbered = fits_numbered (length c.args.self.now.records)
          (omega (arith, count, c.self.invariant.count, c.self.invariant.few)) c.args.kinds
          c.args.words c.requires.fields;
    }
