use Rattle.std.proofs.Common.{refl}
use Rattle.heap_census.specs.Heap.{heap_of}
use Rattle.heap_census.proofs.images.image_text.Goals as goal

pub returns : goal.returns
returns c = λ s shows. c.in_ok-text.ensures (heap_of s) (s, shows, refl)
