use Rattle.held_places.proofs.Overwriting.{exchanged_box, overwrote_box}
use Rattle.held_places.proofs.Writing.{wrote_box}
use Rattle.held_places.proofs.theorems.a_named_box_is_known.Goals as goal

pub returns : goal.returns
returns g c = record {
  stored = λ next a b place f new there named is. overwrote_box a b place f new there named is;
  exchanged = λ reads next a b place f new seen there named is.
      exchanged_box a b place f new there named seen is;
  written = wrote_box g.P.Keeping.fixed g.P.Keeping.holds;
}
