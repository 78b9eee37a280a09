use Rattle.held_places.proofs.Overwriting.{exchanged, overwrote}
use Rattle.held_places.proofs.theorems.a_store_keeps_places.Goals as goal

pub returns : goal.returns
returns g c = record {
  stored = λ next a b place f new there named is. overwrote a b place f new there named is;
  exchanged = λ reads next a b place f new seen found there named is.
      exchanged a b place f new there named seen found is;
}
