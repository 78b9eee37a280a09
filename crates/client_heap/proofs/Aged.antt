-- After an ageing: what rested on some places and leads to no others rests on them again. So nodes
-- stand and say what they said, and so does the draft.
use Rattle.std.proofs.Common.{◌≡◌, ◌<◌, ◌≤◌, ◌+◌, ℕ, zero, suc, List, [], length}
use Rattle.std.proofs.Common.{sym, ◌∙◌, ap, subst, arith}
use Rattle.std.specs.Prelude.{slice_index_or}
use Rattle.std.proofs.lemmas.List.{get_or-map, length-map}
use Rattle.aged_nursery.specs.Survivors.{AreSurvivors, Leads, by, here, root_at}
use Rattle.cell_words.specs.Term.{Term, null}
use Rattle.client_trees.specs.declared.at.NodeAt.{NodeAt}
use Rattle.client_trees.specs.declared.at.NodeAt.TheVariants as at
use Rattle.client_trees.specs.Records.{IsAmong, Rests, rests, terms_known}
use Rattle.client_trees.proofs.Resting.{rests_older, rests_place}
use Rattle.client_trees.specs.Nodes.{IsTreeAt}
use Rattle.doc_records.specs.Trees.{IsTreeNode}
use Rattle.minor_heap.specs.declared.fields.MinorField.{MinorField}
use Rattle.minor_heap.specs.declared.fields.MinorRef.{MinorRef}
use Rattle.minor_heap.specs.Nursery.{FitsRecord, IsOrdered, Nursery}
use Rattle.minor_heap.specs.Terms.{term_of}
use Rattle.minor_heap.proofs.Terms.{fits_is}
use Rattle.mutator_seat.specs.Bound.{Bound}
use Rattle.version_rule.specs.Pass.{Pass}
use Rattle.client_heap.specs.Ages.{Ages}
use Rattle.client_heap.specs.Shows.{node_term}
use Rattle.client_heap.specs.Sound.{IsSound}

module _ (records : List (List MinorField)) (ok : ℕ → Type 0) where
  -- what rests leads only to such places
  leads_ok : (place : ℕ) (r : MinorRef) → Leads records place r → Rests records ok r → ok place
  leads_ok place r (here i lt names) stands = rests_place records ok r i place stands lt names
  leads_ok place r (by {older = t} i lt names leads) stands =
      leads_ok place t leads (rests_older records ok r i t stands lt names)

  -- and what leads only to such places rests
  rests_below : IsOrdered 0 records → (n : ℕ) (r : MinorRef) → r.number < n
      → r.number < length records → ((place : ℕ) → Leads records place r → ok place)
      → Rests records ok r
  rests_below ordered zero r lt stands leads = absurd (omega (arith, lt))
  rests_below ordered (suc n) r lt stands leads =
      rests stands (λ i place five names. leads place (here i five names))
      (λ i older five names.
      let less : older.number < r.number =
      subst (λ (f : MinorField). FitsRecord r.number f) names
      (fits_is records r.number i ordered stands) in
      rests_below ordered n older (omega (arith, less, lt)) (omega (arith, less, stands))
      (λ place on. leads place (by {older = older} i five names on)))

  rests_on : IsOrdered 0 records → (r : MinorRef) → r.number < length records
      → ((place : ℕ) → Leads records place r → ok place) → Rests records ok r
  rests_on ordered r stands leads =
      rests_below ordered (r.number + 1) r (omega arith) stands leads

-- Root k of those that survive.
module _ (old new : List (List MinorField)) (from to : List MinorRef)
    (survive : AreSurvivors old from new to) (ordered : IsOrdered 0 new) (k : ℕ)
    (lt : k < length from) where
  zeroth : MinorRef
  zeroth = record { number = 0 }

  within : k < length to
  within =
      let many = ap (λ (ts : List Term). length ts) (survive.terms []) in
      omega (arith, lt, many, length-map to (term_of [] new), length-map from (term_of [] old))

  root_rests : (ok : ℕ → Type 0) → Rests old ok (root_at from k) → Rests new ok (root_at to k)
  unfolding zeroth
  root_rests ok stands =
      rests_on new ok ordered (root_at to k) (survive.stand k zeroth within)
      (λ place leads.
      leads_ok old ok place (root_at from k) (survive.places k place lt leads) stands)

  root_term : (shared : List Term)
      → term_of shared new (root_at to k) ≡ term_of shared old (root_at from k)
  unfolding zeroth
  root_term shared =
      sym (get_or-map (term_of shared new) to k zeroth null within)
      ∙ ap (λ (ts : List Term). slice_index_or ts k null) (survive.terms shared)
      ∙ get_or-map (term_of shared old) from k zeroth null lt

  pub root_ages : Ages old new (at.Minor (root_at from k)) (at.Minor (root_at to k))
  root_ages = record {
    still = λ known places stands. root_rests (IsAmong known places) stands;
    same = λ known. root_term (terms_known known);
  }

-- For a mutator, which has no part in it.
module _ (m : Bound Pass) (old new : Nursery) (room : new.room ≡ old.room)
    (fewer : length new.records ≤ length old.records) (d e : NodeAt)
    (ages : Ages old.records new.records d e) where
  aged_term : node_term m new e ≡ node_term m old d
  aged_term = ages.same m.seat.me.known

  pub aged_sound : (b : ℕ) → IsSound m old d b → IsSound m new e b
  aged_sound b sound = record {
    inside = sound.inside;
    some = sound.some;
    kept = sound.kept;
    stands = ages.still m.seat.me.known b sound.stands;
    node = subst IsTreeNode (sym aged_term) sound.node;
    records = let many = sound.records in omega (arith, many, room);
    places = let many = sound.places in omega (arith, many, room);
    ready = let enough = sound.ready in omega (arith, enough, fewer);
  }

  pub aged_node : IsTreeAt m old d → IsTreeAt m new e
  aged_node node = record {
    stands = ages.still m.seat.me.known (length m.seat.me.own.held) node.stands;
    node = subst IsTreeNode (sym aged_term) node.node;
  }
