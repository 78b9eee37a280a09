-- How a mutator keeps its first places: across each call, and one call after the other.
use Rattle.std.proofs.Common.{◌≡◌, ◌<◌, ◌≤◌, ℕ, List, ◌++◌, length, take}
use Rattle.std.proofs.Common.{sym, ◌∙◌, ap, subst, arith}
use Rattle.std.proofs.lemmas.List.{append-nil, append_assoc, take-map, take-take, take_all}
use Rattle.std.proofs.lemmas.List.{take_at}
use Rattle.client_trees.specs.declared.at.NodeAt.TheVariants as at
use Rattle.client_trees.specs.Records.{IsRecord, IsSomething, known_term}
use Rattle.client_trees.proofs.Places.{cut_many}
use Rattle.client_trees.specs.Leaves.{Leaves, LeavesAll}
use Rattle.client_trees.specs.Nodes.{IsTreeAt, tree_at}
use Rattle.core_machine.specs.Places.{no_place}
use Rattle.core_machine.specs.declared.events.Event.TheVariants as event
use Rattle.core_machine.specs.declared.events.Found.{Found}
use Rattle.core_machine.specs.declared.events.Taken.{Taken}
use Rattle.core_machine.specs.declared.places.Held.{Held}
use Rattle.doc_records.specs.Trees.{IsTreeNode, tree_of}
use Rattle.heap_rule.specs.Asks.{known_of}
use Rattle.heap_rule.specs.Lore.{cells_in}
use Rattle.heap_rule.specs.declared.known.Known.{Known}
use Rattle.heap_rule.specs.declared.known.Known.TheVariants as knows
use Rattle.minor_heap.specs.Nursery.{Nursery}
use Rattle.mutator_seat.specs.Bound.{Bound, held_cells, takes}
use Rattle.mutator_seat.specs.Stretches.{Calm}
use Rattle.trails.specs.Asks.{Ask, Grown}
use Rattle.trails.specs.Marks.{Mark}
use Rattle.version_rule.specs.Fits.{Grows}
use Rattle.version_rule.specs.Pass.{Pass}
use Rattle.version_rule.proofs.Trees.{grows_still}
use Rattle.held_places.specs.Calls.{Goes}
use Rattle.version_store.specs.Calls.{StillKnown}
use Rattle.version_store.specs.Lasts.{LastsAcross, marks}
use Rattle.held_places.proofs.Going.{calm_goes, cut_claims, cut_goes, cut_known, cut_pass}
use Rattle.held_places.proofs.Going.{kept_known, known_below, known_then, many_cells, many_held}
use Rattle.held_places.proofs.Going.{still_same}
use Rattle.version_store.proofs.Lasting.{goes_same, lasts_by, same_then}
use Rattle.doc_export.specs.Still.{Stays}
use Rattle.version_rule.specs.Versions.{is_fixed}

-- One call after the other.

grown_then : {a b c : List Mark} → Grown a b → Grown b c → Grown a c
grown_then {a = a} first second = record {
  added = first.added ++ second.added;
  is = second.is ∙ ap (λ (ms : List Mark). ms ++ second.added) first.is
      ∙ append_assoc a first.added second.added;
}

pub keeps_then : {places : ℕ} {a b c : Bound Pass} → Stays places a b → Stays places b c
    → Stays places a c
keeps_then {places = places} {a = a} {b = b} {c = c} first second = record {
  same = same_then a b c first.same second.same;
  longer = second.longer;
  held = second.held ∙ first.held;
  known = known_then is_fixed places a b c first.known second.known;
  pass = second.pass ∙ first.pass;
  claims = second.claims ∙ first.claims;
  grown = grown_then first.grown second.grown;
}

pub keeps_fewer : {places : ℕ} {a b : Bound Pass} (few : ℕ) → few ≤ places → Stays places a b
    → Stays few a b
keeps_fewer {places = places} {a = a} {b = b} few le keeps = record {
  same = keeps.same;
  longer = let long = keeps.longer in omega (arith, long, le);
  held = sym (take-take few places (held_cells b) le)
      ∙ ap (λ (cs : List ℕ). take few cs) keeps.held
      ∙ take-take few places (held_cells a) le;
  known = known_below is_fixed places few a b le keeps.known;
  pass = keeps.pass;
  claims = keeps.claims;
  grown = keeps.grown;
}

-- where as many are held, the held list is as it was
pub held_again : (a b : Bound Pass) → Stays (length a.seat.me.own.held) a b
    → length b.seat.me.own.held ≡ length a.seat.me.own.held → held_cells b ≡ held_cells a
held_again a b keeps many =
    let places = length a.seat.me.own.held in
    let here = many_cells a in
    let there = many_cells b in
    sym (take_all places (held_cells b) (omega (arith, there, many)))
    ∙ keeps.held
    ∙ take_all places (held_cells a) (omega (arith, here))

-- A call on trees.

stays : (j k : Known) → (IsSomething j → k ≡ j) → StillKnown j k
stays knows.Nothing k same = tt
stays (knows.Raw fields) k same = same tt
stays (knows.Fresh fields) k same = same tt
stays (knows.Record t) k same = same tt
stays (knows.Boxed told) k same =
    subst (λ (x : Known). StillKnown (knows.Boxed told) x) (sym (same tt))
    (still_same is_fixed (knows.Boxed told))

pub keeps_left : (m n : Bound Pass) (old new : Nursery) → Leaves m n old new
    → Stays (length m.seat.me.own.held) m n
keeps_left m n old new left =
    let places = length m.seat.me.own.held in
    record {
      same = record {
        heap = left.heap;
        table = left.table;
        shape = left.shape;
        role = left.role;
        number = left.number;
        room = left.room;
        inside = ap (λ p. p.inside) left.presence;
        over = ap (λ p. p.over) left.presence;
      };
      longer = let more = many_held m n left.added left.held in omega (arith, more);
      held = ap (λ (cs : List ℕ). take places cs) left.held
          ∙ take_at (held_cells m) left.added places (many_cells m)
          ∙ sym (take_all places (held_cells m) (let here = many_cells m in omega (arith, here)));
      known = λ place lt. stays (known_of m.seat.me place) (known_of n.seat.me place)
          (left.known place lt);
      pass = left.pass;
      claims = left.claims;
      grown = left.marks;
    }

-- By the trail.

grown_by : {asks : List Ask} (a b : Bound Pass) → Goes asks a b
    → b.seat.me.pass ≡ a.seat.me.pass → b.seat.me.own.claims ≡ a.seat.me.own.claims
    → Grown (marks a) (marks b)
grown_by a b goes pass claims =
    let lasts : LastsAcross a b = lasts_by a b goes
    (subst (λ (p : Pass). Grows a.seat.me.pass p) (sym pass) (grows_still a.seat.me.pass))
    (omega (arith, claims)) in
    lasts.grown

pub keeps_calm : (F : List Taken → Type 0) (a b : Bound Pass) → Calm F a b
    → Stays (length a.seat.me.own.held) a b
keeps_calm F a b calm =
    let places = length a.seat.me.own.held in
    let goes = calm_goes F a b calm in
    record {
      same = goes_same a b goes;
      longer = let here = many_cells a in let there = many_cells b in
          let cells = ap (λ (cs : List ℕ). length cs) calm.kept.held in
          omega (arith, here, there, cells);
      held = ap (λ (cs : List ℕ). take places cs) calm.kept.held;
      known = kept_known is_fixed places a b calm.kept;
      pass = calm.kept.pass;
      claims = calm.kept.claims;
      grown = grown_by a b goes calm.kept.pass calm.kept.claims;
    }

pub many_calm : (F : List Taken → Type 0) (a b : Bound Pass) → Calm F a b
    → length b.seat.me.own.held ≡ length a.seat.me.own.held
many_calm F a b calm =
    let here = many_cells a in
    let there = many_cells b in
    let cells = ap (λ (cs : List ℕ). length cs) calm.kept.held in omega (arith, here, there, cells)

-- The places after the first so many are given back.
module _ (b c : Bound Pass) (n : ℕ) (p : Found)
    (told : c ≡ takes b (event.Keep b.seat.me.number n 0 0) p)
    (few : n ≤ length b.seat.me.own.held) where
  pub cut_length : length c.seat.me.own.held ≡ n
  cut_length = ap (λ (m : Bound Pass). length m.seat.me.own.held) told
      ∙ cut_many no_place b.seat.me.own.held n few

  pub cut_cells : held_cells c ≡ take n (held_cells b)
  cut_cells = ap (λ (m : Bound Pass). held_cells m) told
      ∙ ap cells_in (append-nil (take n b.seat.me.own.held))
      ∙ sym (take-map (λ (h : Held). h.cell) n b.seat.me.own.held)

  pub keeps_cut : Stays n b c
  keeps_cut = record {
    same = goes_same b c (cut_goes b c n p told);
    longer = let is = cut_length in omega (arith, is);
    held = ap (λ (cs : List ℕ). take n cs) cut_cells ∙ take-take n n (held_cells b) (omega arith);
    known = cut_known is_fixed b c n p told;
    pass = cut_pass b c n p told;
    claims = cut_claims b c n p told;
    grown = grown_by b c (cut_goes b c n p told) (cut_pass b c n p told) (cut_claims b c n p told);
  }

-- A tree whose root is held at one of the places.

record_same : (j k : Known) → StillKnown j k → IsRecord j → k ≡ j
record_same knows.Nothing k still is = absurd is
record_same (knows.Raw fields) k still is = absurd is
record_same (knows.Fresh fields) k still is = absurd is
record_same (knows.Record t) k still is = still
record_same (knows.Boxed told) k still is = absurd is

module _ {places : ℕ} (m n : Bound Pass) (old new : Nursery) (keeps : Stays places m n)
    (place : ℕ) (lt : place < places) (is : IsTreeAt m old (at.Shared place)) where
  same_known : known_of n.seat.me place ≡ known_of m.seat.me place
  same_known = record_same (known_of m.seat.me place) (known_of n.seat.me place)
      (keeps.known place lt) is.stands.1

  pub tree_still : IsTreeAt n new (at.Shared place)
  tree_still = record {
    stands = (
      let long = keeps.longer in omega (arith, lt, long),
      subst IsRecord (sym same_known) is.stands.1,
    );
    node = subst (λ (k : Known). IsTreeNode (known_term k)) (sym same_known) is.node;
  }

  pub tree_same : tree_at n new (at.Shared place) ≡ tree_at m old (at.Shared place)
  tree_same = ap (λ (k : Known). tree_of (known_term k)) same_known

pub keeps_on : {places : ℕ} {a b c : Bound Pass} → Stays places a b
    → Stays (length b.seat.me.own.held) b c → Stays places a c
keeps_on {places = places} first second =
    keeps_then first (keeps_fewer places first.longer second)

pub keeps_lasts : (places : ℕ) (a b : Bound Pass) → Stays places a b → LastsAcross a b
keeps_lasts places a b keeps =
    let grows : Grows a.seat.me.pass b.seat.me.pass =
    subst (λ (p : Pass). Grows a.seat.me.pass p) (sym keeps.pass) (grows_still a.seat.me.pass) in
    record {
      narrows = grows.narrows;
      keep = grows.keep;
      seen = grows.seen;
      cut = grows.cut;
      grown = keeps.grown;
      claims = let same = keeps.claims in omega (arith, same);
    }

pub many_all : (m n : Bound Pass) (old new : Nursery) → LeavesAll m n old new
    → length n.seat.me.own.held ≡ length m.seat.me.own.held
many_all m n old new left =
    let here = many_cells m in
    let there = many_cells n in
    let cells = ap (λ (cs : List ℕ). length cs) left.held in omega (arith, here, there, cells)
