-- The draft and a tree in the making, which stay while all else is dropped: their copies, and what
-- is known of these.
use Rattle.std.proofs.Common.{◌≡◌, ◌<◌, ◌≤◌, ◌+◌, ◌-◌, ℕ, zero, suc, List, [], ◌∷◌, ◌++◌, length}
use Rattle.std.proofs.Common.{map, take, refl, sym, ◌∙◌, ap, subst, arith}
use Rattle.std.proofs.Common.{Option, Result, Ok, Err}
use Rattle.std.specs.Prelude.{IfOk, IsNone, OnOk}
use Rattle.std.specs.List.{All}
use Rattle.std.specs.Prelude.{slice_index_or}
use Rattle.std.proofs.lemmas.List.{length-append, length-map, length-take-le}
use Rattle.std.proofs.lemmas.List.Elements.{All-contains}
use Rattle.aged_nursery.specs.Aged.{Aged}
use Rattle.cell_words.specs.Term.{Term}
use Rattle.client_trees.specs.declared.at.NodeAt.{NodeAt}
use Rattle.client_trees.specs.declared.at.NodeAt.TheVariants as at
use Rattle.client_trees.specs.Records.{IsRecord, known_term}
use Rattle.client_trees.proofs.Places.{at_kept}
use Rattle.client_trees.proofs.Resting.{rests_stands}
use Rattle.client_session.specs.Handles.{Still}
use Rattle.client_trees.specs.Nodes.{IsTreeAt}
use Rattle.doc_records.specs.Trees.{IsTreeNode}
use Rattle.client_history.specs.Spelled.{node_is_record}
use Rattle.heap_rule.specs.Asks.{known_of}
use Rattle.heap_rule.specs.Lore.{known_at}
use Rattle.heap_rule.specs.declared.known.Known.{Known}
use Rattle.heap_rule.specs.declared.known.Known.TheVariants as knows
use Rattle.minor_heap.specs.declared.fields.MinorRef.{MinorRef}
use Rattle.minor_heap.specs.Nursery.{Nursery, Stands}
use Rattle.mutator_seat.specs.Bound.{Bound, held_cells}
use Rattle.promotion.specs.Promoting.{Collected, knows_term}
use Rattle.promotion.specs.Sharing.{ShareRecords}
use Rattle.version_rule.specs.Pass.{Pass}
use Rattle.held_places.proofs.Going.{many_cells}
use Rattle.client_heap.specs.Carries.{Follows}
use Rattle.client_heap.specs.Shared.{HoldsTerm, shared_place}
use Rattle.client_heap.specs.Shows.{handles_of, node_term, state_of}
use Rattle.client_heap.specs.Sound.{HasRoom, IsSound}
use Rattle.client_heap.proofs.Carrying.{carries_none}
use Rattle.client_heap.proofs.Copies.{reached_shares}
use Rattle.client_heap.proofs.Resting.{still_on}

-- Lists by place.

module _ {A : Type 0} (d : A) where
  behind_first : (xs zs : List A) (n j k : ℕ) → n ≤ length xs → j ≡ n + k
      → slice_index_or (take n xs ++ zs) j d ≡ slice_index_or zs k d
  behind_first xs zs zero j k few is =
      let same : j ≡ k = omega (arith, is) in ap (λ (i : ℕ). slice_index_or zs i d) same
  behind_first [] zs (suc n) j k few is = absurd (omega (arith, few))
  behind_first (x ∷ xs) zs (suc n) zero k few is = absurd (omega (arith, is))
  behind_first (x ∷ xs) zs (suc n) (suc j) k few is =
      behind_first xs zs n j k (omega (arith, few)) (omega (arith, is))

  mapped_at : {B : Type 0} (f : B → A) (ys : List B) (k : ℕ) (y : B) → k < length ys
      → slice_index_or ys k y ≡ y → slice_index_or (map f ys) k d ≡ f y
  mapped_at f [] k y lt is = absurd (omega (arith, lt))
  mapped_at f (z ∷ ys) zero y lt is = ap f is
  mapped_at f (z ∷ ys) (suc k) y lt is = mapped_at f ys k y (omega (arith, lt)) is

-- Copies of private nodes, after all that is held.
module _ (m n : Bound Pass) (minor : Nursery) (roots : List MinorRef) (base : ℕ)
    (collected : Collected m minor.records roots base n)
    (fit : length m.seat.me.known ≡ length m.seat.me.own.held)
    (all : base ≡ length m.seat.me.own.held) where
  pub nodes_held : length n.seat.me.own.held ≡ length m.seat.me.own.held + length roots
  nodes_held =
      let there = many_cells n in
      let here = many_cells m in
      let cells = ap (λ (cs : List ℕ). length cs) collected.held
      ∙ length-append (take base (held_cells m)) (map collected.cell roots) in
      let first = length-take-le base (held_cells m) (omega (arith, here, all)) in
      let second = length-map roots collected.cell in
      omega (arith, there, here, cells, first, second, all)

  pub nodes_known : (p : ℕ) → p < length m.seat.me.own.held
      → known_of n.seat.me p ≡ known_of m.seat.me p
  nodes_known p lt = ap (λ (ks : List Known). known_at ks p) collected.known
      ∙ at_kept knows.Nothing m.seat.me.known (map (knows_term m minor.records) roots) base p
      (omega (arith, lt, all)) (omega (arith, fit, all))

  pub nodes_copied : (first k : ℕ) (r : MinorRef) → first ≡ base → k < length roots
      → slice_index_or roots k r ≡ r → HoldsTerm n (first + k) (node_term m minor (at.Minor r))
  nodes_copied first k r is lt stands = record {
    there = let more = nodes_held in omega (arith, more, is, all, lt);
    known = ap (λ (j : ℕ). known_of n.seat.me (j + k)) is
        ∙ ap (λ (ks : List Known). known_at ks (base + k)) collected.known
        ∙ behind_first knows.Nothing m.seat.me.known (map (knows_term m minor.records) roots) base
        (base + k) k (omega (arith, fit, all)) refl
        ∙ mapped_at knows.Nothing (knows_term m minor.records) roots k r lt stands;
  }

-- the second of two is held last
pub last_copied : {E : Type 0} (m n : Bound Pass) (minor : Nursery) (q r : MinorRef)
    (result : Result ℕ E) → IfOk result (λ first. first ≡ length m.seat.me.own.held)
    → OnOk result (length n.seat.me.own.held
    ≡ length m.seat.me.own.held + length (q ∷ r ∷ []))
    → IfOk result (λ first. (k : ℕ) (p : MinorRef) → k < length (q ∷ r ∷ [])
    → slice_index_or (q ∷ r ∷ []) k p ≡ p
    → HoldsTerm n (first + k) (node_term m minor (at.Minor p)))
    → (y : NodeAt) → y ≡ at.Minor r
    → OnOk result (HoldsTerm n (shared_place (length n.seat.me.own.held - 1) y)
    (node_term m minor y))
last_copied m n minor q r (Ok first) is held copied y same =
    let more : length n.seat.me.own.held ≡ length m.seat.me.own.held + 2 = held in
    let last : first + 1 ≡ length n.seat.me.own.held - 1 = omega (arith, more, is) in
    let lt : 1 < 2 = omega arith in
    subst
    (λ (a : NodeAt). HoldsTerm n (shared_place (length n.seat.me.own.held - 1) a)
    (node_term m minor a))
    (sym same)
    (subst (λ (k : ℕ). HoldsTerm n k (node_term m minor (at.Minor r))) last
    (copied 1 r lt refl))
last_copied m n minor q r (Err full) is held copied y same = tt

-- What a collection of such nodes needs.
module _ (m : Bound Pass) (minor : Nursery) (roots : List MinorRef)
    (nodes : All (λ r. IsTreeAt m minor (at.Minor r)) roots) where
  pub nodes_stand : All (Stands minor.records) roots
  nodes_stand k d lt = rests_stands _ _ _ (nodes k d lt).stands

  pub nodes_share : ShareRecords m.seat.me.known minor.records roots
  nodes_share = reached_shares m.seat.me.known minor.records (length m.seat.me.own.held) roots
      (λ r is. (All-contains (λ q. IsTreeAt m minor (at.Minor q)) roots r nodes is).stands)

module _ {A : Type 0} (P : A → Type 0) where
  pub none_all : All P []
  none_all k d lt = absurd (omega (arith, lt))

  pub one_all : (a : A) → P a → All P (a ∷ [])
  one_all a is zero d lt = is
  one_all a is (suc k) d lt = absurd (omega (arith, lt))

  pub two_all : (a b : A) → P a → P b → All P (a ∷ b ∷ [])
  two_all a b is also zero d lt = is
  two_all a b is also (suc zero) d lt = also
  two_all a b is also (suc (suc k)) d lt = absurd (omega (arith, lt))

-- A shared node stays where it is.

record_known : (k : Known) → IsRecord k → k ≡ knows.Record (known_term k)
record_known knows.Nothing is = absurd is
record_known (knows.Raw fields) is = absurd is
record_known (knows.Fresh fields) is = absurd is
record_known (knows.Record t) is = refl
record_known (knows.Boxed told) is = absurd is

pub shared_holds : (m n : Bound Pass) (minor : Nursery) (place : ℕ)
    → IsTreeAt m minor (at.Shared place)
    → ((p : ℕ) → p < length m.seat.me.own.held → known_of n.seat.me p ≡ known_of m.seat.me p)
    → length m.seat.me.own.held ≤ length n.seat.me.own.held
    → HoldsTerm n place (node_term m minor (at.Shared place))
shared_holds m n minor place node same longer = record {
  there = let lt = node.stands.0 in omega (arith, lt, longer);
  known = same place node.stands.0
      ∙ record_known (known_of m.seat.me place) node.stands.1;
}

-- what is known of a cell that is held once more
pub term_on : (p n : Bound Pass) (place x k : ℕ) (t : Term) → HoldsTerm p place t → x ≡ place
    → known_of n.seat.me k ≡ known_of p.seat.me x → known_of n.seat.me k ≡ knows.Record t
term_on p n place x k t holds is known =
    known ∙ ap (λ (i : ℕ). known_of p.seat.me i) is ∙ holds.known

-- A node at a place that holds its term.
module _ (n : Bound Pass) (minor : Nursery) (place : ℕ) (t : Term)
    (known : known_of n.seat.me place ≡ knows.Record t) where
  pub held_term : node_term n minor (at.Shared place) ≡ t
  held_term = ap known_term known

  module _ (is : IsTreeNode t) where
    held_record : IsRecord (known_of n.seat.me place)
    held_record = subst IsRecord (sym known) (node_is_record t is)

    pub held_node : place < length n.seat.me.own.held → IsTreeAt n minor (at.Shared place)
    held_node lt = record {
      stands = (lt, held_record);
      node = subst IsTreeNode (sym held_term) is;
    }

-- The draft on the place after the anchor, with no private record left.
module _ (m n : Bound Pass) (old new : Nursery) (d : NodeAt) (b : ℕ) (sound : IsSound m old d b)
    (f : Follows m n old new) (none : length new.records ≡ 0)
    (held : length n.seat.me.own.held ≡ 3) where
  pub pair_sound : IsTreeAt n new (at.Shared 1) → IsSound n new (at.Shared 1) 2
  pair_sound node =
      let same = f.room in
      let still = f.minor_room in
      let many = sound.records in
      let places = sound.places in
      record {
        inside = f.inside ∙ sound.inside;
        some = omega arith;
        kept = omega (arith, held);
        stands = (omega arith, node.stands.1);
        node = node.node;
        records = omega (arith, still, many);
        places = omega (arith, same, still, places);
        ready = omega (arith, none, same, many, places);
      }

  pub pair_room : HasRoom n new
  pair_room =
      let same = f.room in
      let still = f.minor_room in
      let many = sound.records in
      let places = sound.places in
      record {
        room = omega (arith, none, same, many, places, held);
        spare = omega (arith, none, still, many);
      }

-- Without an ageing or a collection nothing happens.
module _ {E : Type 0} (m n : Bound Pass) (old new : Aged) (d e : NodeAt) (b k : ℕ)
    (r : Result (Option NodeAt) E) where
  pub idle_still : IfOk r (λ moved. IsNone moved → (n ≡ m) × (new ≡ old) × (e ≡ d) × (k ≡ b))
      → IfOk r (λ moved. IsNone moved → Still (handles_of m old.heap) (handles_of n new.heap))
  idle_still = by_result r
    where
      by_result : (r : Result (Option NodeAt) E)
          → IfOk r (λ moved. IsNone moved → (n ≡ m) × (new ≡ old) × (e ≡ d) × (k ≡ b))
          → IfOk r (λ moved. IsNone moved → Still (handles_of m old.heap) (handles_of n new.heap))
      by_result (Ok moved) idle = λ none.
          let is = idle none in
          subst (λ (x : Bound Pass). Still (handles_of m old.heap) (handles_of x new.heap))
          (sym is.0)
          (subst (λ (y : Aged). Still (handles_of m old.heap) (handles_of m y.heap)) (sym is.1)
          (still_on m m old.heap old.heap (carries_none m old.heap)))
      by_result (Err full) idle = tt

  pub idle_state : IfOk r (λ moved. IsNone moved → (n ≡ m) × (new ≡ old) × (e ≡ d) × (k ≡ b))
      → IfOk r (λ moved. IsNone moved → state_of n new.heap e k ≡ state_of m old.heap d b)
  idle_state = by_result r
    where
      by_result : (r : Result (Option NodeAt) E)
          → IfOk r (λ moved. IsNone moved → (n ≡ m) × (new ≡ old) × (e ≡ d) × (k ≡ b))
          → IfOk r (λ moved. IsNone moved → state_of n new.heap e k ≡ state_of m old.heap d b)
      by_result (Ok moved) idle = λ none.
          let is = idle none in λ j. state_of (is.0 j) (is.1 j).heap (is.2 j) (is.3 j)
      by_result (Err full) idle = tt
