-- Promotion and minor collections: what they carry on, what their trail shows, and what they need.
use Rattle.std.proofs.Common.{◌≡◌, ◌<◌, ◌≤◌, ◌+◌, ℕ, zero, suc, true, List}
use Rattle.std.proofs.Common.{[], ◌∷◌, ◌++◌, length}
use Rattle.std.proofs.Common.{take, refl, sym, ◌∙◌, ap, subst, arith}
use Rattle.std.specs.Prelude.{slice_index_or}
use Rattle.std.specs.List.{Contains}
use Rattle.std.proofs.lemmas.List.{append_assoc, append-nil}
use Rattle.cell_words.specs.declared.colours.Colour.{Colour}
use Rattle.cell_words.specs.declared.colours.Colour.TheVariants as colour
use Rattle.cell_words.specs.declared.fields.Field.{Field}
use Rattle.cell_words.specs.declared.fields.Field.TheVariants as word
use Rattle.client_trees.specs.declared.at.NodeAt.TheVariants as at
use Rattle.client_trees.specs.Records.{IsAmong, IsRecord, Rests, known_term, terms_known}
use Rattle.client_trees.proofs.Places.{at_kept, at_last, at_more, cut_many}
use Rattle.client_trees.proofs.Resting.{rests_place, rests_reached}
use Rattle.client_trees.specs.Nodes.{IsTreeAt, tree_at}
use Rattle.core_machine.specs.declared.events.Event.{Event}
use Rattle.core_machine.specs.declared.events.Event.TheVariants as event
use Rattle.core_machine.specs.declared.events.Found.{Found}
use Rattle.core_machine.specs.declared.events.Found.TheVariants as finds
use Rattle.core_machine.specs.declared.events.Taken.{Taken}
use Rattle.core_machine.specs.Own.{Own, having_claimed, having_claimed_by, having_read}
use Rattle.core_machine.specs.Own.{having_fetched_by, having_read_by, looked_by, no_own, own_after}
use Rattle.core_machine.specs.Trail.{own_along}
use Rattle.doc_records.specs.Trees.{IsTreeNode, tree_of}
use Rattle.client_history.specs.Spelled.{node_is_record}
use Rattle.heap_rule.specs.Asks.{known_of}
use Rattle.heap_rule.specs.Facts.{is_term}
use Rattle.heap_rule.specs.Lore.{known_at}
use Rattle.heap_rule.specs.declared.known.Known.{Known}
use Rattle.heap_rule.specs.declared.known.Known.TheVariants as knows
use Rattle.minor_heap.specs.declared.fields.MinorField.{MinorField}
use Rattle.minor_heap.specs.declared.fields.MinorField.TheVariants as field
use Rattle.minor_heap.specs.declared.fields.MinorRef.{MinorRef}
use Rattle.minor_heap.specs.Nursery.{IsOrdered, Nursery, field_at}
use Rattle.minor_heap.specs.Terms.{term_of}
use Rattle.mutator_seat.specs.Bound.{Bound, held_cells, takes}
use Rattle.mutator_seat.specs.Stretches.{takes_all}
use Rattle.mutator_seat.specs.declared.full.HeapFull.{HeapFull}
use Rattle.promotion.specs.Promoting.{Adds, Collected, Promoted, Refused, Stays, knows_term}
use Rattle.promotion.specs.Sharing.{ShareRecords, SharesRecord}
use Rattle.trails.specs.Claims.{IsFull}
use Rattle.trails.specs.Marks.{Mark, marks_from, marks_of}
use Rattle.trails.specs.Stretches.{Had}
use Rattle.trails.proofs.Claims.{finds_full}
use Rattle.trails.proofs.Marks.{marks_append}
use Rattle.version_rule.specs.Fits.{Grows}
use Rattle.version_rule.specs.Pass.{Pass}
use Rattle.version_rule.proofs.Trees.{grows_still}
use Rattle.version_store.specs.Calls.{StaysKnown, StillKnown}
use Rattle.version_store.specs.Lasts.{IsSameMutator, LastsAcross, marks}
use Rattle.held_places.proofs.Going.{many_cells, many_held, still_same}
use Rattle.client_heap.specs.Carries.{Carries, Follows}
use Rattle.client_heap.specs.Shows.{node_term}
use Rattle.client_heap.proofs.Carrying.{carries_known}
use Rattle.version_rule.specs.Versions.{is_fixed}

-- No event takes a claim back.

read_more : (own : Own) (f : Field) → own.claims ≤ (having_read own f).claims
read_more own word.Null = omega arith
read_more own (word.Num n) = omega arith
read_more own (word.Cell c) = omega arith

claimed_more : (own : Own) (cell : ℕ) (c : Colour)
    → own.claims ≤ (having_claimed own cell c).claims
claimed_more own cell colour.Blue = omega arith
claimed_more own cell colour.White = omega arith
claimed_more own cell colour.Gray = omega arith
claimed_more own cell colour.Black = omega arith

looked_by_more : (own : Own) (found : Found) → own.claims ≤ (looked_by own found).claims
looked_by_more own (finds.Control control) = omega arith
looked_by_more own found = omega arith

read_by_more : (own : Own) (found : Found) → own.claims ≤ (having_read_by own found).claims
read_by_more own (finds.Field f) = read_more own f
read_by_more own found = omega arith

fetched_by_more : (own : Own) (place f : ℕ) (found : Found)
    → own.claims ≤ (having_fetched_by own place f found).claims
fetched_by_more own place f (finds.Field x) = read_more own x
fetched_by_more own place f found = omega arith

claimed_by_more : (own : Own) (cell : ℕ) (found : Found)
    → own.claims ≤ (having_claimed_by own cell found).claims
claimed_by_more own cell (finds.Colour c) = claimed_more own cell c
claimed_by_more own cell found = omega arith

event_more : (own : Own) (e : Event) (found : Found)
    → own.claims ≤ (own_after own e found).claims
event_more own (event.Look i) found = looked_by_more own found
event_more own (event.Read i place f) found = read_by_more own found
event_more own (event.Fetch i place f) found = fetched_by_more own place f found
event_more own (event.Claim i cell) found = claimed_by_more own cell found
event_more own e found = omega arith

along_more : (own : Own) (ts : List Taken) → own.claims ≤ (own_along own ts).claims
along_more own [] = omega arith
along_more own (t ∷ ts) =
    let one = event_more own t.event t.found in
    let rest = along_more (own_after own t.event t.found) ts in omega (arith, one, rest)

-- Events that picked no pass.

all_trail : (a : Bound Pass) (ts : List Taken)
    → (takes_all a ts).seat.me.trail ≡ a.seat.me.trail ++ ts
all_trail a [] = sym (append-nil a.seat.me.trail)
all_trail a (t ∷ ts) = all_trail (takes a t.event t.found) ts
    ∙ append_assoc a.seat.me.trail (t ∷ []) ts

all_own : (a : Bound Pass) (ts : List Taken)
    → (takes_all a ts).seat.me.own ≡ own_along a.seat.me.own ts
all_own a [] = refl
all_own a (t ∷ ts) = all_own (takes a t.event t.found) ts

module _ (F : List Taken → Type 0) (m n : Bound Pass) (adds : Adds F m n) where
  added_marks : marks n ≡ marks m
      ++ marks_from (own_along no_own m.seat.me.trail) adds.added
  added_marks =
      ap (λ (b : Bound Pass). marks_of b.seat.me.trail) adds.told
      ∙ ap marks_of (all_trail m adds.added)
      ∙ marks_append no_own m.seat.me.trail adds.added

  added_claims : m.seat.me.own.claims ≤ n.seat.me.own.claims
  added_claims =
      let own = ap (λ (b : Bound Pass). b.seat.me.own.claims) adds.told
      ∙ ap (λ (o : Own). o.claims) (all_own m adds.added) in
      let more = along_more m.seat.me.own adds.added in omega (arith, own, more)

  module _ (stays : Stays m n) where
    stays_lasts : LastsAcross m n
    stays_lasts =
        let grows : Grows m.seat.me.pass n.seat.me.pass =
        subst (Grows m.seat.me.pass) (sym stays.pass) (grows_still m.seat.me.pass) in
        record {
          narrows = grows.narrows;
          keep = grows.keep;
          seen = grows.seen;
          cut = grows.cut;
          grown = record {
            added = marks_from (own_along no_own m.seat.me.trail) adds.added;
            is = added_marks;
          };
          claims = added_claims;
        }

    same_stays : IsSameMutator m n
    same_stays = record {
      heap = stays.heap;
      table = stays.table;
      shape = stays.shape;
      role = stays.role;
      number = stays.number;
      room = stays.room;
      inside = stays.inside;
      over = stays.over;
    }

    pub stays_follows : (old new : Nursery) → new.room ≡ old.room → Follows m n old new
    stays_follows old new room = record {
      inside = stays.inside;
      room = stays.room;
      cells = ap (λ s. s.cells) stays.shape;
      minor_room = room;
      same = same_stays;
      lasts = stays_lasts;
    }

    pub stays_carries : (minor : Nursery) → IsOrdered 0 minor.records → (places : ℕ)
        → StaysKnown places m n → places ≤ length n.seat.me.own.held
        → Carries places m n minor minor
    stays_carries minor ordered places known longer =
        carries_known places m n minor ordered same_stays stays_lasts known longer

known_stays : (m n : Bound Pass) (places : ℕ)
    → ((p : ℕ) → p < places → known_of n.seat.me p ≡ known_of m.seat.me p)
    → StaysKnown places m n
known_stays m n places same p lt =
    subst (λ (k : Known). StillKnown (known_of m.seat.me p) k) (sym (same p lt))
    (still_same is_fixed (known_of m.seat.me p))

same_minor : (old new : Nursery) → new.room ≡ old.room → new.records ≡ old.records
    → new ≡ old
same_minor old new room records = rw (room, records) refl

-- A heap that was full.
module _ (m n : Bound Pass) (full : HeapFull) (refused : Refused m full n) where
  pub refused_held : length n.seat.me.own.held ≡ length m.seat.me.own.held
  refused_held =
      let here = many_cells m in
      let there = many_cells n in
      let same = ap (λ (cs : List ℕ). length cs) refused.held in
      omega (arith, here, there, same)

  pub refused_follows : (old new : Nursery) → new.room ≡ old.room → Follows m n old new
  refused_follows old new room = stays_follows _ m n refused.adds refused.stays old new room

  pub refused_carries : (old new : Nursery) → IsOrdered 0 old.records → new.room ≡ old.room
      → new.records ≡ old.records → Carries (length m.seat.me.own.held) m n old new
  refused_carries old new ordered room records =
      subst (λ (x : Nursery). Carries (length m.seat.me.own.held) m n old x)
      (sym (same_minor old new room records))
      (stays_carries _ m n refused.adds refused.stays old ordered (length m.seat.me.own.held)
      (known_stays m n (length m.seat.me.own.held)
      (λ p lt. ap (λ (ks : List Known). known_at ks p) refused.known))
      (let same = refused_held in omega (arith, same)))

  pub refused_full : Had (IsFull m.seat.me.shape.cells) (marks m) (marks n)
  refused_full =
      let own = own_along no_own m.seat.me.trail in
      let within = refused.adds.fact in
      let first = own_along own within.before in
      let second = own_along first within.part in
      record {
        before = marks_from own within.before;
        stretch = marks_from first within.part;
        after = marks_from second within.after;
        is = added_marks _ m n refused.adds
            ∙ ap (λ (ts : List Taken). marks m ++ marks_from own ts) within.split
            ∙ ap (λ (ms : List Mark). marks m ++ ms)
            (marks_append own within.before (within.part ++ within.after))
            ∙ ap (λ (ms : List Mark). marks m ++ (marks_from own within.before ++ ms))
            (marks_append first within.part within.after);
        meets = finds_full first m.seat.me.number m.seat.me.shape.cells full.off_duty full.began
            full.ended within.part within.fact;
      }

-- The copy of a node.

node_record : (known : List Known) (records : List (List MinorField)) (r : MinorRef) (k : Known)
    → k ≡ knows.Record (term_of (terms_known known) records r)
    → IsTreeNode (term_of (terms_known known) records r) → IsRecord k
node_record known records r k is node =
    subst IsRecord (sym is) (node_is_record (term_of (terms_known known) records r) node)

module _ (m n : Bound Pass) (old new : Nursery) (r : MinorRef)
    (node : IsTreeAt m old (at.Minor r)) (place : ℕ) (there : place < length n.seat.me.own.held)
    (is : known_at n.seat.me.known place
    ≡ knows.Record (term_of (terms_known m.seat.me.known) old.records r)) where
  pub copy_node : IsTreeAt n new (at.Shared place)
  copy_node = record {
    stands = (there, node_record m.seat.me.known old.records r _ is node.node);
    node = subst IsTreeNode (sym (ap known_term is)) node.node;
  }

  pub copy_term : node_term n new (at.Shared place) ≡ node_term m old (at.Minor r)
  copy_term = ap known_term is

  pub copy_tree : tree_at n new (at.Shared place) ≡ tree_at m old (at.Minor r)
  copy_tree = ap tree_of copy_term

module _ (m n : Bound Pass) (minor : Nursery) (r : MinorRef)
    (promoted : Promoted m minor.records r n)
    (fit : length m.seat.me.known ≡ length m.seat.me.own.held) where
  pub promoted_held : length n.seat.me.own.held ≡ length m.seat.me.own.held + 1
  promoted_held = many_held m n (promoted.cell ∷ []) promoted.held

  promoted_known : (p : ℕ) → p < length m.seat.me.own.held
      → known_of n.seat.me p ≡ known_of m.seat.me p
  promoted_known p lt = ap (λ (ks : List Known). known_at ks p) promoted.known
      ∙ at_more knows.Nothing m.seat.me.known (knows_term m minor.records r) p
      (omega (arith, lt, fit))

  pub promoted_carries : IsOrdered 0 minor.records
      → Carries (length m.seat.me.own.held) m n minor minor
  promoted_carries ordered =
      stays_carries _ m n promoted.adds promoted.stays minor ordered (length m.seat.me.own.held)
      (known_stays m n (length m.seat.me.own.held) promoted_known)
      (let more = promoted_held in omega (arith, more))

  pub promoted_is : (place : ℕ) → place ≡ length m.seat.me.own.held
      → known_at n.seat.me.known place
      ≡ knows.Record (term_of (terms_known m.seat.me.known) minor.records r)
  promoted_is place is =
      ap (λ (p : ℕ). known_at n.seat.me.known p) (is ∙ sym fit)
      ∙ ap (λ (ks : List Known). known_at ks (length m.seat.me.known)) promoted.known
      ∙ at_last knows.Nothing m.seat.me.known (knows_term m minor.records r)

-- The first and one more.

second_at : {A : Type 0} (d : A) (xs : List A) (x : A) → 1 ≤ length xs
    → slice_index_or (take 1 xs ++ x ∷ []) 1 d ≡ x
second_at d [] x some = absurd (omega (arith, some))
second_at d (y ∷ xs) x some = refl

two_many : {A : Type 0} (xs : List A) (x : A) → 1 ≤ length xs
    → length (take 1 xs ++ x ∷ []) ≡ 2
two_many [] x some = absurd (omega (arith, some))
two_many (y ∷ xs) x some = refl

module _ (m n : Bound Pass) (minor : Nursery) (r : MinorRef)
    (collected : Collected m minor.records (r ∷ []) 1 n)
    (fit : length m.seat.me.known ≡ length m.seat.me.own.held)
    (some : 1 ≤ length m.seat.me.own.held) where
  pub shared_held : length n.seat.me.own.held ≡ 2
  shared_held =
      let there = many_cells n in
      let here = many_cells m in
      let two = ap (λ (cs : List ℕ). length cs) collected.held
      ∙ two_many (held_cells m) (collected.cell r) (omega (arith, here, some)) in
      omega (arith, there, two)

  pub shared_is : known_at n.seat.me.known 1
      ≡ knows.Record (term_of (terms_known m.seat.me.known) minor.records r)
  shared_is = ap (λ (ks : List Known). known_at ks 1) collected.known
      ∙ second_at knows.Nothing m.seat.me.known (knows_term m minor.records r)
      (omega (arith, fit, some))

-- With no roots only the first places are left.
module _ (m n : Bound Pass) (minor : Nursery) (base : ℕ)
    (collected : Collected m minor.records [] base n)
    (fit : length m.seat.me.known ≡ length m.seat.me.own.held)
    (kept : base ≤ length m.seat.me.own.held) where
  pub cleared_held : length n.seat.me.own.held ≡ base
  cleared_held =
      let there = many_cells n in
      let here = many_cells m in
      let few = ap (λ (cs : List ℕ). length cs) collected.held
      ∙ cut_many 0 (held_cells m) base (omega (arith, here, kept)) in
      omega (arith, there, few)

  pub cleared_known : (p : ℕ) → p < base → known_of n.seat.me p ≡ known_of m.seat.me p
  cleared_known p lt = ap (λ (ks : List Known). known_at ks p) collected.known
      ∙ at_kept knows.Nothing m.seat.me.known [] base p lt (omega (arith, fit, kept))

-- What it needs: the shared places are known as records.

record_term : (k : Known) → IsRecord k → is_term k ≡ true
record_term knows.Nothing is = absurd is
record_term (knows.Raw fields) is = absurd is
record_term (knows.Fresh fields) is = absurd is
record_term (knows.Record t) is = refl
record_term (knows.Boxed told) is = absurd is

module _ (known : List Known) (records : List (List MinorField)) (places : ℕ) where
  field_shares : (f : MinorField)
      → ((place : ℕ) → f ≡ field.Shared place → IsAmong known places place)
      → SharesRecord known f
  field_shares field.Null stands = tt
  field_shares (field.Num n) stands = tt
  field_shares (field.Minor r) stands = tt
  field_shares (field.Shared place) stands =
      record_term (known_at known place) (stands place refl).1

  only_root : (r q : MinorRef) (k : ℕ) → k < 1 → slice_index_or (r ∷ []) k q ≡ q
      → r ≡ q
  only_root r q zero lt is = is
  only_root r q (suc k) lt is = absurd (omega (arith, lt))

  pub reached_shares : (from : List MinorRef)
      → ((r : MinorRef) → Contains from r → Rests records (IsAmong known places) r)
      → ShareRecords known records from
  reached_shares from each r i reaches lt =
      let stands = rests_reached records (IsAmong known places) (Contains from) each r reaches in
      field_shares (field_at records r.number i)
      (λ place is. rests_place records (IsAmong known places) r i place stands lt is)

  pub node_shares : (r : MinorRef) → Rests records (IsAmong known places) r
      → ShareRecords known records (r ∷ [])
  node_shares r stands = reached_shares (r ∷ [])
      (λ q is. subst (Rests records (IsAmong known places))
      (only_root r q is.0 is.1 is.2) stands)

  pub none_shares : ShareRecords known records []
  none_shares = reached_shares [] (λ q is. absurd (let lt = is.1 in omega (arith, lt)))
