-- A read of a record gives that part of the term, and the part stands.
use Rattle.std.proofs.Common.{◌≡◌, ◌<◌, ◌≤◌, ◌+◌, ◌==◌, ℕ, Bool, true, false, List, [], ◌∷◌}
use Rattle.std.proofs.Common.{Option, length, refl, sym, ◌∙◌, ap, subst, arith}
use Rattle.std.proofs.lemmas.List.{length-append}
use Rattle.cell_words.specs.declared.fields.Field.{Field}
use Rattle.cell_words.specs.declared.fields.Field.TheVariants as word
use Rattle.cell_words.specs.Term.{IsFive, Term, part}
use Rattle.core_machine.specs.declared.events.Event.TheVariants as event
use Rattle.core_machine.specs.declared.events.Found.TheVariants as finds
use Rattle.core_machine.specs.Own.{no_own}
use Rattle.core_machine.specs.Places.{cell_at, found_at}
use Rattle.core_machine.specs.Trail.{own_along}
use Rattle.heap_rule.specs.declared.known.Known.{Known}
use Rattle.heap_rule.specs.declared.known.Known.TheVariants as knows
use Rattle.heap_rule.specs.declared.known.Learned.{Learned}
use Rattle.heap_rule.specs.declared.view.View.{View}
use Rattle.core_machine.specs.State.{State, field_of, target_of}
use Rattle.core_machine.specs.Words.{is_box_kind}
use Rattle.heap_rule.specs.Asks.{target}
use Rattle.heap_rule.specs.Boxes.{Map}
use Rattle.heap_rule.proofs.Parts.{part_shown}
use Rattle.heap_rule.proofs.Seats.{knows_place, target_now}
use Rattle.heap_rule.specs.Facts.{IsKnown}
use Rattle.heap_rule.specs.Lore.{Lore, entry_of, five_plain, known_at, learned, learned_of, told_of}
use Rattle.heap_rule.specs.Steps.{Mine, same_pass}
use Rattle.heap_rule.specs.Parts.{ShowsPart}
use Rattle.heap_rule.specs.Rule.{told, took}
use Rattle.minor_heap.specs.declared.fields.MinorField.{MinorField}
use Rattle.minor_heap.specs.declared.fields.MinorField.TheVariants as field
use Rattle.minor_heap.specs.declared.fields.MinorRef.{MinorRef}
use Rattle.minor_heap.specs.Nursery.{FitsRecord, IsOrdered, Nursery, field_at}
use Rattle.minor_heap.specs.Terms.{field_term, term_of, terms_of}
use Rattle.minor_heap.proofs.Terms.{is_five}
use Rattle.trails.specs.Asks.{gave, here, nothing}
use Rattle.trails.specs.Marks.{marks_of, saw}
use Rattle.trails.specs.Telling.{Tells}
use Rattle.trails.proofs.Marks.{marks_push}
use Rattle.trails.proofs.Telling.{keeps_tells, shows_tells}
use Rattle.doc_records.specs.declared.pool.Part.{Part}
use Rattle.doc_records.specs.declared.pool.Part.TheVariants as parts
use Rattle.doc_records.specs.Pool.{PartOn, Shown, Stands, ask_part, part_term, places_of}
use Rattle.doc_records.specs.Pool.{is_shared as parts_shared}
use Rattle.mutator_seat.specs.Bound.{Bound}
use Rattle.mutator_events.specs.Events.{AtEvent}
use Rattle.mutator_events.specs.Values.{value_found}
use Rattle.client_trees.specs.declared.at.NodeAt.{NodeAt}
use Rattle.client_trees.specs.declared.at.NodeAt.TheVariants as at
use Rattle.client_trees.specs.Records.{IsAmong, IsRecord, Outside, Rests, known_term, shown_of}
use Rattle.client_trees.specs.Records.{outside_of}
use Rattle.client_trees.specs.Records.{SharedRead, is_shared, part_held, part_read, stands_on}
use Rattle.client_trees.specs.Records.{term_at, terms_known}
use Rattle.client_trees.proofs.Kept.{holds_read, later_at, marks_on}
use Rattle.client_trees.proofs.Places.{known_term_at}
use Rattle.client_trees.proofs.Resting.{rests_older, rests_place, rests_stands}

pub record_is : (k : Known) → IsRecord k → k ≡ knows.Record (known_term k)
record_is knows.Nothing is = absurd is
record_is (knows.Raw fields) is = absurd is
record_is (knows.Fresh fields) is = absurd is
record_is (knows.Record t) is = refl
record_is (knows.Boxed terms) is = absurd is

pub record_five : (k : Known) → IsRecord k → IsFive (known_term k)
record_five knows.Nothing is = absurd is
record_five (knows.Raw fields) is = absurd is
record_five (knows.Fresh fields) is = absurd is
record_five (knows.Record t) is = is
record_five (knows.Boxed terms) is = absurd is

-- the term of every record that stands has five parts
pub stands_five : (known : List Known) (records : List (List MinorField)) (n : ℕ) (a : NodeAt)
    → IsOrdered 0 records → stands_on known records n a
    → IsFive (term_at known records a)
stands_five known records n (at.Shared p) ordered stands = record_five (known_at known p) stands.1
stands_five known records n (at.Minor r) ordered stands =
    is_five (terms_known known) records r ordered
    (rests_stands records (IsAmong known n) r stands)

-- Of a shared record.

-- the part that a read of a shared place gives
abbrev part_found : ℕ → Field → Part NodeAt
part_found many found = part_held (value_found many found)

module _ {P : Type 0} (minor : Nursery) (outside : Outside) (v : View P) (place f : ℕ)
    (tells : Learned) (t : Term) where
  abbrev behind : Field → View P
  behind found = told v (event.Read v.number place f) (finds.Field found) tells v.pass

  pub found_term : (found : Field) → ShowsPart t v (behind found) found
      → part_term (shown_of (behind found) minor outside).term
      (part_found (length v.own.held) found)
      ≡ t
  found_term word.Null shows = sym shows
  found_term (word.Num n) shows = sym shows.0
  found_term (word.Cell c) shows = ap known_term shows.1

  pub found_stands : (found : Field) → ShowsPart t v (behind found) found
      → Stands (shown_of (behind found) minor outside) (part_found (length v.own.held) found)
  found_stands word.Null shows = tt
  found_stands (word.Num n) shows = shows.1
  found_stands (word.Cell c) shows =
      let more = length-append v.own.held (found_at c ∷ []) in (
        (omega (arith, more), subst IsRecord (sym shows.1) shows.0),
        subst IsFive (sym (ap known_term shows.1)) shows.0,
      )

  pub found_held : (found : Field) → length (behind found).own.held
      ≤ length v.own.held + places_of (part_found (length v.own.held) found)
  found_held word.Null = omega arith
  found_held (word.Num n) = omega arith
  found_held (word.Cell c) =
      let more = length-append v.own.held (found_at c ∷ []) in omega (arith, more)

  pub found_told : (found : Field) → Tells (ask_part (part_found (length v.own.held) found))
      (marks_of v.trail) (marks_of (behind found).trail)
  found_told word.Null = keeps_tells (marks_on v (event.Read v.number place f) (finds.Field word.Null))
  found_told (word.Num n) = shows_tells {asks = gave (word.Num n) ∷ []} record {
    added = saw (cell_at (own_along no_own v.trail).held place) f (word.Num n) ∷ [];
    is = marks_push v.trail (took (event.Read v.number place f) (finds.Field (word.Num n)));
    shown = here refl nothing;
  }
  found_told (word.Cell c) =
      keeps_tells (marks_on v (event.Read v.number place f) (finds.Field (word.Cell c)))

  found_shared : (found : Field) → parts_shared is_shared (part_found (length v.own.held) found) ≡ true
  found_shared word.Null = refl
  found_shared (word.Num n) = refl
  found_shared (word.Cell c) = refl

  pub found_read : (found : Field) → IsOrdered 0 minor.records
      → length v.known ≡ length v.own.held → (u : Term) → tells.here ≡ knows.Record u
      → ShowsPart t v (behind found) found
      → SharedRead minor outside outside v (behind found) t (part_found (length v.own.held) found)
  found_read found ordered fit u told_is shows = record {
    term = found_term found shows;
    stands = found_stands found shows;
    later = later_at minor outside ordered v (behind found)
        (holds_read v fit place f tells u told_is found);
    held = found_held found;
    told = found_told found;
    shared = found_shared found;
  }

-- Of a private record.

module _ {P : Type 0} (minor : Nursery) (outside : Outside) (v : View P) (r : MinorRef) (i : ℕ)
    (ordered : IsOrdered 0 minor.records) (lt : i < 5)
    (stands : Rests minor.records (IsAmong v.known (length v.own.held)) r) where
  pub read_term : (f : MinorField)
      → part i (term_of (terms_known v.known) minor.records r)
      ≡ field_term (terms_known v.known) (terms_of (terms_known v.known) minor.records) f
      → part_term (shown_of v minor outside).term (part_read f)
      ≡ part i (term_of (terms_known v.known) minor.records r)
  read_term field.Null is = sym is
  read_term (field.Num n) is = sym is
  read_term (field.Minor o) is = sym is
  read_term (field.Shared p) is = sym (known_term_at v.known p) ∙ sym is

  pub read_stands : (f : MinorField) → f ≡ field_at minor.records r.number i → FitsRecord r.number f
      → Stands (shown_of v minor outside) (part_read f)
  read_stands field.Null is fits = tt
  read_stands (field.Num n) is fits = fits
  read_stands (field.Minor o) is fits =
      let older = rests_older minor.records (IsAmong v.known (length v.own.held)) r i o stands lt
      (sym is) in (
        older,
        is_five (terms_known v.known) minor.records o ordered
            (rests_stands minor.records (IsAmong v.known (length v.own.held)) o older),
      )
  read_stands (field.Shared p) is fits =
      let there = rests_place minor.records (IsAmong v.known (length v.own.held)) r i p stands lt
      (sym is) in
      (there, record_five (known_at v.known p) there.1)

-- what was kept of a record that stands on places that stay
pub kept_stands : (known : List Known) (records : List (List MinorField)) (held n : ℕ)
    (a : NodeAt) → (is_shared a ≡ false → stands_on known records n a) → (r : MinorRef)
    → a ≡ at.Minor r → stands_on known records n (at.Minor r)
kept_stands known records held n a on r is =
    subst (λ (b : NodeAt). stands_on known records n b) is
    (on (ap is_shared is))

-- what a read of a held record tells is that the cell is one
told_here : {P : Type 0} {fixed : ℕ → Bool} (v : View P) (s : State) (l : Lore)
    (mine : Mine fixed v s l) (place f : ℕ) (t : Term) → place < length v.own.held
    → known_at v.known place ≡ knows.Record t
    → (learned s l (event.Read v.number place f)).here ≡ knows.Record t
told_here {fixed = fixed} v s l mine place f t there is =
    let x = target v place in
    let here : IsKnown fixed s l v.number x (knows.Record t) =
    subst (IsKnown fixed s l v.number x) is (knows_place v s l mine place there) in
    ap (learned_of s l) (target_now v s l mine place)
    ∙ ap (λ (o : Option Term). told_of (x == 0) (is_box_kind (field_of s x 5)) o (l.fresh x)
    (five_plain (λ g. entry_of l.terms (field_of s x g)))) here.1

-- a read of a held record, as its seat tells it
pub event_reads : {P : Type 0} {holding : Map → List P → Type 0} {fixed : ℕ → Bool}
    (minor : Nursery) (outside : Outside) (v w : View P) (place f : ℕ) (found : Field)
    → IsOrdered 0 minor.records
    → length v.known ≡ length v.own.held → IsAmong v.known (length v.own.held) place → f ≤ 4
    → AtEvent holding fixed v (event.Read v.number place f) same_pass (finds.Field found) w
    → SharedRead minor outside outside v w (part f (known_term (known_at v.known place)))
    (part_found (length v.own.held) found)
event_reads minor outside v w place f found ordered fit known payload at_it =
    let s = at_it.core in
    let l = at_it.lore in
    let e = event.Read v.number place f in
    let t = known_term (known_at v.known place) in
    let is = record_is (known_at v.known place) known.1 in
    let found_here : finds.Field (field_of s (target_of s v.number place) f) ≡ finds.Field found =
    at_it.found_is in
    let same : field_of s (target_of s v.number place) f ≡ found = cc in
    let row_is : field_of s (target v place) f ≡ found =
    ap (λ (x : ℕ). field_of s x f) (sym (target_now v s l at_it.mine place)) ∙ same in
    subst (λ (u : View _). SharedRead minor outside outside v u (part f t)
    (part_found (length v.own.held) found)) (sym at_it.new)
    (found_read minor outside v place f (learned s l e) (part f t) found ordered fit t
    (told_here v s l at_it.mine place f t known.0 is)
    (part_shown v s l at_it.mine place f t known.0 payload is found
    (told v e (finds.Field found) (learned s l e) v.pass) v.pass row_is refl))

-- of the same heap
pub outside_same : {P : Type 0} (m w : Bound P) (names : ℕ × ℕ) → w.heap ≡ m.heap
    → w.seat.table ≡ m.seat.table → outside_of m names ≡ outside_of w names
outside_same m w names heap table = rw (heap, table) refl

-- nothing is required of a part that leads out of the private records
pub part_on : {A F : Type 0} (shared : A → Bool) (s : Shown A F) (places : ℕ) (p : Part A)
    → parts_shared shared p ≡ true → PartOn shared s places p
part_on shared s places parts.Null is = tt
part_on shared s places (parts.Num n) is = tt
part_on shared s places (parts.Record a) is = λ private. absurd
    (let e : true ≡ false = sym is ∙ private in cc)
