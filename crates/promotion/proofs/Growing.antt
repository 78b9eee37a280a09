-- One copy after the other: the held list grows by a record for each copy, and what was known
-- stays.
use Rattle.std.proofs.Common.{◌≡◌, ◌≢◌, ◌<◌, ◌≤◌, ◌+◌, ◌⊎◌, ℕ, suc, Bool, true, false, List}
use Rattle.std.proofs.Common.{[], ◌∷◌, ◌++◌, length, map, refl, sym, ◌∙◌, ap, subst, arith, ⊎_elim}
use Rattle.std.proofs.Common.{length-append, take, true≢false, Result, Ok, Err, OnOk}
use Rattle.std.specs.Prelude.{slice_index_or, slice_set}
use Rattle.std.proofs.lemmas.List.{append_assoc, append-nil, map-append, length-map}
use Rattle.std.proofs.lemmas.List.{get_or-set_other, get_or-set_same}
use Rattle.std.proofs.Math.ListN.{get_or-map}
use Rattle.std.proofs.Math.Seq.{get_or-append_seam}
use Rattle.cell_words.specs.Term.{Term, five, null}
use Rattle.core_machine.specs.declared.events.Taken.{Taken}
use Rattle.heap_rule.specs.Facts.{is_term}
use Rattle.heap_rule.specs.Lore.{known_at, term_or}
use Rattle.heap_rule.specs.Shape.{Shape}
use Rattle.heap_rule.specs.declared.known.Known.{Known}
use Rattle.heap_rule.specs.declared.known.Known.TheVariants as knows
use Rattle.minor_heap.specs.declared.fields.MinorField.{MinorField}
use Rattle.minor_heap.specs.declared.fields.MinorField.TheVariants as field
use Rattle.minor_heap.specs.declared.fields.MinorRef.{MinorRef}
use Rattle.minor_heap.specs.Nursery.{FitsRecord, IsOrdered, field_at}
use Rattle.minor_heap.specs.Spans.{AreWithin}
use Rattle.minor_heap.specs.Terms.{field_term, terms_of}
use Rattle.minor_heap.specs.declared.spans.RecordSpan.{RecordSpan}
use Rattle.minor_heap.proofs.Terms.{fits_is, term_is}
use Rattle.mutator_events.proofs.HeldCells.{cells_many}
use Rattle.mutator_seat.specs.declared.full.HeapFull.{HeapFull}
use Rattle.mutator_seat.specs.Bound.{Bound, held_cells}
use Rattle.mutator_seat.specs.Claims.{anything}
use Rattle.mutator_seat.specs.Stretches.{Calm}
use Rattle.trails.specs.Claims.{FindsFull}
use Rattle.promotion.specs.Copying.{AreCopied, Copied, Grown, GrownBy, Halted, IsReady, copied_term}
use Rattle.promotion.specs.Copying.{marked_count, term_at, value_of}
use Rattle.promotion.specs.Promoting.{HasRefusal}
use Rattle.promotion.specs.Sharing.{SharesRecord, known_terms}
use Rattle.promotion.proofs.Counting.{count_all, count_before, count_few, count_set, count_unset}
use Rattle.promotion.proofs.Knowing.{record_of, term_stays}
use Rattle.promotion.proofs.Linked.{Copying, copying_on}
use Rattle.promotion.proofs.Stretching.{adds_calm, adds_none, adds_then, any_then, stays_kept}
use Rattle.promotion.proofs.Stretching.{stays_same, stays_then, within_late, within_whole}

abbrev pub records_of : List Term → List Known
records_of terms = map (λ t. knows.Record t) terms

-- what was known as a record still is
abbrev pub StillRecords : List Known → List Known → Type 0
StillRecords known later =
    (q : ℕ) (t : Term) → known_at known q ≡ knows.Record t → known_at later q ≡ knows.Record t

module _ {P : Type 0} where
  pub grown_none : (m : Bound P) → GrownBy 0 m m
  grown_none m = record {
    grown = record {
      cells = [];
      terms = [];
      held = sym (append-nil (held_cells m));
      known = sym (append-nil m.seat.me.known);
      many = refl;
      fit = λ some. absurd (omega (arith, some));
      claims = omega arith;
      stays = stays_same m;
      adds = adds_none m;
    };
    count_is = refl;
  }

  pub grown_more : (a b c : Bound P) (count place : ℕ) (t : Term) → GrownBy count a b
      → Copied b place t c → GrownBy (count + 1) a c
  grown_more a b c count place t so copied =
      let g = so.grown in
      let more : length (g.cells ++ copied.cell ∷ []) ≡ length g.cells + 1 =
      length-append g.cells (copied.cell ∷ []) in
      let terms_more : length (g.terms ++ t ∷ []) ≡ length g.terms + 1 =
      length-append g.terms (t ∷ []) in
      let held_many : length (held_cells b) ≡ length (held_cells a) + length g.cells =
      ap (λ (cs : List ℕ). length cs) g.held ∙ length-append (held_cells a) g.cells in
      let known_many : length b.seat.me.known ≡ length a.seat.me.known + length g.terms =
      ap (λ (ks : List Known). length ks) g.known
      ∙ length-append a.seat.me.known (records_of g.terms)
      ∙ ap (λ (n : ℕ). length a.seat.me.known + n) (length-map g.terms (λ t. knows.Record t)) in
      record {
        grown = record {
          cells = g.cells ++ copied.cell ∷ [];
          terms = g.terms ++ t ∷ [];
          held = copied.held
              ∙ ap (λ (cs : List ℕ). cs ++ copied.cell ∷ []) g.held
              ∙ append_assoc (held_cells a) g.cells (copied.cell ∷ []);
          known = copied.known
              ∙ ap (λ (ks : List Known). ks ++ knows.Record t ∷ []) g.known
              ∙ append_assoc a.seat.me.known (records_of g.terms) (knows.Record t ∷ [])
              ∙ ap (λ (ks : List Known). a.seat.me.known ++ ks)
              (sym (map-append (λ t. knows.Record t) g.terms (t ∷ [])));
          many = omega (arith, more, terms_more, g.many);
          fit = λ some. omega (arith, copied.fit, held_many, known_many, g.many);
          claims = omega (arith, copied.claims, g.claims, more);
          stays = stays_then a b c g.stays copied.stays;
          adds = any_then a b c g.adds copied.adds;
        };
        count_is = omega (arith, more, so.count_is);
      }

  pub halted : (a b c : Bound P) (count : ℕ) (full : HeapFull) → GrownBy count a b
      → Calm (FindsFull b.seat.me.number b.seat.me.shape.cells full.off_duty full.began full.ended)
      b c
      → Halted a full c
  halted a b c count full so calm =
      let g = so.grown in
      let Finds : ℕ → ℕ → List Taken → Type 0 =
      λ number cells. FindsFull number cells full.off_duty full.began full.ended in
      record {
        cells = g.cells;
        terms = g.terms;
        held = calm.kept.held ∙ g.held;
        known = calm.kept.known ∙ g.known;
        many = g.many;
        fit = g.fit;
        claims = calm.kept.claims ∙ g.claims;
        stays = stays_then a b c g.stays (stays_kept b c calm.kept);
        adds = adds_then anything (Finds b.seat.me.number b.seat.me.shape.cells)
            (HasRefusal a full) a b c
            (λ xs ys any finds. within_late
            (Finds a.seat.me.number a.seat.me.shape.cells) xs ys
            (within_whole (Finds a.seat.me.number a.seat.me.shape.cells) ys
            (subst (λ (n : ℕ). Finds n a.seat.me.shape.cells ys) g.stays.number
            (subst (λ (n : ℕ). Finds b.seat.me.number n ys)
            (ap (λ (h : Shape). h.cells) g.stays.shape) finds))))
            g.adds (adds_calm (Finds b.seat.me.number b.seat.me.shape.cells) b c calm);
      }

  pub still_records : (F : List Taken → Type 0) (a b : Bound P) → Grown F a b
      → StillRecords a.seat.me.known b.seat.me.known
  still_records F a b g q t is =
      ap (λ (ks : List Known). known_at ks q) g.known
      ∙ term_stays a.seat.me.known (records_of g.terms) q t is

  pub still_copied : (b c : Bound P) (place : ℕ) (t : Term) → Copied b place t c
      → StillRecords b.seat.me.known c.seat.me.known
  still_copied b c place t copied q u is =
      ap (λ (ks : List Known). known_at ks q) copied.known
      ∙ term_stays b.seat.me.known (knows.Record t ∷ []) q u is

  -- the copy stands at its place
  pub copy_there : (b c : Bound P) (place : ℕ) (t : Term) → Copied b place t c
      → known_at c.seat.me.known place ≡ knows.Record t
  copy_there b c place t copied =
      ap (λ (ks : List Known). known_at ks place) copied.known
      ∙ ap (λ (n : ℕ). known_at (b.seat.me.known ++ knows.Record t ∷ []) n)
      (copied.place_is ∙ copied.fit)
      ∙ get_or-append_seam b.seat.me.known (knows.Record t) [] knows.Nothing

below_or : (k n : ℕ) → k < n + 1 → (k < n) ⊎ (k ≡ n)
below_or k n lt = search (arith, lt)

-- one record further, which has its copy at this place if it is marked
pub copied_more : (known later : List Known) (marks : List Bool) (n : ℕ) (places : List ℕ)
    (terms : List Term) (place : ℕ) → n < length places → StillRecords known later
    → (slice_index_or marks n false ≡ true
    → known_at later place ≡ knows.Record (slice_index_or terms n null))
    → AreCopied known marks n places terms
    → AreCopied later marks (n + 1) (slice_set places n place) terms
copied_more known later marks n places terms place there still here copied k lt is =
    ⊎_elim
    (λ (less : k < n).
    let other : k ≢ n = omega (arith, less) in
    ap (λ (p : ℕ). known_at later p) (get_or-set_other places n k place 0 other)
    ∙ still (slice_index_or places k 0) (slice_index_or terms k null) (copied k less is))
    (λ (same : k ≡ n).
    ap (λ (j : ℕ). known_at later (slice_index_or (slice_set places n place) j 0)) same
    ∙ ap (λ (p : ℕ). known_at later p) (get_or-set_same places n place 0 there)
    ∙ here (ap (λ (j : ℕ). slice_index_or marks j false) (sym same) ∙ is)
    ∙ ap (λ (j : ℕ). knows.Record (slice_index_or terms j null)) (sym same))
    (below_or k n lt)

-- A record whose older ones have their copies.
module _ (first known : List Known) (records : List (List MinorField)) (marks : List Bool)
    (places : List ℕ) (k : ℕ) (ordered : IsOrdered 0 records) (stands : k < length records)
    (still : StillRecords first known)
    (copied : AreCopied known marks k places (terms_of (known_terms first) records))
    (closed : (i : ℕ) (older : MinorRef) → i < 5 → field_at records k i ≡ field.Minor older
    → slice_index_or marks older.number false ≡ true)
    (shares : (i : ℕ) → i < 5 → SharesRecord first (field_at records k i)) where
  abbrev terms : List Term
  terms = terms_of (known_terms first) records

  ready_of : (f : MinorField) → FitsRecord k f
      → ((older : MinorRef) → f ≡ field.Minor older
      → slice_index_or marks older.number false ≡ true)
      → SharesRecord first f → IsReady known (value_of places f)
  ready_of field.Null fits named shared = tt
  ready_of (field.Num n) fits named shared = fits
  ready_of (field.Minor r) fits named shared =
      ap is_term (copied r.number fits (named r refl))
  ready_of (field.Shared place) fits named shared =
      let is = record_of (known_at first place) shared in
      ap is_term (still place is.0 is.1)

  term_for : (f : MinorField) → FitsRecord k f
      → ((older : MinorRef) → f ≡ field.Minor older
      → slice_index_or marks older.number false ≡ true)
      → SharesRecord first f
      → term_at known (value_of places f) ≡ field_term (known_terms first) terms f
  term_for field.Null fits named shared = refl
  term_for (field.Num n) fits named shared = refl
  term_for (field.Minor r) fits named shared =
      ap (term_or null) (copied r.number fits (named r refl))
  term_for (field.Shared place) fits named shared =
      let is = record_of (known_at first place) shared in
      ap (term_or null) (still place is.0 is.1)
      ∙ sym (get_or-map (term_or null) first place knows.Nothing ∙ ap (term_or null) is.1)

  pub fields_ready : (i : ℕ) → i < 5 → IsReady known (value_of places (field_at records k i))
  fields_ready i lt =
      ready_of (field_at records k i) (fits_is records k i ordered stands)
      (λ older is. closed i older lt is) (shares i lt)

  field_for : (i : ℕ) → i < 5
      → term_at known (value_of places (field_at records k i))
      ≡ field_term (known_terms first) terms (field_at records k i)
  field_for i lt =
      term_for (field_at records k i) (fits_is records k i ordered stands)
      (λ older is. closed i older lt is) (shares i lt)

  -- the copy has the term of the record
  pub copy_term : copied_term known places records k ≡ slice_index_or terms k null
  copy_term =
      (λ t. five (field_for 0 (omega arith) t) (field_for 1 (omega arith) t)
      (field_for 2 (omega arith) t) (field_for 3 (omega arith) t) (field_for 4 (omega arith) t))
      ∙ sym (term_is (known_terms first) records (record { number = k }) ordered stands)

-- The loop over the records.

count_more : {P : Type 0} (marks : List Bool) (n : ℕ) (a c : Bound P)
    → slice_index_or marks n false ≡ true → GrownBy (marked_count (take n marks) + 1) a c
    → GrownBy (marked_count (take (n + 1) marks)) a c
count_more marks n a c is so =
    let next : n + 1 ≡ suc n = omega arith in
    let more : marked_count (take n marks) + 1 ≡ marked_count (take (n + 1) marks) =
    (let e : marked_count (take n marks) + 1 ≡ suc (marked_count (take n marks)) = omega arith in e)
    ∙ sym (count_set marks n is) ∙ ap (λ (k : ℕ). marked_count (take k marks)) (sym next) in
    subst (λ (k : ℕ). GrownBy k a c) more so

pub step_copied : {P : Type 0} (a b c : Bound P) (records : List (List MinorField))
    (marks : List Bool) (places : List ℕ) (n place : ℕ) → IsOrdered 0 records → n < length records
    → n < length places
    → ((i : ℕ) (older : MinorRef) → i < 5 → field_at records n i ≡ field.Minor older
    → slice_index_or marks older.number false ≡ true)
    → ((i : ℕ) → i < 5 → SharesRecord a.seat.me.known (field_at records n i))
    → slice_index_or marks n false ≡ true
    → GrownBy (marked_count (take n marks)) a b
    → AreCopied b.seat.me.known marks n places (terms_of (known_terms a.seat.me.known) records)
    → Copied b place (copied_term b.seat.me.known places records n) c
    → GrownBy (marked_count (take (n + 1) marks)) a c
    × AreCopied c.seat.me.known marks (n + 1) (slice_set places n place)
    (terms_of (known_terms a.seat.me.known) records)
step_copied a b c records marks places n place ordered stands there closed shares is so copied got =
    let terms = terms_of (known_terms a.seat.me.known) records in
    let t = copied_term b.seat.me.known places records n in (
      count_more marks n a c is (grown_more a b c (marked_count (take n marks)) place t so got),
      copied_more b.seat.me.known c.seat.me.known marks n places terms place there
          (still_copied b c place t got)
          (λ marked. copy_there b c place t got
          ∙ ap (λ (u : Term). knows.Record u)
          (copy_term a.seat.me.known b.seat.me.known records marks places n ordered stands
          (still_records anything a b so.grown) copied closed shares))
          copied,
    )

pub step_passed : {P : Type 0} (a b : Bound P) (marks : List Bool) (places : List ℕ)
    (terms : List Term) (n : ℕ) → slice_index_or marks n false ≡ false
    → GrownBy (marked_count (take n marks)) a b → AreCopied b.seat.me.known marks n places terms
    → GrownBy (marked_count (take (n + 1) marks)) a b
    × AreCopied b.seat.me.known marks (n + 1) places terms
step_passed a b marks places terms n other so copied =
    let next : n + 1 ≡ suc n = omega arith in (
      subst (λ (k : ℕ). GrownBy k a b) (sym (count_unset marks n other)
          ∙ ap (λ (k : ℕ). marked_count (take k marks)) (sym next)) so,
      (λ k lt is. ⊎_elim
          (λ (less : k < n). copied k less is)
          (λ (same : k ≡ n). absurd (true≢false (sym is
          ∙ ap (λ (j : ℕ). slice_index_or marks j false) same ∙ other)))
          (below_or k n lt)),
    )

-- before the first of the marks nothing is copied
pub none_copied : {P : Type 0} (marks : List Bool) (span : RecordSpan) (a : Bound P)
    → AreWithin span marks → GrownBy (marked_count (take span.first marks)) a a
none_copied marks span a within =
    subst (λ (k : ℕ). GrownBy k a a)
    (sym (count_before marks span.first (λ k is. (within (record { number = k }) is).0)))
    (grown_none a)

-- and after the last one all are
pub all_grown : {P : Type 0} (marks : List Bool) (span : RecordSpan) (n : ℕ) (a b : Bound P)
    → AreWithin span marks → span.end ≤ n → GrownBy (marked_count (take n marks)) a b
    → GrownBy (marked_count marks) a b
all_grown marks span n a b within past so =
    subst (λ (k : ℕ). GrownBy k a b)
    (count_all marks n (λ k is. let l = (within (record { number = k }) is).1 in
    omega (arith, l, past))) so

pub ok_both : {T E : Type 0} {A B : Type 0} (r : Result T E) → OnOk r A → (A → B) → OnOk r B
ok_both (Ok x) a f = f a
ok_both (Err e) a f = a

-- a place is left for the next copy
pub room_left : {P : Type 0} (marks : List Bool) (n records : ℕ) (a b : Bound P) → n < records
    → length a.seat.me.own.held + records ≤ a.seat.me.room
    → GrownBy (marked_count (take n marks)) a b
    → length b.seat.me.own.held < b.seat.me.room
room_left marks n records a b lt room so =
    let g = so.grown in
    let many : length b.seat.me.own.held ≡ length a.seat.me.own.held + length g.cells =
    sym (cells_many b.seat.me.own.held) ∙ ap (λ (cs : List ℕ). length cs) g.held
    ∙ length-append (held_cells a) g.cells
    ∙ ap (λ (k : ℕ). k + length g.cells) (cells_many a.seat.me.own.held) in
    omega (arith, lt, room, many, g.stays.room, so.count_is, count_few marks n)

pub ok_two : {T E : Type 0} {A B C : Type 0} (r : Result T E) → OnOk r A → OnOk r B
    → (A → B → C) → OnOk r C
ok_two (Ok x) a b f = f a b
ok_two (Err e) a b f = a

-- as many more places as cells
pub grown_many : {P : Type 0} (F : List Taken → Type 0) (a b : Bound P) (g : Grown F a b)
    → length b.seat.me.own.held ≡ length a.seat.me.own.held + length g.cells
grown_many F a b g =
    sym (cells_many b.seat.me.own.held) ∙ ap (λ (cs : List ℕ). length cs) g.held
    ∙ length-append (held_cells a) g.cells
    ∙ ap (λ (k : ℕ). k + length g.cells) (cells_many a.seat.me.own.held)

pub grown_known : {P : Type 0} (F : List Taken → Type 0) (a b : Bound P) (g : Grown F a b)
    → length b.seat.me.known ≡ length a.seat.me.known + length g.cells
grown_known F a b g =
    ap (λ (ks : List Known). length ks) g.known
    ∙ length-append a.seat.me.known (records_of g.terms)
    ∙ ap (λ (n : ℕ). length a.seat.me.known + n)
    (length-map g.terms (λ t. knows.Record t) ∙ g.many)

pub few_held : {P : Type 0} (marks : List Bool) (span : RecordSpan) (a b : Bound P) (records : ℕ)
    → AreWithin span marks → span.end ≤ records → GrownBy (marked_count marks) a b
    → length b.seat.me.own.held ≤ length a.seat.me.own.held + records
few_held marks span a b records within stands so =
    let all : marked_count (take span.end marks) ≡ marked_count marks =
    count_all marks span.end (λ k is. (within (record { number = k }) is).1) in
    omega (
      arith,
      all,
      count_few marks span.end,
      stands,
      so.count_is,
      grown_many anything a b so.grown,
    )

-- the copies that follow stand after those that were made
pub copied_on : {P : Type 0} (a b c : Bound P) (count : ℕ) → GrownBy count a b
    → Copying (length a.seat.me.own.held) a b → Copying (length b.seat.me.own.held) b c
    → Copying (length a.seat.me.own.held) a c
copied_on a b c count so first second =
    copying_on (length a.seat.me.own.held) (length b.seat.me.own.held) a b c
    (omega (arith, grown_many anything a b so.grown)) first second
