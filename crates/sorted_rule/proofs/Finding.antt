-- What a read of a field of an open place finds: a cell of the field's sort, which others may know.
use Rattle.std.proofs.Common.{◌≡◌, ◌≢◌, ◌<◌, ◌≤◌, ◌==◌, ℕ, Bool, true, List, Option, Some, None}
use Rattle.std.proofs.Common.{length, inl, inr, refl, sym, ◌∙◌, ap, subst, arith}
use Rattle.std.proofs.lemmas.Bool.{or_cases}
use mathlib.Core.Option.{some}
use lib.ListN.{get_elem?}
use Rattle.cell_words.specs.declared.fields.Field.{Field}
use Rattle.cell_words.specs.declared.fields.Field.TheVariants as field
use Rattle.cell_words.specs.Term.{Term}
use Rattle.core_machine.specs.Next.{found_by}
use Rattle.core_machine.specs.State.{State, field_of, target_of}
use Rattle.core_machine.specs.Words.{is_box_kind, is_raw_kind}
use Rattle.core_machine.specs.declared.events.Event.TheVariants as event
use Rattle.core_machine.specs.declared.events.Found.TheVariants as finds
use Rattle.dlg_core.specs.Facts.{is_kind_field}
use Rattle.dlg_core.specs.Reachable.{Reachable, named}
use Rattle.heap_rule.specs.Asks.{known_of, target}
use Rattle.heap_rule.specs.Boxes.{boxes_of, payload_of}
use Rattle.heap_rule.specs.Facts.{IsKnown, IsPlain, TermFits, is_record_kind}
use Rattle.heap_rule.specs.Lore.{Lore, entry_of, five_of, learned, learned_from}
use Rattle.heap_rule.specs.Lore.{learned_of, named_or}
use Rattle.heap_rule.specs.NoRule.{no_field_is_fixed}
use Rattle.heap_rule.specs.Steps.{AtStep, Mine, same_pass}
use Rattle.heap_rule.specs.declared.known.Known.{Known}
use Rattle.heap_rule.specs.declared.known.Known.TheVariants as knows
use Rattle.heap_rule.specs.declared.view.View.{View}
use Rattle.heap_rule.proofs.EntryWords.{learned_box, learned_record, no_term, not_some}
use Rattle.heap_rule.proofs.Maps.{in_map}
use Rattle.heap_rule.proofs.Seats.{knows_place, reached_place, target_now}
use Rattle.sorted_rule.specs.Open.{IsOpen, KnownOfSort, sort_at}
use Rattle.sorted_rule.specs.Sorted.{HoldsSorted}
use Rattle.sorted_rule.specs.Sorts.{Boxes, IsOfSort, Records, Sort, sort_of}
use Rattle.sorted_rule.specs.declared.sorting.Sorting.{Sorting}
use Rattle.sorted_rule.proofs.Standing.{OpenBox, open_box}

module _ (v : View Sorting) (s : State) (l : Lore) (mine : Mine no_field_is_fixed v s l)
    (c : ℕ) (reached : Reachable s c) (old : l.fresh c ≡ None) where
  -- a raw cell is fresh for somebody
  not_raw : is_raw_kind (field_of s c 5) ≡ true → ⊥
  not_raw raw =
      let owner = mine.shown.facts.freshed.raw c reached raw in
      not_some owner.0 (l.fresh c) old owner.1

  record_found : (sort : Sort) (t : Term) → IsOfSort sort (named_or c (l.terms c))
      → l.terms c ≡ Some (five_of l.terms (field_of s c))
      → KnownOfSort sort (learned_of s l c)
  record_found Boxes t entry is = absurd
      (subst (λ (o : Option Term). IsOfSort Boxes (named_or c o)) is entry)
  record_found Records t entry is =
      subst (λ (k : Known). KnownOfSort Records k)
      (sym (learned_record no_field_is_fixed s l mine.shown.facts c
      (five_of l.terms (field_of s c)) is)) tt

  box_found : (sort : Sort) → IsOfSort sort (named_or c (l.terms c))
      → is_box_kind (field_of s c 5) ≡ true → KnownOfSort sort (learned_of s l c)
  box_found Boxes entry box =
      let other : c ≢ 0 =
      subst (λ (o : Option Term). IsOfSort Boxes (named_or c o))
      (no_term no_field_is_fixed s l mine.shown.facts c reached box) entry in
      subst (λ (k : Known). KnownOfSort Boxes k)
      (sym (learned_box no_field_is_fixed s l mine.shown.facts c
      record { reached = reached; box = box; old = old } other)) tt
  box_found Records entry box = absurd
      (subst (λ (o : Option Term). IsOfSort Records (named_or c o))
      (no_term no_field_is_fixed s l mine.shown.facts c reached box) entry)

  by_kind : (sort : Sort) → IsOfSort sort (named_or c (l.terms c)) → (k : Field)
      → field_of s c 5 ≡ k → is_kind_field k ≡ true → KnownOfSort sort (learned_of s l c)
  by_kind sort entry field.Null is kind = absurd (not_raw (ap is_raw_kind is))
  by_kind sort entry (field.Num n) is kind = elim (or_cases (n == 1) (n == 2) kind) [
    | inl one ↦
        let fits : TermFits true l.terms (field_of s c) (l.terms c) =
        subst (λ (b : Bool). TermFits b l.terms (field_of s c) (l.terms c))
        (ap is_record_kind is ∙ one) (mine.shown.facts.termed c reached) in
        record_found sort (five_of l.terms (field_of s c)) entry fits.0
    | inr two ↦ box_found sort entry (ap is_box_kind is ∙ two)
  ]
  by_kind sort entry (field.Cell d) is kind = absurd cc

  pub learned_fits : (sort : Sort) → IsOfSort sort (named_or c (l.terms c))
      → KnownOfSort sort (learned_of s l c)
  learned_fits sort entry =
      by_kind sort entry (field_of s c 5) refl (mine.shown.consistent.cells.kinds c)

module _ (v : View Sorting) (s : State) (l : Lore) (passes : List Sorting)
    (mine : Mine no_field_is_fixed v s l) (h : HoldsSorted (boxes_of s l) passes)
    (at : get_elem? passes v.number ≡ some v.pass) (place f c : ℕ)
    (there : place < length v.own.held) (open_is : IsOpen v place) (payload : f < 5)
    (names : field_of s (target v place) f ≡ field.Cell c) where
  abbrev x : ℕ
  x = target v place

  box : OpenBox s l place x
  box = open_box v s l mine place there open_is

  reached : Reachable s c
  reached = named f box.in_is.reached names

  -- no field names a fresh cell
  old : l.fresh c ≡ None
  old = by_owner (l.fresh c) refl
    where
      by_owner : (o : Option ℕ) → l.fresh c ≡ o → o ≡ None
      by_owner None is = refl
      by_owner (Some i) is =
          absurd (mine.shown.facts.freshed.unnamed c i x f is box.in_is.reached names)

  entry : IsOfSort (sort_at v place f) (named_or c (l.terms c))
  entry =
      subst (λ (value : Field). IsOfSort (sort_at v place f) (entry_of l.terms value)) names
      (subst (λ (sort : Sort). IsOfSort sort (payload_of s l x f))
      (sym (ap (λ (boxes : ℕ). sort_of boxes place f) (h.agreed v.number v.pass at)
      ∙ box.sort_is h.boxes f))
      (h.sorted x (payload_of s l x) (in_map s l x box.in_is) f payload))

  found_fits : KnownOfSort (sort_at v place f) (learned_of s l c)
  found_fits = learned_fits v s l mine c reached old (sort_at v place f) entry

-- What a field of a record names is a record.
module _ (v : View Sorting) (s : State) (l : Lore) (mine : Mine no_field_is_fixed v s l) where
  record_kind : (x : ℕ) (k : Known) → KnownOfSort Records k
      → IsKnown no_field_is_fixed s l v.number x k → is_record_kind (field_of s x 5) ≡ true
  record_kind x (knows.Record t) is known = ap is_record_kind known.0
  record_kind x knows.Nothing is known = absurd is
  record_kind x (knows.Raw fields) is known = absurd is
  record_kind x (knows.Fresh fields) is known = absurd is
  record_kind x (knows.Boxed told) is known = absurd is

  with_term : (c : ℕ) (o : Option Term) → l.terms c ≡ o → IsPlain (named_or c o)
      → KnownOfSort Records (learned_of s l c)
  with_term c None is plain = absurd plain
  with_term c (Some t) is plain =
      subst (λ (k : Known). KnownOfSort Records k)
      (sym (learned_record no_field_is_fixed s l mine.shown.facts c t is)) tt

  record_named : (place f c : ℕ) → place < length v.own.held
      → KnownOfSort Records (known_of v place) → f < 5
      → field_of s (target v place) f ≡ field.Cell c → KnownOfSort Records (learned_of s l c)
  record_named place f c there is payload names =
      let x = target v place in
      let kind = record_kind x (known_of v place) is (knows_place v s l mine place there) in
      let fits : TermFits true l.terms (field_of s x) (l.terms x) =
      subst (λ (b : Bool). TermFits b l.terms (field_of s x) (l.terms x)) kind
      (mine.shown.facts.termed x (reached_place v s l mine place there)) in
      with_term c (l.terms c) refl
      (subst (λ (value : Field). IsPlain (entry_of l.terms value)) names (fits.1 f payload))

same_found : (a b : Field) → finds.Field a ≡ finds.Field b → a ≡ b
same_found a b is = cc

module _ (v : View Sorting) (place f cell : ℕ) (there : place < length v.own.held)
    (open_is : IsOpen v place) (payload : f ≤ 4) where
  -- what a read is told of the cell that it finds
  pub learned_finds : (s : State) (l : Lore) (passes : List Sorting)
      → Mine no_field_is_fixed v s l → HoldsSorted (boxes_of s l) passes
      → get_elem? passes v.number ≡ some v.pass
      → found_by s (event.Read v.number place f) ≡ finds.Field (field.Cell cell)
      → KnownOfSort (sort_at v place f) (learned s l (event.Read v.number place f)).found
  learned_finds s l passes mine h at found =
      let x = target_of s v.number place in
      let names : field_of s x f ≡ field.Cell cell =
      same_found (field_of s x f) (field.Cell cell) found in
      subst (λ (k : Known). KnownOfSort (sort_at v place f) k)
      (sym (ap (learned_from s l) names))
      (found_fits v s l passes mine h at place f cell there open_is (omega (arith, payload))
      (ap (λ (y : ℕ). field_of s y f) (sym (target_now v s l mine place)) ∙ names))

-- and of a record
pub record_finds : (v : View Sorting) (place f cell : ℕ) → place < length v.own.held
    → KnownOfSort Records (known_of v place) → f ≤ 4 → (s : State) (l : Lore)
    → Mine no_field_is_fixed v s l
    → found_by s (event.Read v.number place f) ≡ finds.Field (field.Cell cell)
    → KnownOfSort Records (learned s l (event.Read v.number place f)).found
record_finds v place f cell there is payload s l mine found =
    let x = target_of s v.number place in
    let names : field_of s x f ≡ field.Cell cell =
    same_found (field_of s x f) (field.Cell cell) found in
    subst (λ (k : Known). KnownOfSort Records k)
    (sym (ap (learned_from s l) names))
    (record_named v s l mine place f cell there is (omega (arith, payload))
    (ap (λ (y : ℕ). field_of s y f) (sym (target_now v s l mine place)) ∙ names))

-- at the step of a read
pub read_finds : (v w : View Sorting) (place f word cell : ℕ) → place < length v.own.held
    → IsOpen v place → f ≤ 4
    → (step : AtStep HoldsSorted no_field_is_fixed v (event.Read v.number place f) same_pass word w)
    → found_by step.core (event.Read v.number place f) ≡ finds.Field (field.Cell cell)
    → KnownOfSort (sort_at v place f)
    (learned step.core step.lore (event.Read v.number place f)).found
read_finds v w place f word cell there open_is payload step found =
    learned_finds v place f cell there open_is payload step.core step.lore step.passes step.mine
    step.kept step.pass found

pub record_read_finds : (v w : View Sorting) (place f word cell : ℕ) → place < length v.own.held
    → KnownOfSort Records (known_of v place) → f ≤ 4
    → (step : AtStep HoldsSorted no_field_is_fixed v (event.Read v.number place f) same_pass word w)
    → found_by step.core (event.Read v.number place f) ≡ finds.Field (field.Cell cell)
    → KnownOfSort Records (learned step.core step.lore (event.Read v.number place f)).found
record_read_finds v w place f word cell there is payload step found =
    record_finds v place f cell there is payload step.core step.lore step.mine found
