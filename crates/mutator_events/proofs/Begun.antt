-- What a seat has at run time of its pending write stands after each event of it.
use Rattle.std.proofs.Common.{◌≡◌, ◌<◌, ◌≤◌, ◌+◌, ℕ, Bool, true, false, List, [], ◌∷◌, ◌++◌}
use Rattle.std.proofs.Common.{length, map, refl, sym, ◌∙◌, ap, subst, arith, is_some}
use Rattle.std.proofs.Common.{Option, Some, None}
use Rattle.std.proofs.lemmas.List.{length-append, length-map}
use Rattle.cell_words.specs.declared.fields.Field.{Field}
use Rattle.cell_words.specs.declared.fields.Field.TheVariants as field
use Rattle.core_machine.specs.declared.pending.Pending.{Pending}
use Rattle.core_machine.specs.Own.{Own, having_fetched, having_read, marking, pending_or_none}
use Rattle.core_machine.specs.Places.{found_at, mark_of}
use Rattle.heap_rule.specs.declared.view.View.{View}
use Rattle.mutator_events.specs.Seats.{HasBegun}

-- of a view that is another
pub begun_in : {P : Type 0} {w u : View P} {place f : ℕ} {inside : Bool} → w ≡ u
    → HasBegun u.own place f inside → HasBegun w.own place f inside
begun_in {place = place} {f = f} {inside = inside} is begun =
    subst (λ (v : View _). HasBegun v.own place f inside) (sym is) begun

-- nothing is pending after what ends a write
pub none_begun : {own : Own} {place f : ℕ} {inside : Bool} → own.pending ≡ None
    → HasBegun own place f inside
none_begun none = record {
  pending_is = λ write is. let no = sym none ∙ is in absurd cc;
  there = λ some. let no : false ≡ true = ap is_some (sym none) ∙ some in absurd cc;
  payload = λ some. let no : false ≡ true = ap is_some (sym none) ∙ some in absurd cc;
  idle = λ out. none;
}

-- a read leaves every place where it was
pub read_long : (own : Own) (found : Field) → length own.held ≤ length (having_read own found).held
read_long own field.Null = omega arith
read_long own (field.Num n) = omega arith
read_long own (field.Cell c) = omega (arith, length-append own.held (found_at c ∷ []))

pub read_pending : (own : Own) (found : Field) → (having_read own found).pending ≡ own.pending
read_pending own field.Null = refl
read_pending own (field.Num n) = refl
read_pending own (field.Cell c) = refl

module _ {own : Own} {place f : ℕ} {inside : Bool} (begun : HasBegun own place f inside) where
  -- the same write, where no place is lost
  grown_begun : (after : Own) → after.pending ≡ own.pending
      → length own.held ≤ length after.held → HasBegun after place f inside
  grown_begun after same long = record {
    pending_is = λ write is. begun.pending_is write (sym same ∙ is);
    there = λ some. omega (arith, begun.there (ap is_some (sym same) ∙ some), long);
    payload = λ some. begun.payload (ap is_some (sym same) ∙ some);
    idle = λ out. same ∙ begun.idle out;
  }

  pub read_begun : (found : Field) → HasBegun (having_read own found) place f inside
  read_begun found = grown_begun (having_read own found) (read_pending own found)
      (read_long own found)

  pub marked_begun : (cell : ℕ) → HasBegun (marking own cell) place f inside
  marked_begun cell = grown_begun (marking own cell) refl
      (omega (arith, length-map own.held (mark_of cell)))

-- a fetch begins a write
pub fetched_begun : (own : Own) (place f : ℕ) (found : Field) (inside : Bool)
    → place < length own.held → f ≤ 4 → inside ≡ true
    → HasBegun (having_fetched own place f found) place f inside
fetched_begun own place f found inside lt le is_in = record {
  pending_is = λ write is. (
    sym (ap (λ (p : Option Pending). (pending_or_none p).place) is),
    sym (ap (λ (p : Option Pending). (pending_or_none p).f) is),
  );
  there = λ some. omega (arith, lt, read_long own found);
  payload = λ some. le;
  idle = λ out. let no = sym is_in ∙ out in absurd cc;
}

-- where the write that was begun goes
begun_at : (own : Own) (pending : Option Pending) (place f : ℕ) (inside : Bool)
    → HasBegun own place f inside → own.pending ≡ pending → is_some pending ≡ true
    → ((pending_or_none pending).place ≡ place) × ((pending_or_none pending).f ≡ f)
begun_at own None place f inside begun is some = let no = some in absurd cc
begun_at own (Some write) place f inside begun is some = begun.pending_is write is

pub begun_goes : (own : Own) (place f : ℕ) (inside : Bool) → HasBegun own place f inside
    → is_some own.pending ≡ true
    → ((pending_or_none own.pending).place ≡ place) × ((pending_or_none own.pending).f ≡ f)
begun_goes own place f inside begun some = begun_at own own.pending place f inside begun refl some
