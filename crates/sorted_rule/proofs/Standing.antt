-- What a mutator knows of open places and of values, as facts of the state at its step.
use Rattle.std.proofs.Common.{◌≡◌, ◌≢◌, ◌<◌, ℕ, zero, suc, Option}
use Rattle.std.proofs.Common.{length, refl, sym, ap, subst, arith}
use Rattle.cell_words.specs.declared.fields.Field.{Field}
use Rattle.cell_words.specs.declared.fields.Field.TheVariants as field
use Rattle.cell_words.specs.Term.{Term}
use Rattle.core_machine.specs.State.{State}
use Rattle.dlg_core.specs.Reachable.{Reachable}
use Rattle.heap_rule.specs.Asks.{known_of, target}
use Rattle.heap_rule.specs.Facts.{IsKnown}
use Rattle.heap_rule.specs.Lore.{Lore, entry_of, named_or}
use Rattle.heap_rule.specs.NoRule.{no_field_is_fixed}
use Rattle.heap_rule.specs.Settled.{IsSettled, NamesSettled}
use Rattle.heap_rule.specs.Steps.{Mine}
use Rattle.heap_rule.specs.declared.known.Known.{Known}
use Rattle.heap_rule.specs.declared.known.Known.TheVariants as knows
use Rattle.heap_rule.specs.declared.view.View.{View}
use Rattle.heap_rule.proofs.EntryWords.{no_term}
use Rattle.heap_rule.proofs.Maps.{In, anchor_in}
use Rattle.heap_rule.proofs.Seats.{knows_place, reached_place}
use Rattle.sorted_rule.specs.Open.{IsOpen, KnownOfSort, MayStand}
use Rattle.sorted_rule.specs.Sorts.{Boxes, IsOfSort, Records, Sort, sort_of}
use Rattle.sorted_rule.specs.declared.sorting.Sorting.{Sorting}

-- All boxes but the anchor are sorted alike.
pub sort_else : (boxes one other f : ℕ) → one ≢ 0 → other ≢ 0
    → sort_of boxes one f ≡ sort_of boxes other f
sort_else boxes zero other f one_is other_is = absurd (one_is refl)
sort_else boxes (suc n) zero f one_is other_is = absurd (other_is refl)
sort_else boxes (suc n) (suc m) f one_is other_is = refl

not_zero : (n : ℕ) → suc n ≢ 0
not_zero n e = omega (arith, e)

-- a value that may stand somewhere is settled: naming it shows nobody a new box
known_settled : (sort : Sort) (k : Known) → KnownOfSort sort k → IsSettled k
known_settled Boxes (knows.Boxed told) is = tt
known_settled Boxes knows.Nothing is = absurd is
known_settled Boxes (knows.Raw fields) is = absurd is
known_settled Boxes (knows.Fresh fields) is = absurd is
known_settled Boxes (knows.Record t) is = absurd is
known_settled Records (knows.Record t) is = tt
known_settled Records knows.Nothing is = absurd is
known_settled Records (knows.Raw fields) is = absurd is
known_settled Records (knows.Fresh fields) is = absurd is
known_settled Records (knows.Boxed told) is = absurd is

pub stand_settled : (v : View Sorting) (sort : Sort) (value : Field) → MayStand v sort value
    → NamesSettled v value
stand_settled v sort field.Null may = tt
stand_settled v sort (field.Num n) may = tt
stand_settled v sort (field.Cell c) may =
    (may.0, (may.1.0, (may.1.1.0, known_settled sort (known_of v may.0) may.1.1.1)))

-- an open place has a box of the map; all but the first have another one than the anchor
pub record OpenBox (s : State) (l : Lore) (place x : ℕ) : Type 0 where
  pub in_is : In s l x
  pub sort_is : (boxes f : ℕ) → sort_of boxes place f ≡ sort_of boxes x f

module _ (v : View Sorting) (s : State) (l : Lore) (mine : Mine no_field_is_fixed v s l) where
  known_box : (x : ℕ) (k : Known) → Reachable s x → KnownOfSort Boxes k
      → IsKnown no_field_is_fixed s l v.number x k
      → In s l x × (x ≢ 0)
  known_box x (knows.Boxed told) r shared is =
      (record { reached = r; box = is.1; old = is.2 }, is.0)
  known_box x knows.Nothing r shared is = absurd shared
  known_box x (knows.Raw fields) r shared is = absurd shared
  known_box x (knows.Fresh fields) r shared is = absurd shared
  known_box x (knows.Record t) r shared is = absurd shared

  pub open_box : (place : ℕ) → place < length v.own.held → IsOpen v place
      → OpenBox s l place (target v place)
  open_box zero lt is = record {
    in_is = subst (λ (x : ℕ). In s l x) (sym is)
        (anchor_in no_field_is_fixed s l mine.shown.consistent mine.shown.facts);
    sort_is = λ boxes f. ap (λ (x : ℕ). sort_of boxes x f) (sym is);
  }
  open_box (suc place) lt is =
      let box = known_box (target v (suc place)) (known_of v (suc place))
      (reached_place v s l mine (suc place) lt) is (knows_place v s l mine (suc place) lt) in
      record {
        in_is = box.0;
        sort_is = λ boxes f. sort_else boxes (suc place) (target v (suc place)) f (not_zero place)
            box.1;
      }

  -- what is known of a cell is what its name stands for
  known_entry : (sort : Sort) (c : ℕ) (k : Known) → Reachable s c → KnownOfSort sort k
      → IsKnown no_field_is_fixed s l v.number c k → IsOfSort sort (named_or c (l.terms c))
  known_entry Boxes c (knows.Boxed told) r fits is =
      subst (λ (o : Option Term). IsOfSort Boxes (named_or c o))
      (sym (no_term no_field_is_fixed s l mine.shown.facts c r is.1)) is.0
  known_entry Boxes c knows.Nothing r fits is = absurd fits
  known_entry Boxes c (knows.Raw fields) r fits is = absurd fits
  known_entry Boxes c (knows.Fresh fields) r fits is = absurd fits
  known_entry Boxes c (knows.Record t) r fits is = absurd fits
  known_entry Records c (knows.Record t) r fits is =
      subst (λ (o : Option Term). IsOfSort Records (named_or c o)) (sym is.1) tt
  known_entry Records c knows.Nothing r fits is = absurd fits
  known_entry Records c (knows.Raw fields) r fits is = absurd fits
  known_entry Records c (knows.Fresh fields) r fits is = absurd fits
  known_entry Records c (knows.Boxed told) r fits is = absurd fits

  -- the entry of a value that may stand there is of the sort
  pub stand_entry : (sort : Sort) (value : Field) → MayStand v sort value
      → IsOfSort sort (entry_of l.terms value)
  stand_entry Boxes field.Null may = tt
  stand_entry Records field.Null may = tt
  stand_entry Boxes (field.Num n) may = tt
  stand_entry Records (field.Num n) may = tt
  stand_entry sort (field.Cell c) may =
      subst (λ (x : ℕ). IsOfSort sort (named_or x (l.terms x))) may.1.1.0
      (known_entry sort (target v may.0) (known_of v may.0)
      (reached_place v s l mine may.0 may.1.0) may.1.1.1
      (knows_place v s l mine may.0 may.1.0))
