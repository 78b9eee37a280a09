-- Every state of a run has words: each field is a number that fits its word, or a cell, and nobody
-- is in and over at once. So what an event finds has a word, and the control has one.
use Rattle.std.proofs.Common.{◌≡◌, ℕ, zero, suc, ◌^◌, ◌≤◌, Bool, true, false, not, ◌&&◌, cond, List}
use Rattle.std.proofs.Common.{[], ◌∷◌, ◌++◌, length, replicate, get_or, set, refl, sym, ap, subst}
use Rattle.std.proofs.Common.{arith}
use Rattle.std.proofs.lemmas.Bool.{ltb-true}
use Rattle.cell_words.specs.Control.{IsValidControl, greatest_position_of}
use Rattle.cell_words.specs.Field.{IsValidField}
use Rattle.cell_words.specs.Presence.{is_valid_presence}
use Rattle.cell_words.specs.declared.controls.Stage.{Stage}
use Rattle.cell_words.specs.declared.controls.Stage.TheVariants as stage
use Rattle.cell_words.specs.declared.fields.Field.{Field}
use Rattle.cell_words.specs.declared.fields.Field.TheVariants as field
use Rattle.cell_words.specs.declared.fields.Kind.{Kind}
use Rattle.cell_words.specs.declared.fields.Kind.TheVariants as kind
use Rattle.cell_words.specs.declared.presences.Presence.{Presence}
use Rattle.cell_words.specs.declared.presences.Status.{Status}
use Rattle.core_machine.specs.declared.events.Event.{Event}
use Rattle.core_machine.specs.declared.events.Event.TheVariants as event
use Rattle.core_machine.specs.declared.events.Taken.{Taken}
use Rattle.core_machine.specs.declared.places.Held.{Held}
use Rattle.core_machine.specs.declared.progress.Sweeping.{Sweeping}
use Rattle.core_machine.specs.declared.progress.Sweeping.TheVariants as sweeping
use Rattle.core_machine.specs.Handshakes.{wanted_of}
use Rattle.core_machine.specs.InRange.{InRange, NamesBelow, SweepFits, StageFits, CyclesFit}
use Rattle.core_machine.specs.InRange.{NumberFits, HasWords}
use Rattle.core_machine.specs.Next.{can, found_by, after}
use Rattle.core_machine.specs.Places.{names_rightly}
use Rattle.core_machine.specs.Run.{Runs, last}
use Rattle.core_machine.specs.State.{State, greatest_cells, greatest_cycles, row_in, field_in}
use Rattle.core_machine.specs.State.{field_of, held_of, presence_in, presence_of, no_presence}
use Rattle.core_machine.specs.State.{null_row, opening_presence, opening, set_field, target_of}
use Rattle.core_machine.specs.State.{begun_of}
use Rattle.core_machine.specs.Sweep.{wiped_count}
use Rattle.core_machine.specs.Tracing.{scan_of}
use Rattle.core_machine.specs.WordOperations.{IsValidFound}
use Rattle.core_machine.specs.Words.{written, same_field, kind_field, may_answer_out, answered_out}
use Rattle.core_machine.proofs.Conditions.{come_in_needs, write_needs, store_needs, fill_needs}
use Rattle.core_machine.proofs.Ranges.Lists.{set_cases}
use Rattle.core_machine.proofs.Ranges.Start.{default_in}

-- One field, or one presence, is another.

numbers_set : (rows : List (List Field)) (c f : ℕ) (x : Field) → NumberFits x
    → ((d g : ℕ) → NumberFits (field_in rows d g)) → (d g : ℕ)
    → NumberFits (field_in (set_field rows c f x) d g)
numbers_set rows c f x fits old d g =
    set_cases (λ (row : List Field). NumberFits (get_or row g field.Null)) rows c d
    (set (row_in rows c) f x) []
    (λ is there. set_cases NumberFits (row_in rows c) f g x field.Null (λ same within. fits)
    (old c g))
    (old d g)

presences_set : (presences : List Presence) (i : ℕ) (p : Presence) → is_valid_presence p ≡ true
    → ((j : ℕ) → is_valid_presence (presence_in presences j) ≡ true)
    → (j : ℕ) → is_valid_presence (presence_in (set presences i p) j) ≡ true
presences_set presences i p valid old j =
    set_cases (λ (q : Presence). is_valid_presence q
    ≡ true) presences i j p no_presence (λ is there. valid) (old j)

-- a value that names a cell rightly is a number that fits, if it is one
rightly_number : (held : List Held) (value : Field) → names_rightly held value ≡ true
    → NumberFits value
rightly_number held field.Null h = tt
rightly_number held (field.Num n) h = ltb-true n (2 ^ 62) h
rightly_number held (field.Cell c) h = tt

written_number : (found old new : Field) → NumberFits found → NumberFits new
    → NumberFits (written found old new)
written_number found old new before behind =
    elim (same_field found old) as
    (λ b. NumberFits (cond b new found)) [ true ↦ behind | false ↦ before ]

kind_number : (kind : Kind) → NumberFits (kind_field kind)
kind_number kind.Record = omega arith
kind_number kind.Boxed = omega arith

same_flags_valid : (found : Presence) (wanted : Status) (over : Bool) → is_valid_presence found
    ≡ true
    → is_valid_presence (answered_out wanted over found) ≡ true
same_flags_valid found wanted over valid =
    elim (may_answer_out wanted over found) as
    (λ b. is_valid_presence (cond b (record found { status = wanted }) found) ≡ true)
    [ true ↦ valid | false ↦ valid ]

-- Every event.

pub words_after : (s : State) (e : Event) → can s e ≡ true → HasWords s → HasWords (after s e)
words_after s (event.Begin i) h k =
    let needs = come_in_needs s i h in
    record {
      numbers_fit = k.numbers_fit;
      never_both = presences_set s.presences i _ (ap not needs.not_over) k.never_both;
    }
words_after s (event.Write i place f old new) h k =
    let c = target_of s i place in
    record {
      numbers_fit = numbers_set s.rows c f _
          (written_number (field_of s c f) old new (k.numbers_fit c f)
          (rightly_number (held_of s i) new
          (write_needs s i place f old new h).names_new)) k.numbers_fit;
      never_both = k.never_both;
    }
words_after s (event.Store i new) h k =
    let begun = begun_of s i in
    record {
      numbers_fit = numbers_set s.rows (target_of s i begun.place) begun.f new
          (rightly_number (held_of s i) new (store_needs s i new h).names) k.numbers_fit;
      never_both = k.never_both;
    }
words_after s (event.Fill i place f value) h k = record {
  numbers_fit = numbers_set s.rows (target_of s i place) f value
      (rightly_number (held_of s i) value (fill_needs s i place f value h).names) k.numbers_fit;
  never_both = k.never_both;
}
words_after s (event.Seal i place kind) h k = record {
  numbers_fit = numbers_set s.rows (target_of s i place) 5 _ (kind_number kind) k.numbers_fit;
  never_both = k.never_both;
}
words_after s (event.Answer i) h k = record {
  numbers_fit = k.numbers_fit;
  never_both = presences_set s.presences i _ (k.never_both i) k.never_both;
}
words_after s (event.End i) h k = record {
  numbers_fit = k.numbers_fit;
  never_both = presences_set s.presences i _ refl k.never_both;
}
words_after s (event.Over i) h k =
    let needs = come_in_needs s i h in
    record {
      numbers_fit = k.numbers_fit;
      never_both = presences_set s.presences i _
          (ap (λ (inside : Bool). not (inside && true)) needs.out) k.never_both;
    }
words_after s (event.AnswerOut i over) h k = record {
  numbers_fit = k.numbers_fit;
  never_both = presences_set s.presences i _
      (same_flags_valid (presence_of s i) (wanted_of s) over (k.never_both i)) k.never_both;
}
words_after s event.Wipe h k = record {
  numbers_fit = numbers_set s.rows s.control.position
      (wiped_count s.collector.sweep) field.Null tt k.numbers_fit;
  never_both = k.never_both;
}
words_after s _ h k = record { numbers_fit = k.numbers_fit; never_both = k.never_both }

pub runs_have_words : (s : State) (ts : List Taken) → Runs s ts → HasWords s → HasWords (last s ts)
runs_have_words s [] runs k = k
runs_have_words s (t ∷ ts) runs k =
    runs_have_words (after s t.event) ts runs.2 (words_after s t.event runs.0 k)

-- The opening.

null_numbers : (m c f : ℕ) → NumberFits (field_in (replicate m null_row) c f)
null_numbers zero c f = tt
null_numbers (suc m) zero f = subst NumberFits (sym (default_in 6 f field.Null)) tt
null_numbers (suc m) (suc c) f = null_numbers m c f

first_numbers : (m : ℕ) (first : List (List Field)) → ((c f : ℕ) → NumberFits (field_in first c f))
    → (c f : ℕ)
    → NumberFits (field_in (first ++ replicate m null_row) c f)
first_numbers m [] fits c f = null_numbers m c f
first_numbers m (row ∷ rows) fits zero f = fits zero f
first_numbers m (row ∷ rows) fits (suc c) f = first_numbers m rows (λ d g. fits (suc d) g) c f

all_out : (m i : ℕ) → is_valid_presence (presence_in (replicate m opening_presence) i) ≡ true
all_out zero i = refl
all_out (suc m) zero = refl
all_out (suc m) (suc i) = all_out m i

pub opening_has_words : (cells : ℕ) (rooms : List ℕ) (first : List (List Field))
    → ((c f : ℕ) → NumberFits (field_in first c f)) → HasWords (opening cells rooms first)
opening_has_words cells rooms first fits = record {
  numbers_fit = first_numbers _ first fits;
  never_both = all_out (length rooms);
}

-- What has a word.

-- of a heap that a control word can show
pub field_valid : (s : State) → InRange s → HasWords s → (c f : ℕ) → IsValidField (field_of s c f)
field_valid s r k c f = by_value (field_of s c f) (r.shape.names_fit.fields_fit c f)
    (k.numbers_fit c f)
  where
    by_value : (x : Field) → NamesBelow s.cells x → NumberFits x → IsValidField x
    by_value field.Null names fits = tt
    by_value (field.Num n) names fits = fits
    by_value (field.Cell d) names fits = omega (arith, names, r.few_cells)

swept_low : (cells position : ℕ) (sweep : Sweeping) → SweepFits cells position sweep
    → position ≤ cells
swept_low cells position sweeping.Fresh fits = fits
swept_low cells position (sweeping.Wiping k) fits = omega (arith, fits.0)
swept_low cells position sweeping.BlackFound fits = omega (arith, fits)
swept_low cells position sweeping.Done fits = omega (arith, fits)

position_valid : (cells position : ℕ) (sweep : Sweeping) (at : Stage) → cells ≤ greatest_cells
    → StageFits cells position sweep at → position ≤ greatest_position_of at
position_valid cells position sweep stage.Idle few fits = omega (arith, fits.0)
position_valid cells position sweep stage.Sync1 few fits = omega (arith, fits.0)
position_valid cells position sweep stage.Clear few fits = omega (arith, fits.0)
position_valid cells position sweep stage.Sync2 few fits = omega (arith, fits.0)
position_valid cells position sweep stage.Trace few fits = omega (arith, fits.0)
position_valid cells position sweep stage.Sweep few fits = omega
    (arith, few, swept_low cells position sweep fits)

cycles_valid : (cycles : ℕ) (at : Stage) → CyclesFit cycles at → cycles ≤ greatest_cycles
cycles_valid cycles stage.Idle fits = fits
cycles_valid cycles stage.Sync1 fits = omega (arith, fits)
cycles_valid cycles stage.Clear fits = omega (arith, fits)
cycles_valid cycles stage.Sync2 fits = omega (arith, fits)
cycles_valid cycles stage.Trace fits = omega (arith, fits)
cycles_valid cycles stage.Sweep fits = omega (arith, fits)

pub control_valid : (s : State) → InRange s → IsValidControl s.control
control_valid s r = record {
  position = position_valid s.cells s.control.position s.collector.sweep s.control.stage r.few_cells
      r.shape.control_fits.stage_fits;
  cycles = cycles_valid s.control.cycles s.control.stage r.shape.control_fits.cycles_fit;
}

-- what an event finds has a word
pub found_valid : (s : State) (e : Event) → InRange s → HasWords s → IsValidFound (found_by s e)
found_valid s (event.Look i) r k = control_valid s r
found_valid s (event.Begin i) r k = k.never_both i
found_valid s (event.Keep i count from copies) r k = k.never_both i
found_valid s (event.End i) r k = k.never_both i
found_valid s (event.Over i) r k = k.never_both i
found_valid s (event.Poll i) r k = k.never_both i
found_valid s (event.AnswerOut i over) r k = k.never_both i
found_valid s (event.Read i place f) r k = field_valid s r k (target_of s i place) f
found_valid s (event.Fetch i place f) r k = field_valid s r k (target_of s i place) f
found_valid s (event.Write i place f old new) r k = field_valid s r k (target_of s i place) f
found_valid s event.Scan r k = field_valid s r k (scan_of s).cell (scan_of s).next
found_valid s _ r k = tt
