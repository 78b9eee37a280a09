-- What a heap opens with: the first rows and their terms, the opening passes, and the collector's
-- seat. Source: this project's.
use Rattle.std.specs.Prelude.{ℕ, zero, suc, ◌+◌, List, [], ◌∷◌, replicate, None, false}
use Rattle.cell_words.specs.declared.fields.Field.{Field}
use Rattle.core_machine.specs.Own.{no_own}
use Rattle.core_machine.specs.State.{field_in, opening_collector, opening_control, opening_presence}
use Rattle.heap_rule.specs.declared.view.Place.TheVariants as places
use Rattle.heap_rule.specs.declared.view.Role.TheVariants as role
use Rattle.heap_rule.specs.declared.view.View.{View}
use Rattle.heap_rule.specs.Facts.{TermFits, is_record_kind}
use Rattle.heap_rule.specs.Lore.{Lore, Terms}
use Rattle.heap_rule.specs.Shape.{Shape}

-- these are the terms of the first rows: each record denotes one
abbrev pub FirstTerms : List (List Field) → Terms → Type 0
FirstTerms first terms =
    (x : ℕ) → TermFits (is_record_kind (field_in first x 5)) terms (field_in first x) (terms x)

-- nothing is fresh, and no mutator holds a cell
abbrev pub opening_lore : Terms → ℕ → Lore
opening_lore terms
    mutators = record { terms = terms; fresh = λ x. None; known = replicate mutators [] }

-- room for one place each, until a mutator is split off
abbrev pub opening_rooms : ℕ → List ℕ
opening_rooms mutators = replicate mutators 1

module _ {P : Type 0} where
  -- the passes of so many mutators from a number on
  abbrev pub passes_from : (ℕ → ℕ → P) → ℕ → ℕ → ℕ → List P
  passes_from opens setting number zero = []
  passes_from opens setting number (suc more) = opens number setting ∷ passes_from opens setting
      (number + 1) more

  abbrev pub opening_passes : (ℕ → ℕ → P) → Shape → List P
  opening_passes opens h = passes_from opens h.setting 0 h.mutators

  -- the collector's seat, the first one: every mutator is still to be split off
  abbrev pub opening_view : (ℕ → ℕ → P) → Shape → View P
  opening_view opens h = record {
    shape = h;
    role = role.Collector;
    number = 0;
    room = 0;
    own = no_own;
    presence = opening_presence;
    known = [];
    pass = opens 0 h.setting;
    control = opening_control;
    part = opening_collector h.cells h.mutators;
    places = replicate h.mutators places.Unsplit;
    over = replicate h.mutators false;
    alone = None;
    trail = [];
  }
