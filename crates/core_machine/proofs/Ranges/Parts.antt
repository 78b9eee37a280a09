-- One part of the state changes, and the ranges stay.
use Rattle.std.proofs.Common.{◌≡◌, ℕ, ◌+◌, ◌<◌, ◌≤◌, true, List, length, get_or, set, sym, ◌∙◌}
use Rattle.std.proofs.Common.{subst, arith}
use Rattle.std.specs.List.{count_by}
use Rattle.std.proofs.lemmas.List.{length-set}
use Rattle.cell_words.specs.declared.colours.Colour.{Colour}
use Rattle.cell_words.specs.declared.fields.Field.{Field}
use Rattle.cell_words.specs.declared.fields.Field.TheVariants as field
use Rattle.cell_words.specs.declared.presences.Presence.{Presence}
use Rattle.core_machine.specs.Own.{Own, no_own, pending_or_none}
use Rattle.core_machine.specs.InRange.{IsShaped, CellsFit, NamesBelow}
use Rattle.core_machine.specs.State.{State, colour_of, row_in, own_of, set_field}
use Rattle.core_machine.specs.Words.{is_blue}
use Rattle.core_machine.proofs.Ranges.Lists.{set_cases, Below, count-set}

-- mutator i has another own part, with cells and a field that there are and no more claims
pub own_kept : (s : State) → IsShaped s → (i : ℕ) (own : Own)
    → Below s.cells own.held → (pending_or_none own.pending).f ≤ 4
    → own.claims ≤ (own_of s i).claims
    → IsShaped (record s { owns = set s.owns i own })
own_kept s r i own below payload claims = record {
  cells_fit = r.cells_fit;
  mutators_fit = record {
    rooms_fit = r.mutators_fit.rooms_fit;
    presences_fit = r.mutators_fit.presences_fit;
    owns_fit = length-set s.owns i own ∙ r.mutators_fit.owns_fit;
    answered_fit = r.mutators_fit.answered_fit;
  };
  names_fit = record {
    fields_fit = r.names_fit.fields_fit;
    held_fit = λ j. set_cases (λ o. Below s.cells o.held) s.owns i j own no_own
        (λ is within. below) (r.names_fit.held_fit j);
    pendings_fit = λ j. set_cases (λ o. (pending_or_none o.pending).f ≤ 4) s.owns i j own no_own
        (λ is within. payload) (r.names_fit.pendings_fit j);
    scan_fits = r.names_fit.scan_fits;
  };
  control_fits = r.control_fits;
  counts_fit = record {
    each_fits = r.counts_fit.each_fits;
    freed_fits = r.counts_fit.freed_fits;
    claims_fit = λ j. set_cases
        (λ o. o.claims + count_by is_blue s.colours ≤ s.cells + s.collector.number_freed)
        s.owns i j own no_own (λ is within. omega (arith, r.counts_fit.claims_fit i))
        (r.counts_fit.claims_fit j);
  };
}

pub presence_kept : (s : State) → IsShaped s → (i : ℕ) (presence : Presence)
    → IsShaped (record s { presences = set s.presences i presence })
presence_kept s r i presence = record {
  cells_fit = r.cells_fit;
  mutators_fit = record {
    rooms_fit = r.mutators_fit.rooms_fit;
    presences_fit = length-set s.presences i presence ∙ r.mutators_fit.presences_fit;
    owns_fit = r.mutators_fit.owns_fit;
    answered_fit = r.mutators_fit.answered_fit;
  };
  names_fit = r.names_fit;
  control_fits = r.control_fits;
  counts_fit = r.counts_fit;
}

pub colours_fit_kept : (s : State) → IsShaped s → (c : ℕ) (x : Colour)
    → CellsFit s.cells (set s.colours c x) s.rows s.collector.times_freed
colours_fit_kept s r c x = record {
  some_cells = r.cells_fit.some_cells;
  colours_fit = length-set s.colours c x ∙ r.cells_fit.colours_fit;
  rows_fit = r.cells_fit.rows_fit;
  freed_fit = r.cells_fit.freed_fit;
  six_fields = r.cells_fit.six_fields;
}

-- a cell has another colour, which is not newly blue
pub colour_kept : (s : State) → IsShaped s → (c : ℕ) (x : Colour) → c < s.cells
    → (is_blue x ≡ true → is_blue (colour_of s c) ≡ true)
    → IsShaped (record s { colours = set s.colours c x })
colour_kept s r c x within old =
    let there : c < length s.colours = subst (λ (n : ℕ). c < n)
    (sym r.cells_fit.colours_fit) within in
    let fewer = count-set s.colours c x there old in
    record {
      cells_fit = colours_fit_kept s r c x;
      mutators_fit = r.mutators_fit;
      names_fit = r.names_fit;
      control_fits = r.control_fits;
      counts_fit = record {
        each_fits = r.counts_fit.each_fits;
        freed_fits = r.counts_fit.freed_fits;
        claims_fit = λ i. omega (arith, r.counts_fit.claims_fit i);
      };
    }

-- a field has another value, which names no cell or one that there is
pub field_kept : (s : State) → IsShaped s → (c f : ℕ) (value : Field) → NamesBelow s.cells value
    → IsShaped (record s { rows = set_field s.rows c f value })
field_kept s r c f value names =
    let row = set (row_in s.rows c) f value in
    record {
      cells_fit = record {
        some_cells = r.cells_fit.some_cells;
        colours_fit = r.cells_fit.colours_fit;
        rows_fit = length-set s.rows c row ∙ r.cells_fit.rows_fit;
        freed_fit = r.cells_fit.freed_fit;
        six_fields = λ d within. set_cases
            (λ (fields : List Field). length fields ≡ 6) s.rows c d row _
            (λ is there. length-set (row_in s.rows c) f value
            ∙ r.cells_fit.six_fields c (subst (λ (n : ℕ). c < n) r.cells_fit.rows_fit there))
            (r.cells_fit.six_fields d within);
      };
      mutators_fit = r.mutators_fit;
      names_fit = record {
        fields_fit = λ d g. set_cases
            (λ (fields : List Field). NamesBelow s.cells (get_or fields g field.Null))
            s.rows c d row _
            (λ is there. set_cases (NamesBelow s.cells) (row_in s.rows c) f g value field.Null
            (λ same within. names) (r.names_fit.fields_fit c g))
            (r.names_fit.fields_fit d g);
        held_fit = r.names_fit.held_fit;
        pendings_fit = r.names_fit.pendings_fit;
        scan_fits = r.names_fit.scan_fits;
      };
      control_fits = r.control_fits;
      counts_fit = r.counts_fit;
    }
