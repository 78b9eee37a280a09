-- The opening is in range.
use Rattle.std.proofs.Common.{◌≡◌, ℕ, zero, suc, ◌+◌, ◌-◌, ◌<◌, ◌≤◌, true, List, [], ◌∷◌, ◌++◌}
use Rattle.std.proofs.Common.{length, replicate, get_or, refl, sym, ◌∙◌, ap, subst, arith}
use Rattle.std.proofs.Common.{length-append, Result, Ok, Err, IfOk}
use Rattle.std.specs.List.{list_all}
use Rattle.std.proofs.lemmas.Bool.{and_parts, ltb-true}
use Rattle.std.proofs.lemmas.List.{length-replicate, get_or-replicate}
use Rattle.std.proofs.lemmas.List.Sums.{count_by-le-length}
use Rattle.cell_words.specs.declared.colours.Colour.TheVariants as colour
use Rattle.cell_words.specs.declared.fields.Field.{Field}
use Rattle.cell_words.specs.declared.fields.Field.TheVariants as field
use Rattle.core_machine.specs.InRange.{IsShaped, InRange, NamesBelow, RowsFit, names_below}
use Rattle.core_machine.specs.InRange.{rows_name_below}
use Rattle.core_machine.specs.Own.{Own, no_own, pending_or_none}
use Rattle.core_machine.specs.Places.{cell_at}
use Rattle.core_machine.specs.State.{State, greatest_cells, row_in, field_in, null_row, opening}
use Rattle.core_machine.specs.Words.{is_blue}

-- a list of defaults has the default everywhere
pub default_in : {X : Type 0} (m i : ℕ) (d : X) → get_or (replicate m d) i d ≡ d
default_in zero i d = refl
default_in (suc m) zero d = refl
default_in (suc m) (suc i) d = default_in m i d

-- the rows of a heap: the first ones, and then null rows
abbrev rows_of : ℕ → List (List Field) → List (List Field)
rows_of m first = first ++ replicate m null_row

rows_six : (m : ℕ) (first : List (List Field))
    → ((i : ℕ) → i < length first → length (row_in first i) ≡ 6)
    → (c : ℕ) → c < length first + m → length (row_in (rows_of m first) c) ≡ 6
rows_six m [] six c within =
    ap (λ (row : List Field). length row) (get_or-replicate m c null_row [] (omega arith))
rows_six m (row ∷ rows) six zero within = six 0 (omega arith)
rows_six m (row ∷ rows) six (suc c) within =
    rows_six m rows (λ i lower. six (suc i) (omega arith)) c (omega arith)

null_rows_fit : (cells m c f : ℕ) → NamesBelow cells (field_in (replicate m null_row) c f)
null_rows_fit cells zero c f = tt
null_rows_fit cells (suc m) zero f = subst (NamesBelow cells) (sym (default_in 6 f field.Null)) tt
null_rows_fit cells (suc m) (suc c) f = null_rows_fit cells m c f

rows_fit : (cells m : ℕ) (first : List (List Field)) → RowsFit cells first
    → RowsFit cells (rows_of m first)
rows_fit cells m [] fits c f = null_rows_fit cells m c f
rows_fit cells m (row ∷ rows) fits zero f = fits 0 f
rows_fit cells m (row ∷ rows) fits (suc c) f = rows_fit cells m rows (λ d g. fits (suc d) g) c f

-- what the test of the given rows says
row_below : (cells : ℕ) (row : List Field) → list_all (names_below cells) row ≡ true
    → (f : ℕ) → NamesBelow cells (get_or row f field.Null)
row_below cells [] is f = tt
row_below cells (value ∷ row) is zero = value_below cells value (and_parts _ _ is).0
  where
    value_below : (cells : ℕ) (value : Field) → names_below cells value ≡ true
        → NamesBelow cells value
    value_below cells field.Null is = tt
    value_below cells (field.Num n) is = tt
    value_below cells (field.Cell c) is = ltb-true c cells is
row_below cells (value ∷ row) is (suc f) = row_below cells row (and_parts _ _ is).1 f

pub rows_below : (cells : ℕ) (rows : List (List Field)) → rows_name_below cells rows ≡ true
    → RowsFit cells rows
rows_below cells [] is c f = tt
rows_below cells (row ∷ rows) is zero f = row_below cells row (and_parts _ _ is).0 f
rows_below cells (row ∷ rows) is (suc c) f = rows_below cells rows (and_parts _ _ is).1 c f

pub opening_shaped : (cells : ℕ) (rooms : List ℕ) (first : List (List Field)) → 0 < cells
    → length first ≤ cells → ((i : ℕ) → i < length first → length (row_in first i) ≡ 6)
    → RowsFit cells first
    → IsShaped (opening cells rooms first)
opening_shaped cells rooms first some short six fits =
    let white = replicate (length first) colour.White in
    let blue = replicate (cells - length first) colour.Blue in
    let all : length first + (cells - length first) ≡ cells = omega arith in
    let colours : length (white ++ blue) ≡ cells =
    length-append white blue
    ∙ ap (λ (n : ℕ). n + length blue) (length-replicate (length first) colour.White)
    ∙ ap (λ (n : ℕ). length first + n) (length-replicate (cells - length first) colour.Blue)
    ∙ all in
    let rows : length (rows_of (cells - length first) first) ≡ cells =
    length-append first (replicate (cells - length first) null_row)
    ∙ ap (λ (n : ℕ). length first + n) (length-replicate (cells - length first) null_row) ∙ all in
    record {
      cells_fit = record {
        some_cells = some;
        colours_fit = colours;
        rows_fit = rows;
        freed_fit = length-replicate cells 0;
        six_fields = λ c within. rows_six (cells - length first) first six c (omega arith);
      };
      mutators_fit = record {
        rooms_fit = refl;
        presences_fit = length-replicate (length rooms) _;
        owns_fit = length-replicate (length rooms) no_own;
        answered_fit = length-replicate (length rooms) _;
      };
      names_fit = record {
        fields_fit = rows_fit cells (cells - length first) first fits;
        held_fit = λ i place. subst (λ (own : Own). cell_at own.held place < cells)
            (sym (default_in (length rooms) i no_own)) some;
        pendings_fit = λ i. subst (λ (own : Own). (pending_or_none own.pending).f ≤ 4)
            (sym (default_in (length rooms) i no_own)) (omega arith);
        scan_fits = tt;
      };
      control_fits = record { stage_fits = (refl, refl); cycles_fit = omega arith };
      counts_fit = record {
        each_fits = λ c. omega (arith, default_in {X = ℕ} cells c 0);
        freed_fits = omega arith;
        claims_fit = λ i. omega (
          arith,
          ap (λ (own : Own). own.claims) (default_in (length rooms) i no_own),
          count_by-le-length is_blue (white ++ blue),
          colours,
        );
      };
    }

pub opening_in_range : (cells : ℕ) (rooms : List ℕ) (first : List (List Field)) → 0 < cells
    → cells ≤ greatest_cells
    → length first ≤ cells → ((i : ℕ) → i < length first → length (row_in first i) ≡ 6)
    → RowsFit cells first
    → InRange (opening cells rooms first)
opening_in_range cells rooms first some few short six fits =
    record { shape = opening_shaped cells rooms first some short six fits; few_cells = few }

-- what a call opens, if it opens it
pub opened_in_range : {E : Type 0} (result : Result State E) (s : State) → IfOk result (λ t. t ≡ s)
    → InRange s
    → IfOk result InRange
opened_in_range (Ok t) s is r = subst InRange (sym is) r
opened_in_range (Err e) s is r = tt
