-- The words that are laid at the opening are those of the opening state.
use Rattle.std.proofs.Common.{◌≡◌, ◌≤◌, ◌<◌, ◌+◌, ◌*◌, ◌-◌, ◌++◌, ℕ, zero, suc, List, [], ◌∷◌, length}
use Rattle.std.proofs.Common.{ap, arith, get_or, refl, sym, ◌∙◌, map, replicate, take}
use Rattle.std.proofs.lemmas.List.{append-nil, append_assoc, length-replicate, take_more}
use Rattle.std.proofs.Common.{true, Bool, ◌^◌, subst}
use Rattle.std.proofs.lemmas.Bool.{and_parts, ltb-true}
use Rattle.std.specs.Prelude.{All}
use Rattle.atomic_table.specs.Table as table
use Rattle.cell_words.specs.Field.{IsValidField}
use Rattle.cell_words.specs.Presence.{pack_presence_of}
use Rattle.cell_words.specs.declared.colours.Colour.TheVariants as colour
use Rattle.cell_words.specs.declared.fields.Field.{Field}
use Rattle.cell_words.specs.declared.fields.Field.TheVariants as field
use Rattle.core_machine.specs.State.{greatest_cells, null_row, opening_presence}
use Rattle.core_machine.specs.Table.{cell_words, words_of}
use Rattle.core_machine.proofs.Table.{table_long}
use Rattle.dlg_core.specs.FirstRows.{are_first_rows, is_first_row, is_first_value}
use Rattle.dlg_core.proofs.Starts.{one_of_list}
use Rattle.dlg_core.proofs.Throughout.{rows_shaped}
use Rattle.heap_rule.specs.Boxes.{Map}
use Rattle.heap_rule.specs.Opening.{opening_rooms, opening_view}
use Rattle.heap_rule.specs.Rule.{Kept}
use Rattle.heap_rule.specs.Shape.{IsSound, Shape}
use Rattle.heap_rule.proofs.Moving.{opens_kept}
use Rattle.heap_table.specs.Opening.{Opens, opening_state, opening_words, row_words, rows_words}
use Rattle.heap_table.specs.Seats.{words_many}

pub rows_snoc : (rows : List (List Field)) (row : List Field)
    → rows_words (rows ++ row ∷ []) ≡ rows_words rows ++ row_words row
rows_snoc [] row = append-nil (row_words row)
rows_snoc (r ∷ rows) row =
    ap (λ (ws : List ℕ). row_words r ++ ws) (rows_snoc rows row)
    ∙ sym (append_assoc (row_words r) (rows_words rows) (row_words row))

null_cells : (n : ℕ) → cell_words (replicate n colour.Blue) (replicate n null_row)
    ≡ replicate (7 * n) 0
null_cells zero = refl
null_cells (suc n) =
    let more : 7 * suc n ≡ suc (suc (suc (suc (suc (suc (suc (7 * n))))))) = omega arith in
    ap (λ (ws : List ℕ). 0 ∷ 0 ∷ 0 ∷ 0 ∷ 0 ∷ 0 ∷ 0 ∷ ws) (null_cells n)
    ∙ sym (ap (λ (k : ℕ). replicate k 0) more)

cells_laid : (first : List (List Field)) (n : ℕ)
    → cell_words (replicate (length first) colour.White ++ replicate n colour.Blue)
    (first ++ replicate n null_row)
    ≡ rows_words first ++ replicate (7 * n) 0
cells_laid [] n = null_cells n
cells_laid (row ∷ rows) n =
    ap (λ (ws : List ℕ). row_words row ++ ws) (cells_laid rows n)
    ∙ sym (append_assoc (row_words row) (rows_words rows) (replicate (7 * n) 0))

presences_laid : (n : ℕ) → map pack_presence_of (replicate n opening_presence)
    ≡ replicate n (pack_presence_of opening_presence)
presences_laid zero = refl
presences_laid (suc n) = ap (λ (ws : List ℕ). pack_presence_of opening_presence ∷ ws)
    (presences_laid n)

pub opening_laid : (h : Shape) → words_of (opening_state h) ≡ opening_words h
opening_laid h =
    let ones : List ℕ = replicate h.mutators 1 in
    let many : length ones ≡ h.mutators = length-replicate h.mutators 1 in
    ap (λ (ws : List ℕ). 0 ∷ ws)
    (ap (λ (ws : List ℕ). map pack_presence_of
    (replicate (length ones) opening_presence) ++ ws)
    (cells_laid h.first (h.cells - length h.first))
    ∙ ap (λ (n : ℕ). map pack_presence_of (replicate n opening_presence)
    ++ (rows_words h.first ++ replicate (7 * (h.cells - length h.first)) 0)) many
    ∙ ap (λ (ws : List ℕ). ws ++ (rows_words h.first
    ++ replicate (7 * (h.cells - length h.first)) 0)) (presences_laid h.mutators))

-- one row more of those that are laid
pub rows_more : (rows : List (List Field)) (i : ℕ) (d : List Field) (old now next : List ℕ)
    → i < length rows
    → now ≡ old ++ rows_words (take i rows) → next ≡ now ++ row_words (get_or rows i d)
    → next ≡ old ++ rows_words (take (i + 1) rows)
rows_more rows i d old now next lt is more =
    more ∙ ap (λ (ws : List ℕ). ws ++ row_words (get_or rows i d)) is
    ∙ append_assoc old (rows_words (take i rows)) (row_words (get_or rows i d))
    ∙ ap (λ (ws : List ℕ). old ++ ws) (sym (rows_snoc (take i rows) (get_or rows i d)))
    ∙ ap (λ (rs : List (List Field)). old ++ rows_words rs) (sym (take_more rows i d lt))

-- the first rows have words
value_valid : (count : ℕ) (x : Field) → count ≤ greatest_cells → is_first_value count x ≡ true
    → IsValidField x
value_valid count field.Null few is = tt
value_valid count (field.Num n) few is = ltb-true n (2 ^ 62) is
value_valid count (field.Cell c) few is = let lt = ltb-true c count is in omega (arith, lt, few)

pub rows_valid : (first : List (List Field)) → length first ≤ greatest_cells
    → are_first_rows first ≡ true → All (All IsValidField) first
rows_valid first few is k d lt j e there =
    let row = one_of_list (is_first_row (length first)) first k d (and_parts _ _ is).1 lt in
    value_valid (length first) (get_or (get_or first k d) j e) few
    (one_of_list (is_first_value (length first)) (get_or first k d) j e (and_parts _ _ row).0 there)

-- how many words there are
pub opening_long : (h : Shape) → IsSound h → length (opening_words h) ≡ words_many h
opening_long h sound =
    let ones : List ℕ = opening_rooms h.mutators in
    let many : length ones ≡ h.mutators = length-replicate h.mutators 1 in
    sym (ap (λ (ws : List ℕ). length ws) (opening_laid h))
    ∙ table_long (opening_state h)
    (rows_shaped h.cells ones h.first sound.rows sound.first sound.fit)
    ∙ ap (λ (n : ℕ). 1 + n + 7 * h.cells) many

-- the rule of the table at the opening
pub opens_with : {P : Type 0} (opens : ℕ → ℕ → P) (holds : Map → List P → Type 0) (fixed : ℕ
    → Bool) (h : Shape) (words : List ℕ) → IsSound h → Opens opens holds h
    → words ≡ opening_words h
    → {S : Type 0} → Kept opens holds fixed h {S = S}
    (table.opening words [] (opening_view opens h))
opens_with {P = P} opens holds fixed h words sound given is {S = S} =
    subst (λ (ws : List ℕ). Kept opens holds fixed h {S = S}
    (table.opening ws [] (opening_view opens h))) (opening_laid h ∙ sym is)
    (opens_kept opens holds fixed h given.0 sound given.1 given.2)
