-- What stands where in the table of a heap, and that a change of one part of the state is a change
-- of one word.
use Rattle.std.proofs.Common.{◌≡◌, ℕ, zero, suc, ◌+◌, ◌*◌, ◌<◌, List, [], ◌∷◌, ◌++◌, length, map}
use Rattle.std.proofs.Common.{get_or, set, refl, sym, ◌∙◌, ap, subst, arith, append_assoc}
use Rattle.std.proofs.Common.{length-append}
use Rattle.std.proofs.lemmas.List.{get_or_append_left, get_or-append-add, get_or-map, length-map}
use Rattle.std.proofs.lemmas.List.{map-set, set-append_left, set-append_right, set-get_or}
use Rattle.cell_words.specs.Colour.{pack_colour_of}
use Rattle.cell_words.specs.Control.{pack_control_of}
use Rattle.cell_words.specs.Field.{pack_field_of}
use Rattle.cell_words.specs.Presence.{pack_presence_of}
use Rattle.cell_words.specs.declared.colours.Colour.{Colour}
use Rattle.cell_words.specs.declared.fields.Field.{Field}
use Rattle.cell_words.specs.declared.fields.Field.TheVariants as field
use Rattle.cell_words.specs.declared.presences.Presence.{Presence}
use Rattle.core_machine.specs.InRange.{IsShaped}
use Rattle.core_machine.specs.State.{State, colour_in, row_in, field_in, no_presence, set_field}
use Rattle.core_machine.specs.Table.{Word, TheControl, StatusOf, ColourOf, FieldOf, HasWord}
use Rattle.core_machine.specs.Table.{number_in, index_of, cell_words, words_of}

-- Lists of numbers.

get_next : (x : ℕ) (xs : List ℕ) (i n : ℕ) → i ≡ suc n → get_or (x ∷ xs) i 0 ≡ get_or xs n 0
get_next x xs i n at = ap (λ (j : ℕ). get_or (x ∷ xs) j 0) at

get_behind : (xs ys : List ℕ) (i n : ℕ) → i ≡ length xs + n → get_or (xs ++ ys) i 0 ≡ get_or ys n 0
get_behind xs ys i n at = ap (λ (j : ℕ). get_or (xs ++ ys) j 0) at ∙ get_or-append-add xs ys n 0

set_next : (x : ℕ) (xs : List ℕ) (i n y : ℕ) → i ≡ suc n → set (x ∷ xs) i y ≡ x ∷ set xs n y
set_next x xs i n y at = ap (λ (j : ℕ). set (x ∷ xs) j y) at

set_behind : (xs ys : List ℕ) (i n y : ℕ) → i ≡ length xs + n → set (xs ++ ys) i y
    ≡ xs ++ set ys n y
set_behind xs ys i n y at =
    set-append_right xs ys (length xs) i y refl (omega (arith, at))
    ∙ ap (λ (j : ℕ). xs ++ set ys j y) (omega (arith, at))

-- The words of the cells.

-- each row has six fields
abbrev pub AreSix : List (List Field) → Type 0
AreSix rows = (c : ℕ) → c < length rows → length (row_in rows c) ≡ 6

-- The words of cell c stand between those of the cells before it and after it, whatever they are.
pub record IsCut (ks : List Colour) (rs : List (List Field)) (c : ℕ) : Type 0 where
  pub front : List ℕ
  pub back : List ℕ
  pub long : length front ≡ 7 * c
  pub whole : (x : Colour) (row : List Field)
      → cell_words (set ks c x) (set rs c row)
      ≡ front ++ (pack_colour_of x ∷ (map pack_field_of row ++ back))

pub cut_at : (ks : List Colour) (rs : List (List Field)) (c : ℕ) → length ks ≡ length rs → AreSix rs
    → c < length rs
    → IsCut ks rs c
cut_at [] [] c same six lt = absurd (omega arith)
cut_at [] (r ∷ rs) c same six lt = absurd (omega arith)
cut_at (k ∷ ks) [] c same six lt = absurd (omega arith)
cut_at (k ∷ ks) (r ∷ rs) zero same six lt =
    record { front = []; back = cell_words ks rs; long = refl; whole = λ x row. refl }
cut_at (k ∷ ks) (r ∷ rs) (suc c) same six lt =
    let later = cut_at ks rs c (omega (arith, same)) (λ d below. six (suc d) (omega (arith, below)))
    (omega (arith, lt)) in
    let front : List ℕ = pack_colour_of k ∷ (map pack_field_of r ++ later.front) in
    record {
      front = front;
      back = later.back;
      long = omega (
        arith,
        length-append (map pack_field_of r) later.front,
        length-map r pack_field_of,
        six zero (omega arith),
        later.long,
      );
      whole = λ x row. ap (λ (rest : List ℕ). pack_colour_of k ∷ (map pack_field_of r ++ rest))
          (later.whole x row)
          ∙ ap (λ (rest : List ℕ). pack_colour_of k ∷ rest)
          (sym (append_assoc (map pack_field_of r) later.front
          (pack_colour_of x ∷ (map pack_field_of row ++ later.back))));
    }

-- as they are
now_at : (ks : List Colour) (rs : List (List Field)) (c : ℕ) (cut : IsCut ks rs c)
    → cell_words ks rs ≡ cut.front ++
    (pack_colour_of (colour_in ks c) ∷ (map pack_field_of (row_in rs c) ++ cut.back))
now_at ks rs c cut =
    sym (ap (λ (xs : List Colour). cell_words xs rs) (set-get_or ks c _))
    ∙ sym (ap (λ (ys : List (List Field)). cell_words (set ks c (colour_in ks c)) ys)
    (set-get_or rs c _))
    ∙ cut.whole (colour_in ks c) (row_in rs c)

-- with another colour
other_colour : (ks : List Colour) (rs : List (List Field)) (c : ℕ) (x : Colour)
    (cut : IsCut ks rs c)
    → cell_words (set ks c x) rs
    ≡ cut.front ++ (pack_colour_of x ∷ (map pack_field_of (row_in rs c) ++ cut.back))
other_colour ks rs c x cut =
    sym (ap (λ (ys : List (List Field)). cell_words (set ks c x) ys) (set-get_or rs c _))
    ∙ cut.whole x (row_in rs c)

-- with another row
other_row : (ks : List Colour) (rs : List (List Field)) (c : ℕ) (row : List Field)
    (cut : IsCut ks rs c)
    → cell_words ks (set rs c row)
    ≡ cut.front ++ (pack_colour_of (colour_in ks c) ∷ (map pack_field_of row ++ cut.back))
other_row ks rs c row cut =
    sym (ap (λ (xs : List Colour). cell_words xs (set rs c row)) (set-get_or ks c _))
    ∙ cut.whole (colour_in ks c) row

colour_at : (ks : List Colour) (rs : List (List Field)) (c : ℕ) → IsCut ks rs c
    → get_or (cell_words ks rs) (7 * c) 0 ≡ pack_colour_of (colour_in ks c)
colour_at ks rs c cut =
    ap (λ (xs : List ℕ). get_or xs (7 * c) 0) (now_at ks rs c cut)
    ∙ get_behind cut.front _ (7 * c) 0 (omega (arith, cut.long))

set_colour_at : (ks : List Colour) (rs : List (List Field)) (c : ℕ) (x : Colour) → IsCut ks rs c
    → cell_words (set ks c x) rs ≡ set (cell_words ks rs) (7 * c) (pack_colour_of x)
set_colour_at ks rs c x cut =
    other_colour ks rs c x cut
    ∙ sym (ap (λ (xs : List ℕ). set xs (7 * c) (pack_colour_of x)) (now_at ks rs c cut)
    ∙ set_behind cut.front _ (7 * c) 0 (pack_colour_of x) (omega (arith, cut.long)))

field_at : (ks : List Colour) (rs : List (List Field)) (c f : ℕ) → f < length (row_in rs c)
    → IsCut ks rs c
    → get_or (cell_words ks rs) (7 * c + 1 + f) 0 ≡ pack_field_of (field_in rs c f)
field_at ks rs c f lt cut =
    let there : f < length (map pack_field_of (row_in rs c)) = omega
    (arith, lt, length-map (row_in rs c) pack_field_of) in
    ap (λ (xs : List ℕ). get_or xs (7 * c + 1 + f) 0) (now_at ks rs c cut)
    ∙ get_behind cut.front _ (7 * c + 1 + f) (suc f) (omega (arith, cut.long))
    ∙ get_or_append_left (map pack_field_of (row_in rs c)) cut.back 0 f there
    ∙ get_or-map pack_field_of (row_in rs c) f field.Null 0 lt

set_field_at : (ks : List Colour) (rs : List (List Field)) (c f : ℕ) (x : Field)
    → f < length (row_in rs c) → IsCut ks rs c
    → cell_words ks (set_field rs c f x) ≡ set (cell_words ks rs) (7 * c + 1 + f) (pack_field_of x)
set_field_at ks rs c f x lt cut =
    let there : f < length (map pack_field_of (row_in rs c)) = omega
    (arith, lt, length-map (row_in rs c) pack_field_of) in
    let k = pack_colour_of (colour_in ks c) in
    other_row ks rs c (set (row_in rs c) f x) cut
    ∙ ap (λ (xs : List ℕ). cut.front ++ (k ∷ (xs ++ cut.back)))
    (map-set pack_field_of (row_in rs c) f x)
    ∙ sym (ap (λ (xs : List ℕ). set xs (7 * c + 1 + f) (pack_field_of x)) (now_at ks rs c cut)
    ∙ set_behind cut.front _ (7 * c + 1 + f) (suc f) (pack_field_of x) (omega (arith, cut.long))
    ∙ ap (λ (xs : List ℕ). cut.front ++ (k ∷ xs))
    (set-append_left (map pack_field_of (row_in rs c)) cut.back f (pack_field_of x) there))

cells_long : (ks : List Colour) (rs : List (List Field)) → length ks ≡ length rs → AreSix rs
    → length (cell_words ks rs) ≡ 7 * length ks
cells_long [] rs same six = refl
cells_long (k ∷ ks) [] same six = absurd (omega arith)
cells_long (k ∷ ks) (r ∷ rs) same six =
    omega (
      arith,
      length-append (map pack_field_of r) (cell_words ks rs),
      length-map r pack_field_of,
      six zero (omega arith),
      cells_long ks rs (omega (arith, same)) (λ d below. six (suc d) (omega (arith, below))),
    )

-- The table.

same_lengths : (s : State) → IsShaped s → length s.colours ≡ length s.rows
same_lengths s r = r.cells_fit.colours_fit ∙ sym r.cells_fit.rows_fit

all_six : (s : State) → IsShaped s → AreSix s.rows
all_six s r c lt = r.cells_fit.six_fields c (subst (λ (n : ℕ). c < n) r.cells_fit.rows_fit lt)

cut_of : (s : State) → IsShaped s → (c : ℕ) → c < s.cells → IsCut s.colours s.rows c
cut_of s r c lt =
    cut_at s.colours s.rows c (same_lengths s r) (all_six s r)
    (subst (λ (n : ℕ). c < n) (sym r.cells_fit.rows_fit) lt)

row_long : (s : State) → IsShaped s → (c f : ℕ) → c < s.cells → f < 6 → f < length (row_in s.rows c)
row_long s r c f lt below = subst (λ (n : ℕ). f < n) (sym (r.cells_fit.six_fields c lt)) below

statuses : State → List ℕ
statuses s = map pack_presence_of s.presences

statuses_long : (s : State) → IsShaped s → length (map pack_presence_of s.presences) ≡ s.mutators
statuses_long s r = length-map s.presences pack_presence_of ∙ r.mutators_fit.presences_fit

-- how many words there are
pub table_long : (s : State) → IsShaped s → length (words_of s) ≡ 1 + s.mutators + 7 * s.cells
table_long s r =
    omega (
      arith,
      length-append (map pack_presence_of s.presences) (cell_words s.colours s.rows),
      statuses_long s r,
      cells_long s.colours s.rows (same_lengths s r) (all_six s r),
      r.cells_fit.colours_fit,
    )

-- a word that the state has lies in the table
pub word_below : (s : State) → IsShaped s → (w : Word) → HasWord s w
    → index_of s.mutators w < length (words_of s)
word_below s r TheControl h = omega (arith, table_long s r)
word_below s r (StatusOf i) h = omega (arith, h, table_long s r)
word_below s r (ColourOf c) h = omega (arith, h, table_long s r)
word_below s r (FieldOf c f) h = omega (arith, h.0, h.1, table_long s r)

-- after the control and the statuses
get_cells : (s : State) → IsShaped s → (i n : ℕ) → i ≡ 1 + s.mutators + n
    → get_or (words_of s) i 0 ≡ get_or (cell_words s.colours s.rows) n 0
get_cells s r i n at =
    get_next _ _ i (s.mutators + n) (omega (arith, at))
    ∙ get_behind (map pack_presence_of s.presences) (cell_words s.colours s.rows) (s.mutators + n) n
    (omega (arith, statuses_long s r))

set_cells : (s : State) → IsShaped s → (i n y : ℕ) → i ≡ 1 + s.mutators + n
    → set (words_of s) i y
    ≡ pack_control_of s.control ∷
    (map pack_presence_of s.presences ++ set (cell_words s.colours s.rows) n y)
set_cells s r i n y at =
    set_next _ _ i (s.mutators + n) y (omega (arith, at))
    ∙ ap (λ (xs : List ℕ). pack_control_of s.control ∷ xs)
    (set_behind (map pack_presence_of s.presences) (cell_words s.colours s.rows)
    (s.mutators + n) n y
    (omega (arith, statuses_long s r)))

status_below : (s : State) → IsShaped s → (i : ℕ) → i < s.mutators → i < length s.presences
status_below s r i lt = subst (λ (n : ℕ). i < n) (sym r.mutators_fit.presences_fit) lt

-- the table has at the place of each word the number that stands in it
pub word_read : (s : State) → IsShaped s → (w : Word) → HasWord s w
    → get_or (words_of s) (index_of s.mutators w) 0 ≡ number_in s w
word_read s r TheControl h = refl
word_read s r (StatusOf i) h =
    let there : i < length (map pack_presence_of s.presences) = omega
    (arith, h, statuses_long s r) in
    get_next _ _ (1 + i) i (omega arith)
    ∙ get_or_append_left (map pack_presence_of s.presences) (cell_words s.colours s.rows) 0 i there
    ∙ get_or-map pack_presence_of s.presences i no_presence 0 (status_below s r i h)
word_read s r (ColourOf c) h =
    get_cells s r (1 + s.mutators + 7 * c) (7 * c) refl
    ∙ colour_at s.colours s.rows c (cut_of s r c h)
word_read s r (FieldOf c f) h =
    get_cells s r (1 + s.mutators + 7 * c + 1 + f) (7 * c + 1 + f) (omega arith)
    ∙ field_at s.colours s.rows c f (row_long s r c f h.0 h.1) (cut_of s r c h.0)

-- Where one part of the state is another, so is its word, and nothing else in the table.

pub status_set : (s : State) → IsShaped s → (i : ℕ) (p : Presence) → i < s.mutators
    → words_of (record s { presences = set s.presences i p })
    ≡ set (words_of s) (index_of s.mutators (StatusOf i)) (pack_presence_of p)
status_set s r i p h =
    let there : i < length (map pack_presence_of s.presences) = omega
    (arith, h, statuses_long s r) in
    ap (λ (xs : List ℕ). pack_control_of s.control ∷ (xs ++ cell_words s.colours s.rows))
    (map-set pack_presence_of s.presences i p)
    ∙ sym (set_next _ _ (1 + i) i (pack_presence_of p) (omega arith)
    ∙ ap (λ (xs : List ℕ). pack_control_of s.control ∷ xs)
    (set-append_left (map pack_presence_of s.presences) (cell_words s.colours s.rows) i
    (pack_presence_of p) there))

pub colour_set : (s : State) → IsShaped s → (c : ℕ) (x : Colour) → c < s.cells
    → words_of (record s { colours = set s.colours c x })
    ≡ set (words_of s) (index_of s.mutators (ColourOf c)) (pack_colour_of x)
colour_set s r c x h =
    ap (λ (xs : List ℕ). pack_control_of s.control ∷ (map pack_presence_of s.presences ++ xs))
    (set_colour_at s.colours s.rows c x (cut_of s r c h))
    ∙ sym (set_cells s r (1 + s.mutators + 7 * c) (7 * c) (pack_colour_of x) refl)

pub field_set : (s : State) → IsShaped s → (c f : ℕ) (x : Field) → c < s.cells → f < 6
    → words_of (record s { rows = set_field s.rows c f x })
    ≡ set (words_of s) (index_of s.mutators (FieldOf c f)) (pack_field_of x)
field_set s r c f x h below =
    ap (λ (xs : List ℕ). pack_control_of s.control ∷ (map pack_presence_of s.presences ++ xs))
    (set_field_at s.colours s.rows c f x (row_long s r c f h below) (cut_of s r c h))
    ∙ sym (set_cells s r (1 + s.mutators + 7 * c + 1 + f) (7 * c + 1 + f) (pack_field_of x)
    (omega arith))
