-- What the loop over the lines of a heap file keeps: the lines so far, with those that are left,
-- are all lines.
use Rattle.std.proofs.Common.{◌≡◌, ℕ, ◌+◌, ◌≤◌, ◌^◌, Bool, true, false, not, cond, List}
use Rattle.std.proofs.Common.{[], ◌∷◌, ◌++◌, length, Option, Some, None, Result, Ok, Err, Bor}
use Rattle.std.proofs.Common.{refl, sym, ap, subst, ◌∙◌, leb}
use Rattle.std.specs.Prelude.{IfOk, bytes_eq, codes, drop, is_some, take, ◌&&◌}
use Rattle.std.proofs.lemmas.Bool.{and_parts, leb-true}
use Rattle.std.proofs.lemmas.Option.{cond_some, same_Some}
use Rattle.cell_words.specs.declared.colours.Colour.{Colour}
use Rattle.cell_words.specs.declared.controls.TheConstants.{GREATEST_POSITION}
use Rattle.cell_words.specs.declared.fields.Field.{Field}
use Rattle.line_texts.specs.Cut.{next_rest_of, next_word_of, rest_of, word_of}
use Rattle.line_texts.specs.Lines.{has_feed, is_end, is_missing, lines_left, lines_of}
use Rattle.line_texts.specs.Numbers.{decimal_of}
use Rattle.image_files.specs.Answers.{Lists, ListsFile}
use Rattle.image_files.specs.Contents.{Contents, contents_in, contents_of, ended, fault_at}
use Rattle.image_files.specs.Contents.{in_order}
use Rattle.image_files.specs.Contents.{least_after, lines_from, turn_of, with_head}
use Rattle.image_files.specs.Contents.{with_lines, with_turn}
use Rattle.image_files.specs.File.{FileView, LineFits}
use Rattle.image_files.specs.Line.{below, cell_in, cell_with, colour_in, fields_in, head_of}
use Rattle.image_files.specs.Line.{held_or, line_of, sized}
use Rattle.image_files.specs.declared.fault.ImageError.{ImageError}
use Rattle.image_files.specs.declared.fault.ImageError.TheVariants as error
use Rattle.image_files.specs.declared.fault.ImageFault.{ImageFault}
use Rattle.image_files.specs.declared.fault.ImageKind.{ImageKind}
use Rattle.image_files.specs.declared.fault.ImageKind.TheVariants.{BadEnd, BadLine, NoOrder}
use Rattle.image_files.specs.declared.line.CellLine.{CellLine}
use Rattle.image_files.specs.declared.line.Held.{Held}
use Rattle.image_files.specs.declared.line.Held.TheVariants as held
use Rattle.line_texts.proofs.Rests.{IsCut, cut_lines, fed_lines, has_lines}
use Rattle.image_files.proofs.Words.{cell_below, fields_below}

-- a cut line behind some lines, and what it comes to
pub record IsTurn (size : ℕ) (before : List CellLine) (bytes line : List ℕ)
    (rest : Option (Bor (List ℕ))) (has : Bool) (turn : Result Held ImageKind) : Type 0 where
  pub cut : IsCut bytes line rest
  pub feed : has ≡ is_some rest
  pub is : turn ≡ turn_of size before has line

next_line : (size : ℕ) (before : List CellLine) (bytes line : List ℕ)
    (rest : Option (Bor (List ℕ))) (has : Bool) (turn : Result Held ImageKind)
    → IsTurn size before bytes line rest has turn
    → lines_from size before (lines_of bytes)
    ≡ with_turn before turn (lines_left rest) (λ more. lines_from size more (lines_left rest))
next_line size before bytes line rest has turn t =
    ap (lines_from size before) (cut_lines bytes line rest t.cut)
    ∙ ap (λ b. with_turn before (turn_of size before b line) (lines_left rest)
    (λ more. lines_from size more (lines_left rest))) (has_lines rest ∙ sym t.feed)
    ∙ ap (λ u. with_turn before u (lines_left rest)
    (λ more. lines_from size more (lines_left rest))) (sym t.is)

pub goes_on : (size : ℕ) (before more : List CellLine) (bytes line : List ℕ)
    (rest : Option (Bor (List ℕ))) (has : Bool) (turn : Result Held ImageKind) (l : CellLine)
    (whole : Result (List CellLine) ImageFault)
    → IsTurn size before bytes line rest has turn → turn ≡ Ok (held.Cell l)
    → more ≡ before ++ l ∷ [] → lines_from size before (lines_of bytes) ≡ whole
    → lines_from size more (lines_left rest) ≡ whole
goes_on size before more bytes line rest has turn l whole t cell is so_far =
    ap (λ ls. lines_from size ls (lines_left rest)) is
    ∙ sym (ap (λ u. with_turn before u (lines_left rest)
    (λ ls. lines_from size ls (lines_left rest))) cell)
    ∙ sym (next_line size before bytes line rest has turn t) ∙ so_far

pub ends : (size : ℕ) (before : List CellLine) (bytes line : List ℕ)
    (rest : Option (Bor (List ℕ))) (has : Bool) (turn : Result Held ImageKind)
    (whole : Result (List CellLine) ImageFault) (answer : Result FileView ImageError)
    → IsTurn size before bytes line rest has turn → turn ≡ Ok held.End
    → lines_from size before (lines_of bytes) ≡ whole
    → Lists answer (ended before (lines_left rest)) → Lists answer whole
ends size before bytes line rest has turn whole answer t end so_far lists =
    subst (Lists answer)
    (sym (ap (λ u. with_turn before u (lines_left rest)
    (λ ls. lines_from size ls (lines_left rest))) end)
    ∙ sym (next_line size before bytes line rest has turn t) ∙ so_far) lists

pub stops : (size : ℕ) (before : List CellLine) (bytes line : List ℕ)
    (rest : Option (Bor (List ℕ))) (has : Bool) (turn : Result Held ImageKind) (kind : ImageKind)
    (number : ℕ) (whole : Result (List CellLine) ImageFault)
    → IsTurn size before bytes line rest has turn → turn ≡ Err kind
    → number ≡ length before + 2 → lines_from size before (lines_of bytes) ≡ whole
    → whole ≡ Err (record { line = number; kind = kind })
stops size before bytes line rest has turn kind number whole t faulty same so_far =
    sym so_far ∙ next_line size before bytes line rest has turn t
    ∙ ap (λ u. with_turn before u (lines_left rest)
    (λ ls. lines_from size ls (lines_left rest))) faulty
    ∙ ap (λ n. fault_at n kind) (sym same)

pub missing : (size number : ℕ) (before : List CellLine)
    (whole : Result (List CellLine) ImageFault) → number ≡ length before + 2
    → lines_from size before [] ≡ whole → whole ≡ Err (record { line = number; kind = BadEnd })
missing size number before whole same so_far =
    sym so_far ∙ ap (λ n. fault_at n BadEnd) (sym same)

-- a line after the end
pub follows_end : (number : ℕ) (before : List CellLine) (lines : List (List ℕ))
    → is_end lines ≡ false → number ≡ length before + 3
    → ended before lines ≡ Err (record { line = number; kind = BadEnd })
follows_end number before lines more same =
    ap (λ b. cond b (Ok before) (fault_at (length before + 3) BadEnd)) more
    ∙ ap (λ n. fault_at n BadEnd) (sym same)

-- what the line of a cell is

abbrev cell_held : Result Held ImageKind → Option CellLine
cell_held (Err kind) = None
cell_held (Ok held.End) = None
cell_held (Ok (held.Cell l)) = Some l

held_back : (cell : Option CellLine) (l : CellLine) → held_or cell ≡ Ok (held.Cell l)
    → cell ≡ Some l
held_back None l is = absurd cc
held_back (Some m) l is = ap cell_held is

abbrev line_held : ℕ → List ℕ → Result Held ImageKind
line_held size line =
    cond (bytes_eq line (codes "end")) (Ok held.End) (held_or (cell_in size line))

abbrev line_rest : ℕ → Bool → List ℕ → Result Held ImageKind
line_rest size has line = cond (not has) (Err BadLine) (line_held size line)

line_back : (size : ℕ) (has : Bool) (line : List ℕ) (l : CellLine)
    → line_of size has line ≡ Ok (held.Cell l) → cell_in size line ≡ Some l
line_back size has line l is =
    elim (is_missing has line) as (λ b. cond b (Err BadEnd) (line_rest size has line)
    ≡ Ok (held.Cell l) → cell_in size line ≡ Some l) [
      | true ↦ λ h. absurd cc
      | false ↦ λ h.
          elim (not has) as (λ b. cond b (Err BadLine) (line_held size line)
          ≡ Ok (held.Cell l) → cell_in size line ≡ Some l) [
            | true ↦ λ k. absurd cc
            | false ↦ λ k.
                elim (bytes_eq line (codes "end")) as (λ b. cond b (Ok held.End)
                (held_or (cell_in size line)) ≡ Ok (held.Cell l) → cell_in size line ≡ Some l) [
                  | true ↦ λ j. absurd cc
                  | false ↦ λ j. held_back (cell_in size line) l j
                ] k
          ] h
    ] is

abbrev IsHeld : Result Held ImageKind → CellLine → Type 0
IsHeld read l = read ≡ Ok (held.Cell l)

order_back : (least : ℕ) (read : Result Held ImageKind) (l : CellLine)
    → in_order least read ≡ Ok (held.Cell l) → (read ≡ Ok (held.Cell l)) × (least ≤ l.cell)
order_back least (Err kind) l is = absurd cc
order_back least (Ok held.End) l is = absurd cc
order_back least (Ok (held.Cell m)) l is =
    elim (leb least m.cell) as (λ b. leb least m.cell ≡ b
    → cond b (Ok (held.Cell m)) (Err NoOrder) ≡ Ok (held.Cell l)
    → IsHeld (Ok (held.Cell m)) l × (least ≤ l.cell)) [
      | true ↦ λ small h.
          let same : m ≡ l = same_Some m l (ap cell_held h) in
          (h, subst (λ (n : CellLine). least ≤ n.cell) same (leb-true least m.cell small))
      | false ↦ λ large h. absurd cc
    ] refl is

with_fits : (size : ℕ) (cell : Option ℕ) (colour : Option Colour) (fields : Option (List Field))
    (l : CellLine) → cell_with cell colour fields ≡ Some l
    → (cell ≡ Some l.cell) × (fields ≡ Some l.fields)
with_fits size None colour fields l is = absurd cc
with_fits size (Some c) None fields l is = absurd cc
with_fits size (Some c) (Some colour) None l is = absurd cc
with_fits size (Some c) (Some colour) (Some fields) l is =
    let same = same_Some (record { cell = c; colour = colour; fields = fields }) l is in
    (ap (λ (m : CellLine). Some m.cell) same, ap (λ (m : CellLine). Some m.fields) same)

pub turn_fits : (size : ℕ) (before : List CellLine) (has : Bool) (line : List ℕ) (l : CellLine)
    → size ≤ 2 ^ 32 → turn_of size before has line ≡ Ok (held.Cell l)
    → LineFits size l × (least_after before ≤ l.cell)
turn_fits size before has line l few is =
    let order = order_back (least_after before) (line_of size has line) l is in
    let cell = line_back size has line l order.0 in
    let parts = with_fits size (below size (decimal_of 19 (word_of line)))
    (colour_in (next_word_of (rest_of line))) (fields_in size 6 (next_rest_of (rest_of line))) l
    cell in (
      record {
        in_size = cell_below size (decimal_of 19 (word_of line)) l.cell parts.0;
        fields = fields_below size 6 (next_rest_of (rest_of line)) l.fields few parts.1;
      },
      order.1,
    )

-- the head

pub head_read : (bytes line : List ℕ) (more : Option (Bor (List ℕ))) (rest : Bor (List ℕ))
    (size : ℕ) → IsCut bytes line more → more ≡ Some rest → head_of line ≡ Some size
    → contents_of bytes ≡ with_lines size (lines_from size [] (lines_of rest.now))
head_read bytes line more rest size is some head =
    ap contents_in (cut_lines bytes line more is ∙ ap (λ m. line ∷ lines_left m) some)
    ∙ ap (λ o. with_head o (has_feed (lines_of rest.now)) (lines_of rest.now)) head
    ∙ ap (λ b. with_head (Some size) b (lines_of rest.now)) (fed_lines rest.now)

pub file_read : (size : ℕ) (lines : Result (List CellLine) ImageFault)
    (whole : Result Contents ImageFault) (answer : Result FileView ImageError)
    → whole ≡ with_lines size lines → IfOk answer (λ file. file.size ≡ size)
    → Lists answer lines → ListsFile answer whole
file_read size lines whole (Ok file) is same lists =
    is ∙ ap (with_lines size) lists
    ∙ ap (λ n. Ok (record { cells = n; lines = file.lines })) (sym same)
file_read size lines whole (Err (error.Fault fault)) is same lists =
    is ∙ ap (with_lines size) lists
file_read size lines whole (Err error.NoMemory) is same lists = tt

sized_back : (read : Option ℕ) (size : ℕ) → sized read ≡ Some size
    → (64 ≤ size) × (size ≤ GREATEST_POSITION)
sized_back None size is = absurd cc
sized_back (Some n) size is =
    let both = cond_some (leb 64 n && leb n GREATEST_POSITION) n size is in
    let parts = and_parts (leb 64 n) (leb n GREATEST_POSITION) both.0 in (
      subst (λ k. 64 ≤ k) both.1 (leb-true 64 n parts.0),
      subst (λ k. k ≤ GREATEST_POSITION) both.1 (leb-true n GREATEST_POSITION parts.1),
    )

-- a head has as many cells as a heap may have
pub head_sized : (line : List ℕ) (size : ℕ) → head_of line ≡ Some size
    → (64 ≤ size) × (size ≤ GREATEST_POSITION)
head_sized line size is =
    elim (bytes_eq (take 8 line) (codes "image 1 "))
    as (λ b. cond b (sized (decimal_of 7 (drop 8 line))) None ≡ Some size
    → (64 ≤ size) × (size ≤ GREATEST_POSITION)) [
      | true ↦ λ h. sized_back (decimal_of 7 (drop 8 line)) size h
      | false ↦ λ h. absurd cc
    ] is
