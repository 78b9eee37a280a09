-- The index of the lines by cell, as one line comes after the others.
use Rattle.std.proofs.Common.{◌≡◌, ℕ, zero, suc, ◌<◌, ◌≤◌, ◌+◌, ◌++◌, true, false, cond}
use Rattle.std.proofs.Common.{List, [], ◌∷◌, Option, Some, None, length, get_or, eqb, inl, inr}
use Rattle.std.proofs.Common.{refl, sym, subst, ap, ◌∙◌, arith}
use Rattle.std.specs.Prelude.{IfSome, set, slice_get}
use Rattle.std.proofs.lemmas.Bool.{cases_eq, eq-eqb, ne_eqb}
use Rattle.std.proofs.lemmas.Option.{same_Some}
use Rattle.std.proofs.lemmas.List.{get_or-set_other, get_or-set_same, length-set}
use Rattle.cell_words.specs.declared.controls.TheConstants.{GREATEST_POSITION}
use Rattle.image_files.specs.Contents.{least_after}
use Rattle.image_files.specs.File.{FileView, IsFile, LineFits, one_later, place_of}
use Rattle.image_files.specs.declared.line.CellLine.{CellLine}

-- what is so of all lines is so with one more
abbrev AllAt : (CellLine → Type 0) → List CellLine → Type 0
AllAt Is lines = (k : ℕ) → IfSome (slice_get lines k) Is

all_more : (Is : CellLine → Type 0) (lines : List CellLine) (l : CellLine) → AllAt Is lines → Is l
    → AllAt Is (lines ++ l ∷ [])
all_more Is [] l all here zero = here
all_more Is [] l all here (suc k) = tt
all_more Is (m ∷ lines) l all here zero = all 0
all_more Is (m ∷ lines) l all here (suc k) = all_more Is lines l (λ j. all (suc j)) here k

if_weaker : (Is So : CellLine → Type 0) (found : Option CellLine)
    → ((l : CellLine) → Is l → So l) → IfSome found Is → IfSome found So
if_weaker Is So None weaker is = tt
if_weaker Is So (Some l) weaker is = weaker l is

-- a cell above all has no line
place_none : (lines : List CellLine) (n c : ℕ) → AllAt (λ l. l.cell < n) lines → n ≤ c
    → place_of lines c ≡ None
place_none [] n c all above = refl
place_none (l ∷ lines) n c all above =
    let less : l.cell < n = all 0 in
    ap (λ b. cond b (Some 0) (one_later (place_of lines c)))
    (ne_eqb l.cell c (λ is. omega (arith, is, less, above)))
    ∙ ap one_later (place_none lines n c (λ k. all (suc k)) above)

later_none : (place : Option ℕ) → one_later place ≡ None → place ≡ None
later_none None is = refl
later_none (Some k) is = absurd cc

-- the new line is found
place_new : (lines : List CellLine) (l : CellLine) (c : ℕ) → l.cell ≡ c → place_of lines c ≡ None
    → place_of (lines ++ l ∷ []) c ≡ Some (length lines)
place_new [] l c is none = ap (λ b. cond b (Some 0) None) (eq-eqb l.cell c is)
place_new (m ∷ lines) l c is none =
    elim (eqb m.cell c) as (λ b. cond b (Some 0) (one_later (place_of lines c)) ≡ None
    → cond b (Some 0) (one_later (place_of (lines ++ l ∷ []) c)) ≡ Some (length (m ∷ lines))) [
      | true ↦ λ h. absurd cc
      | false ↦ λ h.
          let one : length lines + 1 ≡ length (m ∷ lines) = omega arith in
          ap one_later (place_new lines l c is (later_none (place_of lines c) h))
          ∙ ap (λ n. Some n) one
    ] none

-- and the others as before
place_old : (lines : List CellLine) (l : CellLine) (c : ℕ) → eqb l.cell c ≡ false
    → place_of (lines ++ l ∷ []) c ≡ place_of lines c
place_old [] l c other = ap (λ b. cond b (Some 0) None) other
place_old (m ∷ lines) l c other =
    ap (λ p. cond (eqb m.cell c) (Some 0) (one_later p)) (place_old lines l c other)

least_more : (lines : List CellLine) (l : CellLine) → least_after (lines ++ l ∷ []) ≡ l.cell + 1
least_more [] l = refl
least_more (m ∷ []) l = refl
least_more (m ∷ n ∷ lines) l = least_more (n ∷ lines) l

length_more : (lines : List CellLine) (l : CellLine)
    → length (lines ++ l ∷ []) ≡ length lines + 1
length_more [] l = refl
length_more (m ∷ lines) l = ap suc (length_more lines l) ∙ omega arith

-- one line more
pub file_more : (old new : FileView) (l : CellLine) → IsFile old → LineFits old.size l
    → old.least ≤ l.cell → new.size ≡ old.size → new.least ≡ l.cell + 1
    → new.lines ≡ old.lines ++ l ∷ [] → new.places ≡ set old.places l.cell (Some (length old.lines))
    → IsFile new
file_more old new l file fits order size least lines places =
    let in_size = fits.in_size in
    let placed : length new.places ≡ old.size = ap length places
    ∙ (length-set old.places l.cell (Some (length old.lines)) ∙ file.placed) in
    let none : place_of old.lines l.cell ≡ None =
    place_none old.lines old.least l.cell file.before order in
    record {
      some = omega (arith, file.some, size);
      few = omega (arith, file.few, size);
      least_is = least ∙ sym (ap least_after lines ∙ least_more old.lines l);
      in_size = omega (arith, least, size, in_size);
      rises = omega (arith, ap length lines, length_more old.lines l, file.rises, order, least);
      before = subst (λ ls. AllAt (λ m. m.cell < new.least) ls) (sym lines)
          (all_more (λ m. m.cell < new.least) old.lines l
          (λ k. if_weaker (λ m. m.cell < old.least) (λ m. m.cell < new.least)
          (slice_get old.lines k) (λ m less. omega (arith, less, order, least)) (file.before k))
          (omega (arith, least)));
      fit = subst (λ ls. AllAt (LineFits new.size) ls) (sym lines)
          (subst (λ n. AllAt (LineFits n) (old.lines ++ l ∷ [])) (sym size)
          (all_more (LineFits old.size) old.lines l file.fit fits));
      placed = placed ∙ sym size;
      index = λ c there.
          ap (λ ps. get_or ps c None) places ∙ (elim (cases_eq c l.cell) [
            | inl is ↦
                ap (λ n. get_or (set old.places l.cell (Some (length old.lines))) n None) is
                ∙ (get_or-set_same old.places l.cell (Some (length old.lines)) None
                (omega (arith, file.placed, in_size))
                ∙ sym (ap (λ ls. place_of ls c) lines
                ∙ place_new old.lines l c (sym is)
                (ap (place_of old.lines) is ∙ none)))
            | inr other ↦
                get_or-set_other old.places l.cell c (Some (length old.lines)) None other
                ∙ (file.index c (omega (arith, there, size))
                ∙ sym (ap (λ ls. place_of ls c) lines
                ∙ place_old old.lines l c (ne_eqb l.cell c (λ is. other (sym is)))))
          ]);
    }

-- a cell past the last has no line
pub none_past : (f : FileView) (c : ℕ) → IsFile f → f.size ≤ c → place_of f.lines c ≡ None
none_past f c file past =
    place_none f.lines f.least c file.before (omega (arith, file.in_size, past))

pub place_past : (f : FileView) (c : ℕ) → IsFile f → length f.places ≤ c
    → None ≡ place_of f.lines c
place_past f c file past =
    sym (none_past f c file (omega (arith, file.placed, past)))

later_within : (place : Option ℕ) (k n : ℕ) → one_later place ≡ Some k
    → ((j : ℕ) → place ≡ Some j → j < n) → k < n + 1
later_within None k n is within = absurd cc
later_within (Some j) k n is within =
    let same : j + 1 ≡ k = same_Some (j + 1) k is in
    omega (arith, same, within j refl)

-- a place is that of a line
pub place_within : (lines : List CellLine) (c k : ℕ) → place_of lines c ≡ Some k
    → k < length lines
place_within [] c k is = absurd cc
place_within (l ∷ lines) c k is =
    elim (eqb l.cell c) as (λ b. cond b (Some 0) (one_later (place_of lines c)) ≡ Some k
    → k < length (l ∷ lines)) [
      | true ↦ λ h. let same : 0 ≡ k = same_Some 0 k h in omega (arith, same)
      | false ↦ λ h.
          let within = later_within (place_of lines c) k (length lines) h
          (λ j. place_within lines c j) in
          omega (arith, within)
    ] is

pub place_few : (f : FileView) (c k : ℕ) → IsFile f → place_of f.lines c ≡ Some k
    → k < GREATEST_POSITION
place_few f c k file is =
    omega (arith, place_within f.lines c k is, file.rises, file.in_size, file.few)
