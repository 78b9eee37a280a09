-- The count of used cells, cell by cell.
use Rattle.std.proofs.Common.{◌≡◌, ◌<◌, ◌+◌, ◌∙◌, ℕ, Bool, true, false}
use Rattle.std.proofs.Common.{length, take, sym, ap, arith}
use Rattle.std.specs.List.{count_by}
use Rattle.std.proofs.lemmas.List.{take_all}
use Rattle.std.proofs.lemmas.List.Sums.{count_by_more_no, count_by_more_yes}
use Rattle.cell_words.specs.declared.colours.Colour.TheVariants as colour
use Rattle.core_machine.specs.State.{State, colour_of}
use Rattle.dlg_core.specs.Sums.{is_used, used_count_of}
use Rattle.heap_table.specs.Images.{ImageView, Shows}

-- so many of the first cells are used, whatever state the words show
abbrev pub UsedOf : ImageView → ℕ → ℕ → Type 0
UsedOf image first used =
    (s : State) → Shows image s → used ≡ count_by is_used (take first s.colours)

cell_there : (image : ImageView) (s : State) → Shows image s → (c : ℕ) → c < image.cells
    → c < length s.colours
cell_there image s shows c lt =
    let fit = shows.in_range.shape.cells_fit.colours_fit in
    let same = shows.cells_are in
    omega (arith, lt, fit, same)

pub used_yes : (image : ImageView) (c used : ℕ) (b : Bool) → c < image.cells
    → ((s : State) → Shows image s → b ≡ is_used (colour_of s c)) → b ≡ true
    → UsedOf image c used → UsedOf image (c + 1) (used + 1)
used_yes image c used b lt is used_is so_far s shows =
    let step = count_by_more_yes is_used s.colours c colour.Blue (cell_there image s shows c lt)
    (sym (is s shows) ∙ used_is) in
    let before = so_far s shows in
    omega (arith, step, before)

pub used_no : (image : ImageView) (c used : ℕ) (b : Bool) → c < image.cells
    → ((s : State) → Shows image s → b ≡ is_used (colour_of s c)) → b ≡ false
    → UsedOf image c used → UsedOf image (c + 1) used
used_no image c used b lt is free_is so_far s shows =
    let step = count_by_more_no is_used s.colours c colour.Blue (cell_there image s shows c lt)
    (sym (is s shows) ∙ free_is) in
    let before = so_far s shows in
    omega (arith, step, before)

pub used_all : (image : ImageView) (used : ℕ) → UsedOf image image.cells used → (s : State)
    → Shows image s → used ≡ used_count_of s
used_all image used whole s shows =
    whole s shows
    ∙ ap (count_by is_used) (take_all image.cells s.colours
    (let fit = shows.in_range.shape.cells_fit.colours_fit in
    let same = shows.cells_are in
    omega (arith, fit, same)))
