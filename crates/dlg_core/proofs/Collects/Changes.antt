-- What kinds of change leave of the set that is followed.
use Rattle.std.proofs.Common.{◌≡◌, ◌≢◌, ◌⊎◌, inl, inr, ℕ, true, List, Option, Some, ◌+◌, ◌≤◌, sym}
use Rattle.std.proofs.Common.{◌∙◌, subst}
use Rattle.std.specs.Prelude.{slice_set}
use Rattle.cell_words.specs.declared.colours.Colour.{Colour}
use Rattle.cell_words.specs.declared.colours.Colour.TheVariants as colour
use Rattle.cell_words.specs.declared.controls.Control.{Control}
use Rattle.cell_words.specs.declared.controls.Stage.TheVariants as stage
use Rattle.cell_words.specs.declared.fields.Field.{Field}
use Rattle.cell_words.specs.declared.fields.Field.TheVariants as field
use Rattle.core_machine.specs.declared.progress.Scanning.{Scanning}
use Rattle.core_machine.specs.declared.progress.Sweeping.{Sweeping}
use Rattle.core_machine.specs.Own.{Own}
use Rattle.core_machine.specs.Places.{holds}
use Rattle.core_machine.specs.State.{colour_in, set_field}
use Rattle.dlg_core.specs.Facts.{unswept, child_in}
use Rattle.dlg_core.proofs.Collects.Followed.{IsApart, IsOnItsWay}
use Rattle.dlg_core.proofs.Each.{colour_each, own_each, field_each}

-- One mutator's part changes: it holds none of the set.
pub own_apart : (set : ℕ → Type 0) (rows : List (List Field)) (owns : List Own)
    (colours : List Colour) (i : ℕ) (own : Own)
    → ((c : ℕ) → holds own.held c ≡ true → set c → ⊥) → IsApart set rows owns colours
    → IsApart set rows (slice_set owns i own) colours
own_apart set rows owns colours i own none k = record {
  anchor = k.anchor;
  held = own_each (λ j o. (c : ℕ) → holds o.held c ≡ true → set c → ⊥) owns i own none k.held;
  named = k.named;
  not_blue = k.not_blue;
}

-- A field changes: the new value names none of the set, or its cell is in the set.
pub field_apart : (set : ℕ → Type 0) (rows : List (List Field)) (owns : List Own)
    (colours : List Colour) (c f : ℕ) (x : Field)
    → ((d : ℕ) → x ≡ field.Cell d → set d → set c) → IsApart set rows owns colours
    → IsApart set (set_field rows c f x) owns colours
field_apart set rows owns colours c f x fits k = record {
  anchor = k.anchor;
  held = k.held;
  named = (λ a d g n. field_each (λ e h y. y ≡ field.Cell d → set d → set e) rows c f x
      (fits d) (λ e h. k.named e d h) a g n);
  not_blue = k.not_blue;
}

-- A colour changes: a cell of the set does not become blue.
pub colour_apart : (set : ℕ → Type 0) (rows : List (List Field)) (owns : List Own)
    (colours : List Colour) (c : ℕ) (x : Colour)
    → (set c → x ≢ colour.Blue) → IsApart set rows owns colours
    → IsApart set rows owns (slice_set colours c x)
colour_apart set rows owns colours c x fits k = record {
  anchor = k.anchor;
  held = k.held;
  named = k.named;
  not_blue = colour_each (λ d y. set d → y ≢ colour.Blue) colours c x fits k.not_blue;
}

-- In its phase a cell of the set has the colour that is due.
pub colour_way : (set : ℕ → Type 0) (start : ℕ) (colours : List Colour) (control : Control)
    (sweep : Sweeping) (scan : Option Scanning)
    (c : ℕ) (x : Colour)
    → (control.cycles ≡ start → control.stage ≡ stage.Sweep → set c
    → (x ≡ colour.White) ⊎ ((x ≡ colour.Black) × (unswept control sweep c ≡ true)))
    → (control.cycles ≡ start + 1 → set c → x ≡ colour.White)
    → IsOnItsWay set start colours control sweep scan
    → IsOnItsWay set start (slice_set colours c x) control sweep scan
colour_way set start colours control sweep scan c x swept white k = record {
  swept = (λ first now. colour_each
      (λ d y. set d → (y ≡ colour.White) ⊎ ((y ≡ colour.Black) × (unswept control sweep d ≡ true)))
      colours c x (swept first now) (k.swept first now));
  white = (λ next. colour_each (λ d y. set d → y ≡ colour.White) colours c x (white next)
      (k.white next));
  no_child = k.no_child;
  ahead = k.ahead;
  gone = k.gone;
}

-- The cell is not in the set.
pub colour_beside : (set : ℕ → Type 0) (start : ℕ) (colours : List Colour) (control : Control)
    (sweep : Sweeping) (scan : Option Scanning)
    (c : ℕ) (x : Colour) → (set c → ⊥)
    → IsOnItsWay set start colours control sweep scan
    → IsOnItsWay set start (slice_set colours c x) control sweep scan
colour_beside set start colours control sweep scan c x out k =
    colour_way set start colours control sweep scan c x (λ _ _ h. absurd (out h))
    (λ _ h. absurd (out h)) k

-- The sweep goes on: what was still to be swept is, where that matters.
pub sweep_way : (set : ℕ → Type 0) (start : ℕ) (colours : List Colour) (control later : Control)
    (sweep further : Sweeping) (scan : Option Scanning)
    → later.cycles ≡ control.cycles → later.stage ≡ control.stage
    → ((c : ℕ) → set c → colour_in colours c ≡ colour.Black → unswept control sweep c ≡ true
    → unswept later further c ≡ true)
    → (control.cycles ≡ start + 1 → (c : ℕ) → set c → unswept control sweep c ≡ true
    → unswept later further c ≡ true)
    → IsOnItsWay set start colours control sweep scan
    → IsOnItsWay set start colours later further scan
sweep_way set start colours control later sweep further scan cycles now black ahead k = record {
  swept = (λ first sweeps c h. elim (k.swept (sym cycles ∙ first) (sym now ∙ sweeps) c h) [
    | inl white ↦ inl white
    | inr far ↦ inr (far.0, black c h far.0 far.1)
  ]);
  white = (λ next. k.white (sym cycles ∙ next));
  no_child = (λ next. k.no_child (sym cycles ∙ next));
  ahead = (λ next sweeps c h. ahead (sym cycles ∙ next) c h
      (k.ahead (sym cycles ∙ next) (sym now ∙ sweeps) c h));
  gone = (λ far. k.gone (subst (λ n. start + 2 ≤ n) cycles far));
}

-- The scan changes: no child is in the set in the next cycle.
pub scan_way : (set : ℕ → Type 0) (start : ℕ) (colours : List Colour) (control : Control)
    (sweep : Sweeping) (scan further : Option Scanning)
    → (control.cycles ≡ start + 1 → (c : ℕ) → child_in further ≡ Some c → set c → ⊥)
    → IsOnItsWay set start colours control sweep scan
    → IsOnItsWay set start colours control sweep further
scan_way set start colours control sweep scan further fits k = record {
  swept = k.swept;
  white = k.white;
  no_child = fits;
  ahead = k.ahead;
  gone = k.gone;
}

-- Fewer cells are in the set.
pub fewer_way : (set less : ℕ → Type 0) (start : ℕ) (colours : List Colour) (control : Control)
    (sweep : Sweeping) (scan : Option Scanning)
    → ((c : ℕ) → less c → set c)
    → IsOnItsWay set start colours control sweep scan
    → IsOnItsWay less start colours control sweep scan
fewer_way set less start colours control sweep scan sub k = record {
  swept = (λ first now c h. k.swept first now c (sub c h));
  white = (λ next c h. k.white next c (sub c h));
  no_child = (λ next c is h. k.no_child next c is (sub c h));
  ahead = (λ next now c h. k.ahead next now c (sub c h));
  gone = (λ far c h. k.gone far c (sub c h));
}
