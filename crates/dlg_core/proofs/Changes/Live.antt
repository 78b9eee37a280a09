-- Live cells are told by a test on cells. Where two tests hold of the same cells, what is said of
-- live cells by the one is said by the other.
use Rattle.std.proofs.Common.{◌≡◌, ◌&&◌, ◌||◌, ◌==◌, ◌⊎◌, inl, inr, ℕ, Bool, true, false, not}
use Rattle.std.proofs.Common.{nat_lt, List, Option, Some, ◌≤◌, sym, subst, ◌∙◌, ap, arith}
use Rattle.std.specs.List.{All}
use Rattle.std.proofs.lemmas.Bool.{cases_lt, and_parts, or_cases, ltb-true, eqb-true}
use Rattle.std.proofs.lemmas.List.{get_or_past}
use Rattle.std.proofs.lemmas.List.Elements.{All-weaker}
use Rattle.cell_words.specs.declared.colours.Colour.{Colour}
use Rattle.cell_words.specs.declared.controls.Control.{Control}
use Rattle.cell_words.specs.declared.controls.Stage.{Stage}
use Rattle.cell_words.specs.declared.controls.Stage.TheVariants as stage
use Rattle.cell_words.specs.declared.fields.Field.{Field}
use Rattle.cell_words.specs.declared.fields.Field.TheVariants as field
use Rattle.cell_words.specs.declared.presences.Status.TheVariants as status
use Rattle.core_machine.specs.declared.progress.Scanning.{Scanning}
use Rattle.core_machine.specs.declared.progress.Sweeping.{Sweeping}
use Rattle.core_machine.specs.State.{State, colour_in, field_in, own_in, presence_of, no_presence}
use Rattle.core_machine.specs.Sweep.{is_done}
use Rattle.core_machine.specs.Words.{is_raw_kind, same_stage}
use Rattle.core_machine.specs.InRange.{IsShaped}
use Rattle.core_machine.specs.Own.{Own}
use Rattle.dlg_core.specs.Consistent.{IsConsistent}
use Rattle.dlg_core.specs.Facts.{is_live, live, unswept, child_in, status_fits}
use Rattle.core_machine.proofs.Conditions.{same_stage_is}

-- the facts on live cells, by the test
pub record LiveFacts (test : ℕ → Bool) (rows : List (List Field)) (owns : List Own)
    (scan : Option Scanning) : Type 0 where
  pub anchor : test 0 ≡ true
  pub held : (i : ℕ) → All (λ place. test place.cell ≡ true) (own_in owns i).held
  pub child : (c : ℕ) → child_in scan ≡ Some c → test c ≡ true
  pub names : (c d f : ℕ) → test c ≡ true → field_in rows c f ≡ field.Cell d
      → (test d ≡ true) × (is_raw_kind (field_in rows d 5) ≡ false)

pub live_facts : (s : State) → IsConsistent s
    → LiveFacts (live s.colours s.control s.collector.sweep) s.rows s.owns s.collector.scan
live_facts s k = record {
  anchor = k.cells.anchor_live;
  held = k.cells.held_live;
  child = k.cells.child_live;
  names = k.cells.names_live;
}

-- tests that say the same
pub live_moves : (one other : ℕ → Bool) (rows : List (List Field)) (owns : List Own)
    (scan : Option Scanning)
    → ((c : ℕ) → other c ≡ one c) → LiveFacts one rows owns scan → LiveFacts other rows owns scan
live_moves one other rows owns scan same k = record {
  anchor = same 0 ∙ k.anchor;
  held = (λ i. All-weaker (λ p. one p.cell ≡ true) (λ p. other p.cell ≡ true)
      (λ p h. same p.cell ∙ h) (own_in owns i).held (k.held i));
  child = (λ c e. same c ∙ k.child c e);
  names = (λ c d f h n. let r = k.names c d f (sym (same c) ∙ h) n in (same d ∙ r.0, r.1));
}

-- outside the sweep no cell is unswept
pub not_sweeping : (control : Control) (sweep : Sweeping) (c : ℕ)
    → same_stage control.stage stage.Sweep ≡ false
    → unswept control sweep c ≡ false
not_sweeping control sweep c h =
    ap (λ b. b && (nat_lt control.position c || ((c == control.position) && not (is_done sweep)))) h

pub live_outside : (colours : List Colour) (control : Control) (sweep : Sweeping) (c : ℕ)
    → same_stage control.stage stage.Sweep ≡ false
    → live colours control sweep c ≡ is_live (colour_in colours c) false
live_outside colours control sweep c h = ap (is_live (colour_in colours c))
    (not_sweeping control sweep c h)

-- a stage is not the sweep where it is another
pub other_stage : (now x : Stage) → now ≡ x → same_stage x stage.Sweep ≡ false
    → same_stage now stage.Sweep ≡ false
other_stage now x e h = subst (λ y. same_stage y stage.Sweep ≡ false) (sym e) h

-- a mutator that there is not is in the async status
pub status_known : (s : State) (i : ℕ) → IsShaped s → IsConsistent s
    → (status_fits s.control.stage (presence_of s i).status ≡ true)
    ⊎ ((presence_of s i).status ≡ status.Async)
status_known s i range k = elim (cases_lt i s.mutators) [
  | inl lt ↦ inl (k.mutators.statuses i lt)
  | inr past ↦ inr (ap (λ p. p.status) (get_or_past s.presences i no_presence
      (subst (λ n. n ≤ i) (sym range.mutators_fit.presences_fit) past)))
]

-- an unswept cell is at the position or ahead of it, in the sweep
pub unswept_where : (now : Control) (sweep : Sweeping) (c : ℕ) → unswept now sweep c ≡ true
    → (now.stage ≡ stage.Sweep) × (now.position ≤ c)
unswept_where now sweep c h =
    let r = and_parts _ _ h in (
      same_stage_is now.stage stage.Sweep r.0,
      elim (or_cases (nat_lt now.position c) ((c == now.position) && not (is_done sweep)) r.1) [
        | inl lt ↦ let below = ltb-true now.position c lt in omega arith
        | inr here ↦ let same = eqb-true c now.position (and_parts _ _ here).0 in omega arith
      ],
    )
