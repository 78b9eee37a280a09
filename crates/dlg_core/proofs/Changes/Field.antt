-- A payload field of a live cell gets another value.
--
-- An edge that goes away and does not end in a white cell is none of which a set that is cut off
-- knows, and neither is one over a doubtful field. An edge that comes makes it only harder to be
-- cut off, but its end may have become due.
use Rattle.std.proofs.Common.{◌≡◌, ◌≢◌, ◌⊎◌, inl, inr, ℕ, Bool, true, false, Some, ◌<◌, refl, sym}
use Rattle.std.proofs.Common.{subst, ◌∙◌, ap, arith}
use Rattle.std.proofs.lemmas.List.Elements.{All-weaker}
use Rattle.cell_words.specs.declared.colours.Colour.TheVariants.{Blue, White, Black}
use Rattle.cell_words.specs.declared.controls.Stage.TheVariants as stage
use Rattle.cell_words.specs.declared.fields.Field.{Field}
use Rattle.cell_words.specs.declared.fields.Field.TheVariants.{Null, Cell}
use Rattle.core_machine.specs.declared.progress.Scanning.{Scanning}
use Rattle.core_machine.specs.State.{State, colour_of, field_of, own_in, set_field}
use Rattle.core_machine.specs.Words.{is_raw_kind, is_box_kind}
use Rattle.core_machine.specs.InRange.{IsShaped}
use Rattle.core_machine.specs.Places.{cell_at}
use Rattle.dlg_core.specs.Consistent.{IsConsistent, IsCutOff, IsNotDue, NoRawBlack}
use Rattle.dlg_core.specs.Doubt.{IsDoubtful}
use Rattle.dlg_core.specs.Facts.{live, is_kind_field, scanned_count}
use Rattle.dlg_core.proofs.Changes.Shade.{wiped_not_live}
use Rattle.dlg_core.proofs.Each.{field_each}
use Rattle.dlg_core.proofs.Safety.{live_not_blue}

-- the state with another value of a field
abbrev pub with_field : State → ℕ → ℕ → Field → State
with_field s c f x = record s { rows = set_field s.rows c f x }

-- what the new value owes
pub record FieldFits (s : State) (c f : ℕ) (x : Field) : Type 0 where
  pub payload : f < 5
  pub alive : live s.colours s.control s.collector.sweep c ≡ true
  pub names : (w : ℕ) → x ≡ Cell w
      → (live s.colours s.control s.collector.sweep w ≡ true)
      × (is_raw_kind (field_of s w 5) ≡ false)
  -- what was named is named still, or is not white, unless the field is doubtful
  pub gone : s.control.stage ≡ stage.Trace → (w : ℕ) → field_of s c f ≡ Cell w
      → ¬ (IsDoubtful s.owns c f (Cell w)) → (x ≡ Cell w) ⊎ (colour_of s w ≢ White)
  -- what is named is in no set that was cut off, where that makes it due
  pub due : s.control.stage ≡ stage.Trace → (set : ℕ → Bool)
      → IsCutOff s.owns s.colours s.rows s.collector.scan set
      → IsNotDue s.presences s.owns s.colours s.rows s.collector.scan set → (w : ℕ) → x ≡ Cell w
      → (colour_of s c ≡ Black)
      ⊎ (((y : Scanning) × (s.collector.scan ≡ Some y) × (c ≡ y.cell) × (f < scanned_count y))
      ⊎ IsDoubtful s.owns c f (Cell w))
      → set w ≡ false

-- the kind fields stay
pub five_same : (s : State) (c f : ℕ) (x : Field) → f < 5 → (d : ℕ)
    → field_of (with_field s c f x) d 5 ≡ field_of s d 5
five_same s c f x payload d =
    field_each (λ e g y. g ≡ 5 → y ≡ field_of s e g) s.rows c f x (λ e. absurd (omega arith))
    (λ e g h. refl) d 5 refl

pub field_kept : (s : State) (c f : ℕ) (x : Field) → IsShaped s → IsConsistent s → FieldFits s c f x
    → IsConsistent (with_field s c f x)
field_kept s c f x range k fits =
    let t = with_field s c f x in
    let five = five_same s c f x fits.payload in
    record {
      mutators = k.mutators;
      cells = record {
        anchor_box = ap is_box_kind (five 0) ∙ k.cells.anchor_box;
        kinds = (λ d. ap is_kind_field (five d) ∙ k.cells.kinds d);
        blue_null = (λ d g blue. field_each (λ e h y. colour_of s e ≡ Blue → y ≡ Null) s.rows c f x
            (λ is. absurd (live_not_blue (colour_of s c) _ fits.alive is))
            (λ e h is. k.cells.blue_null e h is) d g blue);
        anchor_live = k.cells.anchor_live;
        held_live = k.cells.held_live;
        child_live = k.cells.child_live;
        names_live = (λ d e g alive n.
            let r = field_each
            (λ a h y. live s.colours s.control s.collector.sweep a ≡ true → y ≡ Cell e
            → (live s.colours s.control s.collector.sweep e ≡ true)
            × (is_raw_kind (field_of s e 5) ≡ false)) s.rows c f x
            (λ _ is. fits.names e is)
            (λ a h lives is. k.cells.names_live a e h lives is) d g alive n in
            (r.0, ap is_raw_kind (five e) ∙ r.1));
        raw_once = (λ i j d raw hi hj. k.cells.raw_once i j d
            (sym (ap is_raw_kind (five d)) ∙ raw) hi hj);
        raw_not_black = (λ i sync2. All-weaker (NoRawBlack s.colours s.rows)
            (NoRawBlack s.colours t.rows)
            (λ p h raw. h (sym (ap is_raw_kind (five p.cell)) ∙ raw)) (own_in s.owns i).held
            (k.cells.raw_not_black i sync2));
        pendings = (λ i write e. let r = k.cells.pendings i write e in record {
          lets = r.lets;
          there = r.there;
          payload = r.payload;
          box = ap is_box_kind (five (cell_at (own_in s.owns i).held write.place)) ∙ r.box;
          found_held = r.found_held;
        });
      };
      tracing = record {
        cleared = k.tracing.cleared;
        anchor_marked = k.tracing.anchor_marked;
        traced = (λ now set cut.
            let stays : (d e g : ℕ) → field_of s d g ≡ Cell e
            → ¬ (IsDoubtful s.owns d g (Cell e)) → (field_of t d g ≡ Cell e) ⊎ (set e ≡ false)
            = (λ d e g. field_each
            (λ a h y. field_of s a h ≡ Cell e → ¬ (IsDoubtful s.owns a h (Cell e))
            → (y ≡ Cell e) ⊎ (set e ≡ false)) s.rows c f x
            (λ is sure. elim (fits.gone now e is sure) [
              | inl named ↦ inl named
              | inr dark ↦ inr (elim (set e) as (λ b. set e ≡ b → set e ≡ false) [
                | true ↦ λ h. absurd (dark (cut.white e h))
                | false ↦ λ h. h
              ] refl)
            ])
            (λ a h is sure. inl is) d g) in
            let before : IsCutOff s.owns s.colours s.rows s.collector.scan set = record {
              white = cut.white;
              child = cut.child;
              gray = (λ d e g gray unread n sure. elim (stays d e g n sure) [
                | inl named ↦ cut.gray d e g gray unread named sure
                | inr out ↦ out
              ]);
              outside = (λ d e g white out n sure. elim (stays d e g n sure) [
                | inl named ↦ cut.outside d e g white out named sure
                | inr other ↦ other
              ]);
            } in
            let old = k.tracing.traced now set before in record {
              black = (λ d e g black n. field_each
                  (λ a h y. colour_of s a ≡ Black → y ≡ Cell e → set e ≡ false) s.rows c f x
                  (λ is named. fits.due now set before old e named (inl is))
                  (λ a h is named. old.black a e h is named) d g black n);
              scanned = (λ y e g is lt n. field_each
                  (λ a h v. a ≡ y.cell → h < scanned_count y → v ≡ Cell e → set e ≡ false) s.rows c
                  f x
                  (λ same below named. fits.due now set before old e named
                  (inr (inl (y, is, same, below))))
                  (λ a h same below named. old.scanned y e h is below
                  (subst (λ b. field_of s b h ≡ Cell e) same named))
                  y.cell g refl lt n);
              held = old.held;
              doubtful = (λ d e g is n. field_each
                  (λ a h y. IsDoubtful s.owns a h (Cell e) → y ≡ Cell e → set e ≡ false) s.rows c f
                  x
                  (λ doubt named. fits.due now set before old e named (inr (inr doubt)))
                  (λ a h doubt named. old.doubtful a e h doubt named) d g is n);
            });
        clean_pass = k.tracing.clean_pass;
        pass_waits = k.tracing.pass_waits;
        scans = k.tracing.scans;
      };
      sweep = record {
        unswept = k.sweep.unswept;
        wipes = (λ n is. let r = k.sweep.wipes n is in record {
          white = r.white;
          null = (λ g lt. field_each
              (λ a h y. a ≡ s.control.position → h < n → y ≡ Null) s.rows c f x
              (λ same below. absurd (let dead = wiped_not_live s range n is r.white in
              let lives : live s.colours s.control s.collector.sweep s.control.position ≡ true
              = subst (λ b. live s.colours s.control s.collector.sweep b ≡ true) same
              fits.alive in cc))
              (λ a h same below. subst (λ b. field_of s b h ≡ Null) (sym same) (r.null h below))
              s.control.position g refl lt);
        });
        found_black = k.sweep.found_black;
      };
    }
