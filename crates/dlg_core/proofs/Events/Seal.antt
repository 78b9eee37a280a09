-- Seal: the kind field of a held raw cell becomes a record's or a box's.
--
-- The cell is live, so neither blue nor being wiped. No edge comes or goes, since null is no cell
-- and neither is a kind. A raw cell less is no harm to anybody, and a box stays one.
use Rattle.std.proofs.Common.{◌≡◌, ◌≢◌, ℕ, true, false, ◌<◌, refl, sym, subst}
use Rattle.std.proofs.lemmas.List.Elements.{All-weaker}
use Rattle.cell_words.specs.declared.colours.Colour.TheVariants.{Blue}
use Rattle.cell_words.specs.declared.fields.Field.{Field}
use Rattle.cell_words.specs.declared.fields.Field.TheVariants as field
use Rattle.cell_words.specs.declared.fields.Kind.{Kind}
use Rattle.cell_words.specs.declared.fields.Kind.TheVariants as kind
use Rattle.core_machine.specs.declared.events.Event.TheVariants as event
use Rattle.core_machine.specs.Places.{cell_at}
use Rattle.core_machine.specs.State.{State, colour_of, field_of, own_in, held_of, target_of, is_raw}
use Rattle.core_machine.specs.Words.{is_raw_kind, is_box_kind, kind_field}
use Rattle.core_machine.specs.InRange.{IsShaped}
use Rattle.core_machine.specs.Next.{can, after}
use Rattle.core_machine.proofs.Conditions.{seal_needs}
use Rattle.dlg_core.specs.Consistent.{IsConsistent, IsCutOff, NoRawBlack}
use Rattle.dlg_core.specs.Facts.{live, is_kind_field}
use Rattle.dlg_core.proofs.Changes.Field.{with_field}
use Rattle.dlg_core.proofs.Changes.Shade.{wiped_not_live}
use Rattle.dlg_core.proofs.Each.{field_each}
use Rattle.dlg_core.proofs.Safety.{live_not_blue}
use Rattle.dlg_core.proofs.HeldLists.{at_place}
use Rattle.dlg_core.proofs.Truths.{box_not_raw}

pub kind_is_kind : (x : Kind) → is_kind_field (kind_field x) ≡ true
kind_is_kind kind.Record = refl
kind_is_kind kind.Boxed = refl

pub kind_not_raw : (x : Kind) → is_raw_kind (kind_field x) ≡ false
kind_not_raw kind.Record = refl
kind_not_raw kind.Boxed = refl

pub kind_not_cell : (x : Kind) (c : ℕ) → kind_field x ≢ field.Cell c
kind_not_cell kind.Record c e = absurd cc
kind_not_cell kind.Boxed c e = absurd cc

pub raw_not_cell : (x : Field) (c : ℕ) → is_raw_kind x ≡ true → x ≢ field.Cell c
raw_not_cell field.Null c h e = absurd cc
raw_not_cell (field.Num n) c h e = absurd cc
raw_not_cell (field.Cell d) c h e = absurd cc

pub sealed_kept : (s : State) (c : ℕ) (x : Kind) → IsShaped s → IsConsistent s
    → live s.colours s.control s.collector.sweep c ≡ true → is_raw s c ≡ true
    → IsConsistent (with_field s c 5 (kind_field x))
sealed_kept s c x range k alive raw =
    let t = with_field s c 5 (kind_field x) in
    let y = kind_field x in
    -- a cell is sealed where it was, and raw only where it was
    let sealed : (d : ℕ) → is_raw_kind (field_of s d 5) ≡ false
    → is_raw_kind (field_of t d 5) ≡ false
    = (λ d. field_each
    (λ e g z. g ≡ 5 → is_raw_kind (field_of s e 5) ≡ false → is_raw_kind z ≡ false) s.rows c 5 y
    (λ e h. kind_not_raw x)
    (λ e g same h. subst (λ n. is_raw_kind (field_of s e n) ≡ false) (sym same) h) d 5 refl) in
    let raw_was : (d : ℕ) → is_raw_kind (field_of t d 5) ≡ true
    → is_raw_kind (field_of s d 5) ≡ true
    = (λ d. field_each
    (λ e g z. g ≡ 5 → is_raw_kind z ≡ true → is_raw_kind (field_of s e 5) ≡ true) s.rows c 5 y
    (λ e h. raw) (λ e g same h. subst (λ n. is_raw_kind (field_of s e n) ≡ true) same h) d 5 refl)
    in
    let box_is : (d : ℕ) → is_box_kind (field_of s d 5) ≡ true → is_box_kind (field_of t d 5) ≡ true
    = (λ d. field_each
    (λ e g z. g ≡ 5 → is_box_kind (field_of s e 5) ≡ true → is_box_kind z ≡ true) s.rows c 5 y
    (λ e box. absurd (let whole = box_not_raw (field_of s c 5) box in cc))
    (λ e g same h. subst (λ n. is_box_kind (field_of s e n) ≡ true) (sym same) h) d 5 refl) in
    let edge_was : (d e g : ℕ) → field_of t d g ≡ field.Cell e → field_of s d g ≡ field.Cell e
    = (λ d e. field_each (λ a h z. z ≡ field.Cell e → field_of s a h ≡ field.Cell e) s.rows c 5 y
    (λ is. absurd (kind_not_cell x e is)) (λ a h is. is) d) in
    let edge_is : (d e g : ℕ) → field_of s d g ≡ field.Cell e → field_of t d g ≡ field.Cell e
    = (λ d e. field_each (λ a h z. field_of s a h ≡ field.Cell e → z ≡ field.Cell e) s.rows c 5 y
    (λ is. absurd (raw_not_cell (field_of s c 5) e raw is)) (λ a h is. is) d) in
    record {
      mutators = k.mutators;
      cells = record {
        anchor_box = field_each (λ d g z. d ≡ 0 → g ≡ 5 → is_box_kind z ≡ true) s.rows c 5 y
            (λ zero five. absurd (
            let box : is_box_kind (field_of s c 5)
            ≡ true = subst (λ n. is_box_kind (field_of s n 5) ≡ true)
            (sym zero) k.cells.anchor_box in
            let whole = box_not_raw (field_of s c 5) box in cc))
            (λ d g zero five. subst (λ n. is_box_kind (field_of s n g) ≡ true) (sym zero)
            (subst (λ n. is_box_kind (field_of s 0 n) ≡ true) (sym five) k.cells.anchor_box)) 0 5
            refl refl;
        kinds = (λ d. field_each (λ e g z. g ≡ 5 → is_kind_field z ≡ true) s.rows c 5 y
            (λ e. kind_is_kind x)
            (λ e g same. subst (λ n. is_kind_field (field_of s e n) ≡ true) (sym same)
            (k.cells.kinds e)) d 5 refl);
        blue_null = (λ d g blue. field_each
            (λ e h z. colour_of s e ≡ Blue → z ≡ field.Null) s.rows c 5 y
            (λ is. absurd (live_not_blue (colour_of s c) _ alive is))
            (λ e h is. k.cells.blue_null e h is) d g blue);
        anchor_live = k.cells.anchor_live;
        held_live = k.cells.held_live;
        child_live = k.cells.child_live;
        names_live = (λ d e g l n. let r = k.cells.names_live d e g l
            (edge_was d e g n) in (r.0, sealed e r.1));
        raw_once = (λ i j d r hi hj. k.cells.raw_once i j d (raw_was d r) hi hj);
        raw_not_black = (λ i sync2. All-weaker (NoRawBlack s.colours s.rows)
            (NoRawBlack s.colours t.rows)
            (λ p h r. h (raw_was p.cell r)) (own_in s.owns i).held (k.cells.raw_not_black i sync2));
        pendings = (λ i write e. let r = k.cells.pendings i write e in record {
          lets = r.lets;
          there = r.there;
          payload = r.payload;
          box = box_is (cell_at (own_in s.owns i).held write.place) r.box;
          found_held = r.found_held;
        });
      };
      tracing = record {
        cleared = k.tracing.cleared;
        anchor_marked = k.tracing.anchor_marked;
        traced = (λ now set cut.
            let before : IsCutOff s.owns s.colours s.rows s.collector.scan set = record {
              white = cut.white;
              child = cut.child;
              gray = (λ d e g gray unread n sure. cut.gray d e g gray unread (edge_is d e g n)
                  sure);
              outside = (λ d e g white out n sure. cut.outside d e g white out (edge_is d e g n)
                  sure);
            } in
            let old = k.tracing.traced now set before in record {
              black = (λ d e g black n. old.black d e g black (edge_was d e g n));
              scanned = (λ z e g is lt n. old.scanned z e g is lt (edge_was z.cell e g n));
              held = old.held;
              doubtful = (λ d e g doubt n. old.doubtful d e g doubt (edge_was d e g n));
            });
        clean_pass = k.tracing.clean_pass;
        pass_waits = k.tracing.pass_waits;
        scans = k.tracing.scans;
      };
      sweep = record {
        unswept = k.sweep.unswept;
        wipes = (λ n is. let r = k.sweep.wipes n is in record {
          white = r.white;
          null = (λ g lt. field_each
              (λ a h z. a ≡ s.control.position → h < n → z ≡ field.Null) s.rows c 5 y
              (λ same below. absurd (let dead = wiped_not_live s range n is r.white in
              let lives : live s.colours s.control s.collector.sweep s.control.position ≡ true
              = subst (λ b. live s.colours s.control s.collector.sweep b ≡ true) same alive in cc))
              (λ a h same below. subst (λ b. field_of s b h ≡ field.Null) (sym same)
              (r.null h below)) s.control.position g refl lt);
        });
        found_black = k.sweep.found_black;
      };
    }

pub seal_keeps : (s : State) (i place : ℕ) (x : Kind) → IsShaped s → IsConsistent s
    → can s (event.Seal i place x) ≡ true
    → IsConsistent (after s (event.Seal i place x))
seal_keeps s i place x range k h =
    let needs = seal_needs s i place h in
    sealed_kept s (target_of s i place) x range k
    (at_place (λ d. live s.colours s.control s.collector.sweep d ≡ true) (held_of s i) place
    needs.there (k.cells.held_live i)) needs.raw
