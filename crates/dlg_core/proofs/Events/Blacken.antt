-- Blacken: the cell under scan becomes black, and the scan ends.
--
-- Gray and black cells are live alike. Every payload field of the cell was scanned, so what it
-- names was due before. All have answered, so nobody is in sync2 and no mark is lost.
use Rattle.std.proofs.Common.{◌≡◌, ◌≢◌, ◌==◌, inl, inr, ℕ, Bool, true, false, Option, Some, None}
use Rattle.std.proofs.Common.{◌<◌, ◌≤◌, arith, refl, sym, subst, ◌∙◌, ap, eq-eqb}
use Rattle.std.proofs.lemmas.Bool.{eqb-true, cases_lt}
use Rattle.std.proofs.lemmas.List.{get_or_past}
use Rattle.std.proofs.lemmas.List.Elements.{All-weaker}
use Rattle.cell_words.specs.declared.colours.Colour.{Colour}
use Rattle.cell_words.specs.declared.colours.Colour.TheVariants as colour
use Rattle.cell_words.specs.declared.controls.Stage.TheVariants as stage
use Rattle.cell_words.specs.declared.fields.Field.{Field}
use Rattle.cell_words.specs.declared.fields.Field.TheVariants as field
use Rattle.cell_words.specs.declared.presences.Status.TheVariants as status
use Rattle.cell_words.specs.Modes.{requested_of}
use Rattle.core_machine.specs.declared.events.Event.TheVariants as event
use Rattle.core_machine.specs.declared.progress.Scanning.{Scanning}
use Rattle.core_machine.specs.declared.progress.Sweeping.TheVariants as sweeping
use Rattle.core_machine.specs.State.{State, colour_of, field_of, own_in, presence_of, no_presence}
use Rattle.core_machine.specs.Tracing.{may_blacken, scan_or_none}
use Rattle.core_machine.specs.Words.{is_handshake}
use Rattle.core_machine.specs.InRange.{IsShaped, ScanFits, ChildFits}
use Rattle.core_machine.specs.Next.{can, after}
use Rattle.dlg_core.specs.Consistent.{IsConsistent, IsCutOff, MarkStands}
use Rattle.dlg_core.specs.Facts.{is_live, live, unswept, is_open, scanned_count, scanned_count_at}
use Rattle.dlg_core.specs.Facts.{is_cleared, child_in, is_kind_field, all_in}
use Rattle.dlg_core.proofs.Changes.Live.{live_facts, live_moves}
use Rattle.dlg_core.proofs.Changes.Shade.{with_colour, sweeps}
use Rattle.dlg_core.proofs.Each.{colour_each, null_beyond}
use Rattle.dlg_core.proofs.Truths.{one_of_all}
use Rattle.dlg_core.proofs.Changes.Pass.{with_scan, open_not_scanned}

pub kind_no_cell : (x : Field) (d : ℕ) → is_kind_field x ≡ true → x ≢ field.Cell d
kind_no_cell field.Null d h e = absurd cc
kind_no_cell (field.Num n) d h e = absurd cc
kind_no_cell (field.Cell c) d h e = absurd cc

-- only payload fields name cells
pub payload_names : (s : State) (c d f : ℕ) → IsShaped s → IsConsistent s
    → field_of s c f ≡ field.Cell d → f < 5
payload_names s c d f range k n = elim (cases_lt f 5) [
  | inl lt ↦ lt
  | inr ge ↦ absurd (elim (cases_lt f 6) [
    | inl six ↦
        let five : f ≡ 5 = omega arith in
        kind_no_cell (field_of s c 5) d (k.cells.kinds c)
        (subst (λ g. field_of s c g ≡ field.Cell d) five n)
    | inr past ↦ let null = null_beyond s c f range past in cc
  ])
]

-- once all have answered nobody is in sync2
pub none_in_sync2 : (s : State) (i : ℕ) → IsShaped s → IsConsistent s
    → s.control.stage ≡ stage.Trace
    → all_in s.collector.answered ≡ true → (presence_of s i).status ≡ status.Async
none_in_sync2 s i range k now all = elim (cases_lt i s.mutators) [
  | inl lt ↦ k.mutators.answered i lt (subst (λ x. is_handshake x ≡ true) (sym now) refl)
      (one_of_all s.collector.answered i all) ∙ ap requested_of now
  | inr past ↦ ap (λ p. p.status) (get_or_past s.presences i no_presence
      (subst (λ n. n ≤ i) (sym range.mutators_fit.presences_fit) past))
]

pub live_black : (ahead : Bool) → is_live colour.Black ahead ≡ is_live colour.Gray ahead
live_black ahead = refl

-- a child is read from a field before the last
pub childless : (cells next : ℕ) (child : Option ℕ) → ChildFits cells next child → next ≡ 5
    → child ≡ None
childless cells next None fits five = refl
childless cells next (Some c) fits five = absurd (let lt = fits.0 in omega arith)

pub blacken_at : (s : State) (x : Scanning) → IsShaped s → IsConsistent s
    → s.collector.scan ≡ Some x → x.next ≡ 5
    → IsConsistent (with_scan (with_colour s x.cell colour.Black) None)
blacken_at s x range k is five =
    let facts = k.tracing.scans x is in
    let t = with_colour s x.cell colour.Black in
    let c = x.cell in
    let was : (y : Colour) → y ≢ colour.Black → (d : ℕ) → colour_of t d ≡ y → colour_of s d ≡ y
    = (λ y other. colour_each (λ e z. z ≡ y → colour_of s e ≡ y) s.colours c colour.Black
    (λ e. absurd (other (sym e))) (λ e h. h)) in
    let stays : (y : Colour) → y ≢ colour.Gray → (d : ℕ) → colour_of s d ≡ y → colour_of t d ≡ y
    = (λ y other. colour_each (λ e z. colour_of s e ≡ y → z ≡ y) s.colours c colour.Black
    (λ e. absurd (other (sym e ∙ facts.gray))) (λ e h. h)) in
    let same_live : (d : ℕ)
    → live t.colours s.control s.collector.sweep d
    ≡ live s.colours s.control s.collector.sweep d
    = colour_each
    (λ e z. is_live z (unswept s.control s.collector.sweep e)
    ≡ live s.colours s.control s.collector.sweep e) s.colours c colour.Black
    (ap (λ z. is_live z (unswept s.control s.collector.sweep c)) (sym facts.gray)) (λ e. refl) in
    let lives = live_moves (live s.colours s.control s.collector.sweep)
    (live t.colours s.control s.collector.sweep) s.rows s.owns s.collector.scan
    same_live (live_facts s k) in
    let fits : ScanFits s.cells (Some x) = subst
    (λ z. ScanFits s.cells z) is range.names_fit.scan_fits in
    let no_child : x.child ≡ None = childless s.cells x.next x.child fits.2 five in
    let not_swept : s.collector.sweep ≢ sweeping.Fresh → ⊥ = (λ busy.
    absurd (let e = sweeps s.cells s.control.position s.collector.sweep s.control.stage
    range.control_fits.stage_fits busy in
    let g = facts.traces in cc)) in
    let async : (i : ℕ) → (presence_of s i).status ≡ status.Async
    = (λ i. none_in_sync2 s i range k facts.traces facts.answers) in
    record {
      mutators = record {
        statuses = k.mutators.statuses;
        answered = k.mutators.answered;
        modes = k.mutators.modes;
        out = k.mutators.out;
        marks = (λ i m. All-weaker (MarkStands s.colours) (MarkStands t.colours)
            (λ p h marked white. h marked (was colour.White (λ e. cc) p.cell white))
            (own_in s.owns i).held (k.mutators.marks i m));
      };
      cells = record {
        anchor_box = k.cells.anchor_box;
        kinds = k.cells.kinds;
        blue_null = (λ d f b. k.cells.blue_null d f (was colour.Blue (λ e. cc) d b));
        anchor_live = lives.anchor;
        held_live = lives.held;
        child_live = (λ d e. absurd cc);
        names_live = lives.names;
        raw_once = k.cells.raw_once;
        raw_not_black = (λ i sync2. absurd (let a = async i in cc));
        pendings = k.cells.pendings;
      };
      tracing = record {
        cleared = (λ d h. absurd (let never : is_cleared stage.Trace s.collector.cursor d ≡ true
            = subst (λ y. is_cleared y s.collector.cursor d ≡ true) facts.traces h in cc));
        anchor_marked = (λ h white. k.tracing.anchor_marked h (was colour.White (λ e. cc) 0 white));
        traced = (λ trace set cut.
            let before : IsCutOff s.owns s.colours s.rows s.collector.scan set = record {
              white = (λ d h. was colour.White (λ e. cc) d (cut.white d h));
              child = (λ d e. absurd
                  (let none : child_in s.collector.scan ≡ None = ap child_in is ∙ no_child in cc));
              gray = (λ d e f gray unread n sure. elim (d == c)
                  as (λ b. (d == c) ≡ b → set e ≡ false) [
                    | true ↦ λ h.
                        let here : d ≡ c = eqb-true d c h in
                        let payload = payload_names s d e f range k n in
                        let le = open_not_scanned x f
                        (subst (λ m. is_open (Some x) m f ≡ true) here
                        (subst (λ z. is_open z d f ≡ true) is unread)) in
                        let count : scanned_count x ≡ x.next
                        = ap (scanned_count_at x.next) no_child in
                        absurd (omega arith)
                    | false ↦ λ h. cut.gray d e f
                        (colour_each
                        (λ a z. (a == c) ≡ false → colour_of s a ≡ colour.Gray → z ≡ colour.Gray)
                        s.colours c colour.Black
                        (λ other g. absurd (let same : (c == c) ≡ true = eq-eqb c c refl in cc))
                        (λ a other g. g) d h gray) refl n sure
                  ] refl);
              outside = (λ d e f white out n sure. cut.outside d e f
                  (stays colour.White (λ e. cc) d white) out n sure);
            } in
            let old = k.tracing.traced trace set before in record {
              black = (λ d e f black n. elim (d == c) as (λ b. (d == c) ≡ b → set e ≡ false) [
                | true ↦ λ h.
                    let here : d ≡ c = eqb-true d c h in
                    let payload = payload_names s d e f range k n in
                    let count : scanned_count x ≡ x.next = ap (scanned_count_at x.next) no_child in
                    old.scanned x e f is (omega arith)
                    (subst (λ m. field_of s m f ≡ field.Cell e) here n)
                | false ↦ λ h. old.black d e f
                    (colour_each
                    (λ a z. (a == c) ≡ false → z ≡ colour.Black → colour_of s a ≡ colour.Black)
                    s.colours c colour.Black
                    (λ other g. absurd (let same : (c == c) ≡ true = eq-eqb c c refl in cc))
                    (λ a other g. g) d h black) n
              ] refl);
              scanned = (λ y e f scan lt n. absurd cc);
              held = old.held;
              doubtful = old.doubtful;
            });
        clean_pass = (λ trace clean. absurd (let u = facts.unclean in cc));
        pass_waits = k.tracing.pass_waits;
        scans = (λ y e. absurd cc);
      };
      sweep = record {
        unswept = (λ d ahead gray. k.sweep.unswept d ahead (was colour.Gray (λ e. cc) d gray));
        wipes = (λ n e. absurd (not_swept (λ f. cc)));
        found_black = (λ e. absurd (not_swept (λ f. cc)));
      };
    }

pub blacken_with : (s : State) (scan : Option Scanning) → IsShaped s → IsConsistent s
    → s.collector.scan ≡ scan → may_blacken scan ≡ true
    → IsConsistent (with_scan (with_colour s (scan_or_none scan).cell colour.Black) None)
blacken_with s None range k is h = absurd cc
blacken_with s (Some x) range k is h = blacken_at s x range k is (eqb-true x.next 5 h)

pub blacken_keeps : (s : State) → IsShaped s → IsConsistent s → can s event.Blacken ≡ true
    → IsConsistent (after s event.Blacken)
blacken_keeps s range k h = blacken_with s s.collector.scan range k refl h
