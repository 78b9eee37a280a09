-- Mark: a held cell is shaded, and all places of it are marked.
--
-- What needs an argument is the clean pass. A cell that becomes gray behind the cursor of a clean
-- pass does no harm where a gray cell is ahead. Were there no gray cell at all, then no child
-- either, so the set of all white cells would be cut off; but this white cell is due, since an
-- async mutator holds it.
use Rattle.std.proofs.Common.{◌≡◌, ◌≢◌, ◌==◌, ◌||◌, if◌then◌else◌, inl, inr, ℕ, zero, suc, Bool}
use Rattle.std.proofs.Common.{true, false, List, [], ◌∷◌, map, ◌≤◌, refl, sym, subst, ◌∙◌, ap}
use Rattle.std.proofs.Common.{arith}
use Rattle.std.specs.List.{All, list_any}
use Rattle.std.proofs.lemmas.Bool.{or_cases, eqb-true}
use Rattle.std.proofs.lemmas.List.Elements.{All-nil, All-cons, All-head, All-tail}
use Rattle.cell_words.specs.declared.colours.Colour.{Colour}
use Rattle.cell_words.specs.declared.colours.Colour.TheVariants as colour
use Rattle.cell_words.specs.declared.presences.Status.TheVariants as status
use Rattle.cell_words.specs.Modes.{requested_of}
use Rattle.core_machine.specs.declared.events.Event.TheVariants as event
use Rattle.core_machine.specs.declared.places.Held.{Held}
use Rattle.core_machine.specs.Operations.{is_in}
use Rattle.core_machine.specs.State.{State, colour_in, colour_of, presence_of, own_of, held_of}
use Rattle.core_machine.specs.State.{target_of, field_of}
use Rattle.core_machine.specs.Words.{shaded, is_gray, is_handshake, is_box_kind}
use Rattle.core_machine.specs.InRange.{IsShaped}
use Rattle.core_machine.specs.Next.{can, after}
use Rattle.core_machine.specs.Own.{marking}
use Rattle.core_machine.specs.Places.{holds, mark_of}
use Rattle.core_machine.proofs.Conditions.{mark_needs}
use Rattle.dlg_core.specs.Consistent.{IsConsistent, CleanPass, MarkStands, NoRawBlack}
use Rattle.dlg_core.specs.Facts.{live, all_in}
use Rattle.dlg_core.proofs.Changes.Own.{own_kept}
use Rattle.dlg_core.proofs.Changes.Shade.{with_shade, shade_kept, shaded_gray, shaded_there}
use Rattle.dlg_core.proofs.Each.{colour_each, all_held}
use Rattle.dlg_core.proofs.Truths.{one_of_all}
use Rattle.core_machine.proofs.OneOperation.{inside_there}
use Rattle.dlg_core.proofs.HeldLists.{at_place, holds_place, holds_marking, cell_of_mark}
use Rattle.dlg_core.proofs.HeldLists.{cell_at_marking, there_marking}
use Rattle.dlg_core.proofs.CutOff.{is_white, white_is_white, white_cut_off}

-- Marks of places.

-- what holds of the cells of all places holds of them when some are marked
pub all_marking : (P : ℕ → Type 0) (held : List Held) (c : ℕ) → All (λ p. P p.cell) held
    → All (λ p. P p.cell) (map (mark_of c) held)
all_marking P [] c all = All-nil (λ p. P p.cell)
all_marking P (p ∷ ps) c all =
    All-cons (λ q. P q.cell) (mark_of c p) (map (mark_of c) ps)
    (subst P (sym (cell_of_mark c p)) (All-head (λ q. P q.cell) p ps all))
    (all_marking P ps c (All-tail (λ q. P q.cell) p ps all))

-- marks stand where they stood, and on a cell that is not white
pub stands_marking : (colours : List Colour) (held : List Held) (c : ℕ)
    → colour_in colours c ≢ colour.White
    → All (MarkStands colours) held → All (MarkStands colours) (map (mark_of c) held)
stands_marking colours [] c dark all = All-nil (MarkStands colours)
stands_marking colours (p ∷ ps) c dark all =
    All-cons (MarkStands colours) (mark_of c p) (map (mark_of c) ps)
    (elim (p.cell == c)
    as (λ b. (p.cell == c) ≡ b
    → MarkStands colours (if b then record p { marked = true } else p)) [
      | true ↦ λ e m white. dark
          (subst (λ d. colour_in colours d ≡ colour.White) (eqb-true p.cell c e) white)
      | false ↦ λ e. All-head (MarkStands colours) p ps all
    ] refl)
    (stands_marking colours ps c dark (All-tail (MarkStands colours) p ps all))

-- The clean pass.

pub is_gray_is : (x : Colour) → is_gray x ≡ true → x ≡ colour.Gray
is_gray_is colour.Gray h = refl
is_gray_is _ h = absurd cc

-- a list with a gray cell has it at some place, and one without has none
pub gray_at : (colours : List Colour) → list_any is_gray colours ≡ true
    → (d : ℕ) × (colour_in colours d ≡ colour.Gray)
gray_at [] h = absurd cc
gray_at (x ∷ xs) h = elim (or_cases (is_gray x) (list_any is_gray xs) h) [
  | inl here ↦ (zero, is_gray_is x here)
  | inr there ↦ let r = gray_at xs there in (suc r.0, r.1)
]

pub neither : (a b : Bool) → (a || b) ≡ false → (a ≡ false) × (b ≡ false)
neither true b h = absurd cc
neither false b h = (refl, h)

pub gray_nowhere : (colours : List Colour) → list_any is_gray colours ≡ false → (d : ℕ)
    → colour_in colours d ≢ colour.Gray
gray_nowhere [] h d e = absurd cc
gray_nowhere (x ∷ xs) h zero e = absurd
    (let g : is_gray x
    ≡ true = ap is_gray e in let r = neither (is_gray x) (list_any is_gray xs) h in cc)
gray_nowhere (x ∷ xs) h (suc d) e = gray_nowhere xs
    (neither (is_gray x) (list_any is_gray xs) h).1 d e

-- a cell that becomes gray leaves a gray cell ahead in a clean pass
pub clean_marked : (s : State) (i c : ℕ) → IsShaped s → IsConsistent s → is_in s i ≡ true
    → holds (held_of s i) c ≡ true
    → CleanPass s.control.stage s.collector.clean s.collector.cursor (with_shade s c).colours
clean_marked s i c range k inside held now clean d gray =
    let t = with_shade s c in
    let gray_is : (e : ℕ) → colour_of s e ≡ colour.Gray → colour_of t e ≡ colour.Gray
    = colour_each (λ e y. colour_of s e ≡ colour.Gray → y ≡ colour.Gray) s.colours c
    (shaded (colour_of s c))
    (λ h. ap shaded h) (λ e h. h) in
    elim (list_any is_gray s.colours)
    as (λ b. list_any is_gray s.colours ≡ b → (e : ℕ) × (s.collector.cursor ≤ e)
    × (colour_of t e ≡ colour.Gray)) [
      | true ↦ λ some.
          let one = gray_at s.colours some in
          let ahead = k.tracing.clean_pass now clean one.0 one.1 in
          (ahead.0, ahead.1, gray_is ahead.0 ahead.2)
      | false ↦ λ none.
          let nowhere = gray_nowhere s.colours none in
          let fresh : (d ≡ c) × (colour_of s c ≡ colour.White)
          = colour_each
          (λ e y. y ≡ colour.Gray → (e ≡ c) × (colour_of s c ≡ colour.White)) s.colours c
          (shaded (colour_of s c))
          (λ g. elim (shaded_gray (colour_of s c) g) [
            | inl white ↦ (refl, white)
            | inr was ↦ absurd (nowhere c was)
          ])
          (λ e g. absurd (nowhere e g)) d gray in
          elim (all_in s.collector.answered)
          as (λ b. all_in s.collector.answered ≡ b → (e : ℕ) × (s.collector.cursor ≤ e)
          × (colour_of t e ≡ colour.Gray)) [
            | false ↦ λ waits. let start = k.tracing.pass_waits now waits in (d, omega arith, gray)
            | true ↦ λ all.
                let async : (presence_of s i).status ≡ status.Async
                = k.mutators.answered i (inside_there s range i inside)
                (subst (λ x. is_handshake x ≡ true) (sym now) refl)
                (one_of_all s.collector.answered i all)
                ∙ ap requested_of now in
                let lost = (k.tracing.traced now (λ e. is_white (colour_of s e))
                (white_cut_off s k nowhere)).held i async in
                let out : is_white (colour_of s c) ≡ false
                = all_held (λ e. is_white (colour_of s e) ≡ false) (held_of s i) c lost held in
                absurd (let h = white_is_white (colour_of s c) fresh.1 in cc)
          ] refl
    ] refl

pub mark_keeps : (s : State) (i place : ℕ) → IsShaped s → IsConsistent s
    → can s (event.Mark i place) ≡ true
    → IsConsistent (after s (event.Mark i place))
mark_keeps s i place range k h =
    let needs = mark_needs s i place h in
    let lt = needs.there in
    let c = target_of s i place in
    let held = held_of s i in
    let there = holds_place held place lt in
    let alive : live s.colours s.control s.collector.sweep c ≡ true
    = at_place (λ d. live s.colours s.control s.collector.sweep d ≡ true) held place lt
    (k.cells.held_live i) in
    let t = with_shade s c in
    let shady = shade_kept s c range k alive (clean_marked s i c range k needs.inside there) in
    own_kept t i (marking (own_of s i) c) shady record {
      mode = k.mutators.modes i;
      out = (λ o. absurd cc);
      marks = (λ m. stands_marking t.colours held c (shaded_there s c) (shady.mutators.marks i m));
      held_live = all_marking (λ d. live t.colours s.control s.collector.sweep d ≡ true) held c
          (shady.cells.held_live i);
      raw = (λ d raw has. sym (holds_marking held c d) ∙ has);
      raw_not_black = (λ sync2. all_marking
          (λ d. NoRawBlack t.colours s.rows record { cell = d; marked = false }) held c
          (shady.cells.raw_not_black i sync2));
      due = (λ now async set cut old. all_marking (λ d. set d ≡ false) held c (old.held i async));
      pendings = (λ write e. let r = shady.cells.pendings i write e in record {
        lets = r.lets;
        there = there_marking held c write.place r.there;
        payload = r.payload;
        box = ap (λ d. is_box_kind (field_of s d 5)) (cell_at_marking held c write.place) ∙ r.box;
        found_held = (λ d is. holds_marking held c d ∙ r.found_held d is);
      });
      doubts = (λ d g x n doubt. record {
        write = doubt.write;
        begun = doubt.begun;
        cell = sym (cell_at_marking held c doubt.write.place) ∙ doubt.cell;
        same = doubt.same;
        changed = doubt.changed;
      });
    }
