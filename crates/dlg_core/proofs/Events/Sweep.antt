-- SweepLook, Wipe, Free, Whiten and Advance: the sweep of one cell.
--
-- SweepLook  a blue cell is done, and was not live; a white one stays unswept; a black one is
--            found.
-- Wipe       the cell is white and unswept, so it is not live: nobody holds it, and no live cell
--            names it.
-- Free       it has null fields by now, and was not live before it is blue.
-- Whiten     a black cell that is unswept was live, and a white one that is swept is.
-- Advance    the next cell is unswept as it was.
use Rattle.std.proofs.Common.{◌≡◌, ◌≢◌, ◌==◌, ◌&&◌, ◌||◌, inl, inr, ℕ, Bool, true, false, not}
use Rattle.std.proofs.Common.{nat_lt, [], length, get_or, slice_index, ◌+◌, ◌<◌, arith, refl, sym}
use Rattle.std.proofs.Common.{subst, ◌∙◌, ap, eq-eqb}
use Rattle.std.specs.Prelude.{slice_set}
use Rattle.std.proofs.lemmas.Bool.{and_from, lt-ltb, le-ltb, ne_eqb, cases_lt, cases_eq}
use Rattle.std.proofs.lemmas.Bool.{not_from_false}
use Rattle.std.proofs.lemmas.List.{get_or-set_same}
use Rattle.cell_words.specs.declared.colours.Colour.{Colour}
use Rattle.cell_words.specs.declared.colours.Colour.TheVariants as colour
use Rattle.cell_words.specs.declared.controls.Stage.TheVariants as stage
use Rattle.cell_words.specs.declared.fields.Field.TheVariants as field
use Rattle.core_machine.specs.declared.events.Event.TheVariants as event
use Rattle.core_machine.specs.declared.progress.Sweeping.{Sweeping}
use Rattle.core_machine.specs.declared.progress.Sweeping.TheVariants as sweeping
use Rattle.core_machine.specs.Collector.{sweep_of, wiped}
use Rattle.core_machine.specs.State.{State, colour_in, colour_of, field_in, field_of, row_in}
use Rattle.core_machine.specs.State.{own_in, set_field}
use Rattle.core_machine.specs.Places.{cell_at}
use Rattle.core_machine.specs.Sweep.{is_done, wiped_count}
use Rattle.core_machine.specs.Words.{is_gray, is_raw_kind, is_box_kind, same_stage}
use Rattle.core_machine.specs.InRange.{IsShaped}
use Rattle.core_machine.specs.Next.{can, after}
use Rattle.core_machine.proofs.Conditions.{sweep_look_needs, advance_needs}
use Rattle.dlg_core.specs.Consistent.{IsConsistent, IsWiping}
use Rattle.dlg_core.specs.Facts.{is_live, live, unswept, is_kind_field}
use Rattle.dlg_core.proofs.Changes.Shade.{here_unswept, wiped_not_live}
use Rattle.dlg_core.proofs.Changes.Sweep.{SweepStep, sweep_kept, swept_on, at_position}
use Rattle.dlg_core.proofs.Changes.Sweep.{same_unswept, unswept_elsewhere, done_swept, busy_now}
use Rattle.dlg_core.proofs.Changes.Sweep.{position_below}
use Rattle.dlg_core.proofs.Each.{colour_each, colour_else, field_each, all_held, null_beyond}
use Rattle.dlg_core.proofs.Each.{field_elsewhere}
use Rattle.dlg_core.proofs.HeldLists.{at_place}
use Rattle.dlg_core.proofs.Truths.{or_here, or_later, free_is, black_found_is, wipe_is}

-- Nothing but the word on the cell changes, and the cell stays unswept or is blue.

pub word_step : (s : State) (sweep : Sweeping) → IsConsistent s → s.control.stage ≡ stage.Sweep
    → ((c : ℕ) → live s.colours s.control sweep c ≡ live s.colours s.control s.collector.sweep c)
    → ((c : ℕ) → unswept s.control sweep c ≡ true → unswept s.control s.collector.sweep c ≡ true)
    → ((n : ℕ) → sweep ≡ sweeping.Wiping n → IsWiping s.colours s.rows s.control.position n)
    → (sweep ≡ sweeping.BlackFound → colour_of s s.control.position ≡ colour.Black)
    → SweepStep s s.colours s.rows s.control.position sweep
word_step s sweep k now same less wipes found = record {
  now = now;
  on = omega arith;
  anchor_box = k.cells.anchor_box;
  kinds = k.cells.kinds;
  blue_null = k.cells.blue_null;
  same_live = same;
  names = k.cells.names_live;
  raw_once = k.cells.raw_once;
  pendings = k.cells.pendings;
  unswept = (λ c h. k.sweep.unswept c (less c h));
  wipes = wipes;
  found_black = found;
}

-- SweepLook.

-- a blue cell is as little live whether it is done or not
pub blue_done : (s : State) (c : ℕ) → colour_of s s.control.position ≡ colour.Blue
    → live s.colours s.control sweeping.Done c ≡ live s.colours s.control s.collector.sweep c
blue_done s c blue = elim (cases_eq c s.control.position) [
  | inl here ↦
      let same : colour_of s c ≡ colour.Blue = ap (colour_of s) here ∙ blue in
      ap (λ x. is_live x (unswept s.control sweeping.Done c)) same
      ∙ sym (ap (λ x. is_live x (unswept s.control s.collector.sweep c)) same)
  | inr other ↦ ap (is_live (colour_of s c))
      (unswept_elsewhere s.control sweeping.Done s.collector.sweep c other)
]

-- what is unswept with the cell done was unswept before
pub done_less : (s : State) (c : ℕ) → unswept s.control sweeping.Done c ≡ true
    → unswept s.control s.collector.sweep c ≡ true
done_less s c h = elim (cases_eq c s.control.position) [
  | inl here ↦ absurd
      (let gone = ap (unswept s.control sweeping.Done) here ∙ done_swept s.control in cc)
  | inr other ↦ sym (unswept_elsewhere s.control sweeping.Done s.collector.sweep c other) ∙ h
]

pub sweep_looked_at : (s : State) (x : Colour) → IsShaped s → IsConsistent s
    → s.control.stage ≡ stage.Sweep
    → is_done s.collector.sweep ≡ false → colour_of s s.control.position ≡ x
    → not (is_gray x) ≡ true
    → IsConsistent
    (swept_on s s.colours s.rows s.control.position
    (sweep_of x) s.collector.times_freed s.collector.number_freed)
sweep_looked_at s colour.Blue range k now undone is h =
    sweep_kept s s.colours s.rows s.control.position sweeping.Done s.collector.times_freed
    s.collector.number_freed range k
    (word_step s sweeping.Done k now (λ c. blue_done s c is) (done_less s) (λ n e. absurd cc)
    (λ e. absurd cc))
sweep_looked_at s colour.White range k now undone is h =
    sweep_kept s s.colours s.rows s.control.position
    (sweeping.Wiping 0) s.collector.times_freed s.collector.number_freed range k
    (word_step s (sweeping.Wiping 0) k now
    (λ c. ap (is_live (colour_of s c))
    (same_unswept s.control (sweeping.Wiping 0) s.collector.sweep c (sym undone)))
    (λ c h2. sym (same_unswept s.control (sweeping.Wiping 0) s.collector.sweep c (sym undone)) ∙ h2)
    (λ n e. record {
      white = is;
      null = (λ f lt. absurd (let zero_is : 0 ≡ n = cc in omega arith));
    })
    (λ e. absurd cc))
sweep_looked_at s colour.Gray range k now undone is h = absurd cc
sweep_looked_at s colour.Black range k now undone is h =
    sweep_kept s s.colours s.rows s.control.position sweeping.BlackFound s.collector.times_freed
    s.collector.number_freed range k
    (word_step s sweeping.BlackFound k now
    (λ c. ap (is_live (colour_of s c))
    (same_unswept s.control sweeping.BlackFound s.collector.sweep c (sym undone)))
    (λ c h2. sym (same_unswept s.control sweeping.BlackFound s.collector.sweep c (sym undone)) ∙ h2)
    (λ n e. absurd cc) (λ e. is))

pub sweep_look_keeps : (s : State) → IsShaped s → IsConsistent s → can s event.SweepLook ≡ true
    → IsConsistent (after s event.SweepLook)
sweep_look_keeps s range k h =
    let needs = sweep_look_needs s h in
    sweep_looked_at s (colour_of s s.control.position) range k needs.now
    (ap is_done needs.fresh) refl
    (not_from_false _ needs.not_gray)

-- Work on one cell.

-- the cell with another colour, done: as live as it was
pub done_live : (s : State) (x : Colour) (sweep : Sweeping) → s.control.position < length s.colours
    → s.control.stage ≡ stage.Sweep
    → s.collector.sweep ≡ sweep → sweep ≢ sweeping.Done
    → is_live x false ≡ is_live (colour_of s s.control.position) true → (c : ℕ)
    → live (slice_set s.colours s.control.position x) s.control sweeping.Done c
    ≡ live s.colours s.control s.collector.sweep c
done_live s x sweep lt now is undone same =
    let p = s.control.position in
    colour_else (λ c y. is_live y (unswept s.control sweeping.Done c)
    ≡ live s.colours s.control s.collector.sweep c) s.colours p x lt
    (ap (is_live x) (done_swept s.control) ∙ same
    ∙ sym (ap (is_live (colour_of s p))
    (here_unswept s.control s.collector.sweep now (λ e. undone (sym is ∙ e)))))
    (λ c other. ap (is_live (colour_of s c))
    (unswept_elsewhere s.control sweeping.Done s.collector.sweep c other))

-- what is unswept once the cell is done is not gray, whatever colour the cell has now
pub done_not_gray : (s : State) (x : Colour) → IsConsistent s
    → s.control.position < length s.colours → (c : ℕ)
    → unswept s.control sweeping.Done c ≡ true
    → colour_in (slice_set s.colours s.control.position x) c ≢ colour.Gray
done_not_gray s x k lt c h =
    colour_else (λ d y. unswept s.control sweeping.Done d ≡ true → y ≢ colour.Gray) s.colours
    s.control.position x lt
    (λ far. absurd (let gone = done_swept s.control in cc))
    (λ d other far. k.sweep.unswept d (done_less s d far)) c h

-- Free.

pub free_keeps : (s : State) → IsShaped s → IsConsistent s → can s event.Free ≡ true
    → IsConsistent (after s event.Free)
free_keeps s range k h =
    let p = s.control.position in
    let is = free_is s.collector.sweep h in
    let busy : sweeping.Wiping 6 ≢ sweeping.Fresh = (λ e. cc) in
    let undone : sweeping.Wiping 6 ≢ sweeping.Done = (λ e. cc) in
    let now = busy_now s (sweeping.Wiping 6) range is busy in
    let lt = position_below s (sweeping.Wiping 6) range is busy in
    let wipes = k.sweep.wipes 6 is in
    let colours = slice_set s.colours p colour.Blue in
    sweep_kept s colours s.rows p sweeping.Done
    (slice_set s.collector.times_freed p (slice_index s.collector.times_freed p + 1))
    (s.collector.number_freed + 1) range k record {
      now = now;
      on = omega arith;
      anchor_box = k.cells.anchor_box;
      kinds = k.cells.kinds;
      blue_null = (λ c f b. colour_each
          (λ d y. y ≡ colour.Blue → field_of s d f ≡ field.Null) s.colours p colour.Blue
          (λ _. elim (cases_lt f 6) [
            | inl six ↦ wipes.null f six
            | inr past ↦ null_beyond s p f range past
          ])
          (λ d blue. k.cells.blue_null d f blue) c b);
      same_live = done_live s colour.Blue (sweeping.Wiping 6) lt now is undone
          (ap (λ x. is_live x true) (sym wipes.white));
      names = k.cells.names_live;
      raw_once = k.cells.raw_once;
      pendings = k.cells.pendings;
      unswept = done_not_gray s colour.Blue k lt;
      wipes = (λ n e. absurd cc);
      found_black = (λ e. absurd cc);
    }

-- Whiten.

pub whiten_keeps : (s : State) → IsShaped s → IsConsistent s → can s event.Whiten ≡ true
    → IsConsistent (after s event.Whiten)
whiten_keeps s range k h =
    let p = s.control.position in
    let is = black_found_is s.collector.sweep h in
    let busy : sweeping.BlackFound ≢ sweeping.Fresh = (λ e. cc) in
    let undone : sweeping.BlackFound ≢ sweeping.Done = (λ e. cc) in
    let now = busy_now s sweeping.BlackFound range is busy in
    let lt = position_below s sweeping.BlackFound range is busy in
    let black = k.sweep.found_black is in
    let colours = slice_set s.colours p colour.White in
    sweep_kept s colours s.rows p sweeping.Done s.collector.times_freed s.collector.number_freed
    range k record {
      now = now;
      on = omega arith;
      anchor_box = k.cells.anchor_box;
      kinds = k.cells.kinds;
      blue_null = (λ c f b. colour_each
          (λ d y. y ≡ colour.Blue → field_of s d f ≡ field.Null) s.colours p colour.White
          (λ e. absurd cc) (λ d blue. k.cells.blue_null d f blue) c b);
      same_live = done_live s colour.White sweeping.BlackFound lt now is undone
          (ap (λ x. is_live x true) (sym black));
      names = k.cells.names_live;
      raw_once = k.cells.raw_once;
      pendings = k.cells.pendings;
      unswept = done_not_gray s colour.White k lt;
      wipes = (λ n e. absurd cc);
      found_black = (λ e. absurd cc);
    }

-- Advance.

pub not_both : (a b : Bool) → a ≡ false → b ≡ false → (a || (b && true)) ≡ false
not_both a b p q = ap (λ x. x || (b && true)) p ∙ ap (λ x. x && true) q

pub not_and : (a b : Bool) → a ≡ false → (a || (b && false)) ≡ false
not_and a true p = ap (λ x. x || (true && false)) p
not_and a false p = ap (λ x. x || (false && false)) p

-- what is ahead of the next place, it included, is what is ahead of this one, without it
pub ahead_same : (p c : ℕ)
    → (nat_lt (p + 1) c || ((c == p + 1) && true)) ≡ (nat_lt p c || ((c == p) && false))
ahead_same p c = elim (cases_lt p c) [
  | inl lt ↦
      let there : (nat_lt p c || ((c == p) && false))
      ≡ true = or_here (nat_lt p c) _ (lt-ltb p c lt) in
      (elim (cases_lt (p + 1) c) [
        | inl far ↦ or_here (nat_lt (p + 1) c) _ (lt-ltb (p + 1) c far)
        | inr here ↦ or_later (nat_lt (p + 1) c) _
            (and_from (c == p + 1) true (eq-eqb c (p + 1) (omega arith)) refl)
      ])
      ∙ sym there
  | inr ge ↦ not_both (nat_lt (p + 1) c) (c == p + 1) (le-ltb (p + 1) c (omega arith))
      (ne_eqb c (p + 1) (λ e. omega arith))
      ∙ sym (not_and (nat_lt p c) (c == p) (le-ltb p c ge))
]

pub advance_unswept : (s : State) (c : ℕ) → s.collector.sweep ≡ sweeping.Done
    → unswept (at_position s.control (s.control.position + 1)) sweeping.Fresh c
    ≡ unswept s.control s.collector.sweep c
advance_unswept s c is =
    ap (λ b. same_stage s.control.stage stage.Sweep && b) (ahead_same s.control.position c)
    ∙ sym (ap (λ w. unswept s.control w c) is)

pub advance_keeps : (s : State) → IsShaped s → IsConsistent s → can s event.Advance ≡ true
    → IsConsistent (after s event.Advance)
advance_keeps s range k h =
    let needs = advance_needs s h in
    let now = needs.now in
    let is = needs.done in
    sweep_kept s s.colours s.rows
    (s.control.position + 1) sweeping.Fresh s.collector.times_freed s.collector.number_freed
    range k record {
      now = now;
      on = omega arith;
      anchor_box = k.cells.anchor_box;
      kinds = k.cells.kinds;
      blue_null = k.cells.blue_null;
      same_live = (λ c. ap (is_live (colour_of s c)) (advance_unswept s c is));
      names = k.cells.names_live;
      raw_once = k.cells.raw_once;
      pendings = k.cells.pendings;
      unswept = (λ c far. k.sweep.unswept c (sym (advance_unswept s c is) ∙ far));
      wipes = (λ n e. absurd cc);
      found_black = (λ e. absurd cc);
    }

-- Wipe.

pub wipe_at : (s : State) (n : ℕ) → IsShaped s → IsConsistent s
    → s.collector.sweep ≡ sweeping.Wiping n → n < 6
    → IsConsistent
    (swept_on s s.colours (set_field s.rows s.control.position n field.Null) s.control.position
    (sweeping.Wiping (n + 1))
    s.collector.times_freed s.collector.number_freed)
wipe_at s n range k is six =
    let p = s.control.position in
    let rows = set_field s.rows p n field.Null in
    let busy : sweeping.Wiping n ≢ sweeping.Fresh = (λ e. cc) in
    let now = busy_now s (sweeping.Wiping n) range is busy in
    let wipes = k.sweep.wipes n is in
    let dead = wiped_not_live s range n is wipes.white in
    let apart : (d : ℕ) → live s.colours s.control s.collector.sweep d ≡ true → d ≢ p
    = (λ d alive e. absurd (let l : live s.colours s.control s.collector.sweep p ≡ true
    = subst (λ m. live s.colours s.control s.collector.sweep m ≡ true) e alive in cc)) in
    let undone : is_done (sweeping.Wiping (n + 1))
    ≡ is_done s.collector.sweep = sym (ap is_done is) in
    let same : (c : ℕ)
    → unswept s.control (sweeping.Wiping (n + 1)) c ≡ unswept s.control s.collector.sweep c
    = (λ c. same_unswept s.control (sweeping.Wiping (n + 1)) s.collector.sweep c undone) in
    let lt : p < length
    s.rows = (let fit = range.cells_fit.rows_fit in let below = position_below s
    (sweeping.Wiping n) range is busy in
    let colours_fit = range.cells_fit.colours_fit in omega arith) in
    let row : length (row_in s.rows p)
    ≡ 6 = range.cells_fit.six_fields p (let fit = range.cells_fit.rows_fit in omega arith) in
    let nulled : field_in rows p n ≡ field.Null =
    ap (λ r. get_or r n field.Null)
    (get_or-set_same s.rows p (slice_set (row_in s.rows p) n field.Null) [] lt)
    ∙ get_or-set_same (row_in s.rows p) n field.Null field.Null (omega arith) in
    let stays : (f : ℕ) → field_of s p f ≡ field.Null → field_in rows p f ≡ field.Null
    = (λ f. field_each (λ d h y. field_of s d h ≡ field.Null → y ≡ field.Null) s.rows p n field.Null
    (λ _. refl) (λ d h e. e) p f) in
    sweep_kept s s.colours rows p
    (sweeping.Wiping (n + 1)) s.collector.times_freed s.collector.number_freed range k record {
      now = now;
      on = omega arith;
      anchor_box = ap is_box_kind
          (field_elsewhere s.rows p n field.Null 0 (apart 0 k.cells.anchor_live) 5)
          ∙ k.cells.anchor_box;
      kinds = (λ c. field_each (λ d g y. g ≡ 5 → is_kind_field y ≡ true) s.rows p n field.Null
          (λ _. refl)
          (λ d g e. subst (λ m. is_kind_field (field_of s d m) ≡ true) (sym e) (k.cells.kinds d)) c
          5 refl);
      blue_null = (λ c f blue. field_each
          (λ d g y. colour_of s d ≡ colour.Blue → y ≡ field.Null) s.rows p n field.Null (λ _. refl)
          (λ d g b. k.cells.blue_null d g b) c f blue);
      same_live = (λ c. ap (is_live (colour_of s c)) (same c));
      names = (λ c d f alive e.
          let r = k.cells.names_live c d f alive
          (sym (field_elsewhere s.rows p n field.Null c (apart c alive) f) ∙ e) in
          (r.0, ap is_raw_kind (field_elsewhere s.rows p n field.Null d (apart d r.0) 5) ∙ r.1));
      raw_once = (λ i j c raw hi hj.
          let other : c ≢ p = apart c
          (all_held (λ d. live s.colours s.control s.collector.sweep d ≡ true)
          (own_in s.owns i).held c (k.cells.held_live i) hi) in
          k.cells.raw_once i j c
          (sym (ap is_raw_kind (field_elsewhere s.rows p n field.Null c other 5)) ∙ raw) hi hj);
      pendings = (λ i write e.
          let r = k.cells.pendings i write e in
          let held = (own_in s.owns i).held in
          let other : cell_at held write.place ≢ p = apart (cell_at held write.place)
          (at_place (λ d. live s.colours s.control s.collector.sweep d ≡ true) held write.place
          r.there (k.cells.held_live i)) in
          record {
            lets = r.lets;
            there = r.there;
            payload = r.payload;
            box = ap is_box_kind
                (field_elsewhere s.rows p n field.Null (cell_at held write.place) other 5)
                ∙ r.box;
            found_held = r.found_held;
          });
      unswept = (λ c far. k.sweep.unswept c (sym (same c) ∙ far));
      wipes = (λ m e.
          let next : n + 1 ≡ m = cc in
          record {
            white = wipes.white;
            null = (λ f below. elim (cases_lt f n) [
              | inl before ↦ stays f (wipes.null f before)
              | inr from ↦ let here : f
                  ≡ n = omega arith in subst (λ g. field_in rows p g ≡ field.Null) (sym here) nulled
            ]);
          });
      found_black = (λ e. absurd cc);
    }

pub wipe_with : (s : State) (n : ℕ) (sweep : Sweeping) → IsShaped s → IsConsistent s
    → s.collector.sweep ≡ sweep → sweep ≡ sweeping.Wiping n → n < 6
    → IsConsistent
    (swept_on s s.colours
    (set_field s.rows s.control.position (wiped_count sweep) field.Null) s.control.position
    (wiped sweep)
    s.collector.times_freed s.collector.number_freed)
wipe_with s n sweep range k is e six =
    subst (λ w. IsConsistent
    (swept_on s s.colours
    (set_field s.rows s.control.position (wiped_count w) field.Null) s.control.position
    (wiped w)
    s.collector.times_freed s.collector.number_freed)) (sym e) (wipe_at s n range k (is ∙ e) six)

pub wipe_keeps : (s : State) → IsShaped s → IsConsistent s → can s event.Wipe ≡ true
    → IsConsistent (after s event.Wipe)
wipe_keeps s range k h =
    let r = wipe_is s.collector.sweep h in wipe_with s r.0 s.collector.sweep range k refl r.1 r.2
