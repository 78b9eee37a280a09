-- Look, Read, Fetch and Keep: a mutator's own part changes, and no word does.
--
-- Look   the mode becomes the control as it is now, so it is not ahead of it; marks go. Nothing is
--        pending, so no write is left with a mode that does not let it.
-- Read   the cell found is live and sealed, since a live cell names it. To an async mutator it is
--        no news to a tracing collector: by the colour of the cell that was read a black cell names
--        it, or a scanned field does, or it is a white cell that is due itself, or the field is
--        doubtful.
-- Fetch  so it is with what a fetch holds. The field has the value that was read, so it is not
--        doubtful by this write.
-- Keep   places are copied with their marks, and none is new.
use Rattle.std.proofs.Common.{◌≡◌, ℕ, Bool, true, false, ◌<◌, inl, inr, length, Option, Some, None}
use Rattle.std.proofs.Common.{[], ◌∷◌, ◌++◌}
use Rattle.std.proofs.Common.{refl, sym, subst, arith, ◌∙◌, ap}
use Rattle.std.proofs.lemmas.Bool.{and_parts, ltb-true, eqb-true, not-false}
use Rattle.std.proofs.lemmas.List.Elements.{All-map, All-push}
use Rattle.cell_words.specs.declared.colours.Colour.TheVariants as colour
use Rattle.cell_words.specs.declared.controls.Stage.{Stage}
use Rattle.cell_words.specs.declared.controls.Stage.TheVariants as stage
use Rattle.cell_words.specs.declared.presences.Status.{Status}
use Rattle.cell_words.specs.declared.presences.Status.TheVariants as status
use Rattle.core_machine.specs.declared.events.Event.TheVariants as event
use Rattle.core_machine.specs.declared.pending.Pending.{Pending}
use Rattle.core_machine.specs.declared.progress.Scanning.{Scanning}
use Rattle.core_machine.specs.Operations.{is_in}
use Rattle.core_machine.specs.State.{State, presence_of, own_of, held_of, colour_of, field_of}
use Rattle.core_machine.specs.State.{target_of}
use Rattle.core_machine.specs.Words.{is_raw_kind, is_box_kind, lets_store}
use Rattle.cell_words.specs.declared.fields.Field.{Field}
use Rattle.cell_words.specs.declared.fields.Field.TheVariants as field
use Rattle.core_machine.specs.InRange.{IsShaped}
use Rattle.core_machine.specs.Next.{can, after}
use Rattle.core_machine.specs.Own.{Own, looked, holding, having_read, having_fetched, keeping}
use Rattle.core_machine.specs.Places.{unmark, found_at, cell_at, holds}
use Rattle.core_machine.specs.Conditions.{CanFetch}
use Rattle.core_machine.proofs.Conditions.{look_needs, read_needs, fetch_needs, keep_needs}
use Rattle.dlg_core.specs.Consistent.{IsConsistent, MarkStands, NoRawBlack, IsCutOff, IsNotDue}
use Rattle.dlg_core.specs.Doubt.{IsPending, IsDoubtful}
use Rattle.dlg_core.specs.Facts.{status_fits, mode_fits, live, is_open, scanned_count}
use Rattle.dlg_core.proofs.Changes.Own.{own_kept, OwnFits}
use Rattle.dlg_core.proofs.Safety.{live_not_blue}
use Rattle.core_machine.proofs.OneOperation.{inside_there}
use Rattle.dlg_core.proofs.HeldLists.{holds_unmark, none_marked, holds_more, at_place, all_kept}
use Rattle.dlg_core.proofs.HeldLists.{holds_kept, cell_at_more, there_more, holds_still, holds_new}
use Rattle.dlg_core.proofs.CutOff.{outside_either}
use Rattle.dlg_core.proofs.Doubtful.{no_pending, no_doubt}
use Rattle.dlg_core.proofs.Truths.{settled_is}

-- a status that fits a stage fits a look at it
pub look_fits : (now : Stage) (own : Status) → status_fits now own ≡ true
    → mode_fits own now now ≡ true
look_fits stage.Idle status.Async h = refl
look_fits stage.Sync1 status.Async h = refl
look_fits stage.Sync1 status.Sync1 h = refl
look_fits stage.Clear status.Sync1 h = refl
look_fits stage.Sync2 status.Sync1 h = refl
look_fits stage.Sync2 status.Sync2 h = refl
look_fits stage.Trace status.Async h = refl
look_fits stage.Trace status.Sync2 h = refl
look_fits stage.Sweep status.Async h = refl
look_fits _ _ h = absurd cc

pub look_keeps : (s : State) (i : ℕ) → IsShaped s → IsConsistent s → can s (event.Look i) ≡ true
    → IsConsistent (after s (event.Look i))
look_keeps s i range k h =
    let inside = (look_needs s i h).inside in
    let own = looked (own_of s i) s.control in
    let settled = settled_is (own_of s i).pending (look_needs s i h).nothing_pending in
    own_kept s i own k record {
      mode = record {
        fits = look_fits s.control.stage (presence_of s i).status
            (k.mutators.statuses i (inside_there s range i inside));
        position = (λ _ _. omega arith);
      };
      out = (λ o. absurd cc);
      marks = (λ m. none_marked s.colours (held_of s i));
      held_live = All-map
          (λ place. live s.colours s.control s.collector.sweep place.cell ≡ true) unmark
          (held_of s i) (k.cells.held_live i);
      raw = (λ c raw h. sym (holds_unmark (held_of s i) c) ∙ h);
      raw_not_black = (λ sync2. All-map (NoRawBlack s.colours s.rows) unmark (held_of s i)
          (k.cells.raw_not_black i sync2));
      due = (λ now async set cut old. All-map (λ place. set place.cell ≡ false) unmark (held_of s i)
          (old.held i async));
      pendings = no_pending (presence_of s i).status own s.rows settled;
      doubts = (λ c f x n doubt. absurd (no_doubt own c f x settled doubt));
    }

-- Read.

-- the part as it is
pub same_fits : (s : State) (i : ℕ) → IsConsistent s → OwnFits s i (own_of s i)
same_fits s i k = record {
  mode = k.mutators.modes i;
  out = k.mutators.out i;
  marks = k.mutators.marks i;
  held_live = k.cells.held_live i;
  raw = (λ c raw h. h);
  raw_not_black = k.cells.raw_not_black i;
  due = (λ now async set cut old. old.held i async);
  pendings = k.cells.pendings i;
  doubts = (λ c f x n doubt. doubt);
}

-- a field that is not open is a scanned field of the cell under scan
pub shut_is_scanned : (scan : Option Scanning) (c f : ℕ) → is_open scan c f ≡ false
    → (x : Scanning) × (scan ≡ Some x) × (c ≡ x.cell) × (f < scanned_count x)
shut_is_scanned None c f h = absurd cc
shut_is_scanned (Some x) c f h =
    let r = and_parts _ _ (not-false _ h) in
    (x, refl, eqb-true c x.cell r.0, ltb-true f (scanned_count x) r.1)

-- what a field of a cell names is not cut off, where the cell is live and is itself not cut off
pub named_not_cut : (s : State) (set : ℕ → Bool) (b w f : ℕ)
    → IsCutOff s.owns s.colours s.rows s.collector.scan set
    → IsNotDue s.presences s.owns s.colours s.rows s.collector.scan set
    → live s.colours s.control s.collector.sweep b ≡ true → set b ≡ false
    → field_of s b f ≡ field.Cell w
    → set w ≡ false
named_not_cut s set b w f cut old alive here e =
    outside_either (IsDoubtful s.owns b f (field.Cell w)) (set w)
    (λ doubt. old.doubtful b w f doubt e)
    (λ sure. elim (colour_of s b) as (λ x. colour_of s b ≡ x → set w ≡ false) [
      | colour.Blue ↦ λ is. absurd (live_not_blue (colour_of s b) _ alive is)
      | colour.White ↦ λ is. cut.outside b w f is here e sure
      | colour.Gray ↦ λ is. elim (is_open s.collector.scan b f)
          as (λ o. is_open s.collector.scan b f ≡ o → set w ≡ false) [
            | true ↦ λ unread. cut.gray b w f is unread e sure
            | false ↦ λ shut. let r = shut_is_scanned s.collector.scan b f shut in
                old.scanned r.0 w f r.1 r.3 (subst (λ c. field_of s c f ≡ field.Cell w) r.2 e)
          ] refl
      | colour.Black ↦ λ is. old.black b w f is e
    ] refl)

-- the part with a live and sealed cell more, where it is not cut off from an async mutator
pub holding_fits : (s : State) (i w : ℕ) → IsConsistent s → is_in s i ≡ true
    → live s.colours s.control s.collector.sweep w ≡ true → is_raw_kind (field_of s w 5) ≡ false
    → (s.control.stage ≡ stage.Trace → (presence_of s i).status ≡ status.Async → (set : ℕ → Bool)
    → IsCutOff s.owns s.colours s.rows s.collector.scan set
    → IsNotDue s.presences s.owns s.colours s.rows s.collector.scan set → set w ≡ false)
    → OwnFits s i (holding (own_of s i) w)
holding_fits s i w k inside alive whole due = record {
  mode = k.mutators.modes i;
  out = (λ o. absurd cc);
  marks = (λ m. All-push (MarkStands s.colours) (held_of s i) (found_at w) (k.mutators.marks i m)
      (λ h. absurd cc));
  held_live = All-push (λ place. live s.colours s.control s.collector.sweep place.cell ≡ true)
      (held_of s i) (found_at w) (k.cells.held_live i) alive;
  raw = (λ c raw h. elim (holds_more (held_of s i) w c h) [
    | inl held ↦ held
    | inr same ↦ let sealed : is_raw_kind (field_of s c 5) ≡ false
        = subst (λ n. is_raw_kind (field_of s n 5) ≡ false) same whole in absurd cc
  ]);
  raw_not_black = (λ sync2. All-push (NoRawBlack s.colours s.rows) (held_of s i) (found_at w)
      (k.cells.raw_not_black i sync2) (λ h. absurd cc));
  due = (λ now async set cut old. All-push (λ place. set place.cell ≡ false) (held_of s i)
      (found_at w) (old.held i async)
      (due now async set cut old));
  pendings = (λ write e. let r = k.cells.pendings i write e in record {
    lets = r.lets;
    there = there_more (held_of s i) w write.place r.there;
    payload = r.payload;
    box = ap (λ c. is_box_kind (field_of s c 5)) (cell_at_more (held_of s i) w write.place r.there)
        ∙ r.box;
    found_held = (λ c is. holds_still (held_of s i) w c (r.found_held c is));
  });
  doubts = (λ c f x n doubt. record {
    write = doubt.write;
    begun = doubt.begun;
    cell = sym (cell_at_more (held_of s i) w doubt.write.place
        (k.cells.pendings i doubt.write doubt.begun).there)
        ∙ doubt.cell;
    same = doubt.same;
    changed = doubt.changed;
  });
}

-- the part after a read, by the field that was found
pub read_fits : (s : State) (i place f : ℕ) (found : Field) → IsConsistent s → is_in s i ≡ true
    → place < length (held_of s i) → field_of s (target_of s i place) f ≡ found
    → OwnFits s i (having_read (own_of s i) found)
read_fits s i place f field.Null k inside lt e = same_fits s i k
read_fits s i place f (field.Num n) k inside lt e = same_fits s i k
read_fits s i place f (field.Cell w) k inside lt e =
    let b = target_of s i place in
    let alive : live s.colours s.control s.collector.sweep b ≡ true
    = at_place (λ c. live s.colours s.control s.collector.sweep c ≡ true) (held_of s i) place lt
    (k.cells.held_live i) in
    let named = k.cells.names_live b w f alive e in
    holding_fits s i w k inside named.0 named.1 (λ now async set cut old.
    named_not_cut s set b w f cut old alive
    (at_place (λ c. set c ≡ false) (held_of s i) place lt (old.held i async)) e)

pub read_keeps : (s : State) (i place f : ℕ) → IsConsistent s
    → can s (event.Read i place f) ≡ true → IsConsistent (after s (event.Read i place f))
read_keeps s i place f k h =
    let needs = read_needs s i place f h in
    own_kept s i (having_read (own_of s i) (field_of s (target_of s i place) f)) k
    (read_fits s i place f (field_of s (target_of s i place) f) k needs.inside needs.there refl)

-- Fetch.

-- What a read leaves of the part, whatever it found.

pub mode_read : (own : Own) (found : Field) → (having_read own found).mode ≡ own.mode
mode_read own field.Null = refl
mode_read own (field.Num n) = refl
mode_read own (field.Cell w) = refl

pub there_read : (own : Own) (found : Field) (place : ℕ) → place < length own.held
    → place < length (having_read own found).held
there_read own field.Null place lt = lt
there_read own (field.Num n) place lt = lt
there_read own (field.Cell w) place lt = there_more own.held w place lt

pub cell_at_read : (own : Own) (found : Field) (place : ℕ) → place < length own.held
    → cell_at (having_read own found).held place ≡ cell_at own.held place
cell_at_read own field.Null place lt = refl
cell_at_read own (field.Num n) place lt = refl
cell_at_read own (field.Cell w) place lt = cell_at_more own.held w place lt

-- the cell that was read is held
pub read_held : (own : Own) (found : Field) (c : ℕ) → found ≡ field.Cell c
    → holds (having_read own found).held c ≡ true
read_held own (field.Cell w) c e =
    let same : w ≡ c = cc in
    subst (λ d. holds (own.held ++ found_at w ∷ []) d ≡ true) same (holds_new own.held w)
read_held own _ c e = absurd cc

pub fetch_fits : (s : State) (i place f : ℕ) (found : Field) → IsConsistent s
    → CanFetch s i place f → field_of s (target_of s i place) f ≡ found
    → OwnFits s i (having_fetched (own_of s i) place f found)
fetch_fits s i place f found k needs e =
    let own = own_of s i in
    let reads = read_fits s i place f found k needs.inside needs.there e in
    let write : Pending = record { place = place; f = f; found = found } in
    let own_status = (presence_of s i).status in
    record {
      mode = reads.mode;
      out = (λ o. absurd (let inside = needs.inside in cc));
      marks = reads.marks;
      held_live = reads.held_live;
      raw = reads.raw;
      raw_not_black = reads.raw_not_black;
      due = reads.due;
      pendings = (λ other is.
          let same : write ≡ other = cc in
          subst (λ w. IsPending own_status (having_fetched own place f found) s.rows w) same
          record {
            lets = ap (lets_store own_status) (mode_read own found) ∙ needs.lets;
            there = there_read own found place needs.there;
            payload = (let payload = needs.payload in omega arith);
            box = ap (λ c. is_box_kind (field_of s c 5)) (cell_at_read own found place needs.there)
                ∙ needs.box;
            found_held = (λ c is_cell. read_held own found c is_cell);
          });
      doubts = (λ c g x n doubt. absurd (
          let is : write ≡ doubt.write = (let begun = doubt.begun in cc) in
          let here : target_of s i place ≡ c
          = sym (cell_at_read own found place needs.there)
          ∙ ap (λ w. cell_at (having_read own found).held w.place) is ∙ doubt.cell in
          let there : f ≡ g = ap (λ w. w.f) is ∙ doubt.same in
          doubt.changed (sym (ap (λ w. w.found) is) ∙ sym e
          ∙ ap (λ d. field_of s d f) here ∙ ap (λ h. field_of s c h) there ∙ n)));
    }

pub fetch_keeps : (s : State) (i place f : ℕ) → IsConsistent s
    → can s (event.Fetch i place f) ≡ true → IsConsistent (after s (event.Fetch i place f))
fetch_keeps s i place f k h =
    let found = field_of s (target_of s i place) f in
    own_kept s i (having_fetched (own_of s i) place f found) k
    (fetch_fits s i place f found k (fetch_needs s i place f h) refl)

-- Keep.

pub keep_keeps : (s : State) (i count from copies : ℕ) → IsConsistent s
    → can s (event.Keep i count from copies) ≡ true
    → IsConsistent (after s (event.Keep i count from copies))
keep_keeps s i count from copies k h =
    let own = keeping (own_of s i) count from copies in
    let settled = settled_is (own_of s i).pending
    (keep_needs s i count from copies h).nothing_pending in
    own_kept s i own k record {
      mode = k.mutators.modes i;
      out = (λ o. absurd (let inside = (keep_needs s i count from copies h).inside in cc));
      marks = (λ m. all_kept (MarkStands s.colours) (held_of s i) count from copies
          (k.mutators.marks i m));
      held_live = all_kept (λ place. live s.colours s.control s.collector.sweep place.cell ≡ true)
          (held_of s i) count from copies (k.cells.held_live i);
      raw = (λ c raw held. holds_kept (held_of s i) count from copies c held);
      raw_not_black = (λ sync2. all_kept (NoRawBlack s.colours s.rows)
          (held_of s i) count from copies (k.cells.raw_not_black i sync2));
      due = (λ now async set cut old. all_kept (λ place. set place.cell ≡ false)
          (held_of s i) count from copies (old.held i async));
      pendings = no_pending (presence_of s i).status own s.rows settled;
      doubts = (λ c f x n doubt. absurd (no_doubt own c f x settled doubt));
    }
