-- Claim: a blue cell takes the colour of the mode and joins the claimer's held list.
--
-- The cell was blue, so it was not live: nobody held it, it is not the anchor, no live cell named
-- it, and its fields are null, so it names nothing.
--
-- held_live      from the position on it is born black, in every mode that can still be held.
-- cleared        in Clear and Sync2 nobody is async, so it is born white.
-- raw_not_black  so it is in sync2.
-- traced         a set that is cut off after was cut off before without the cell, and the cell is
--                not due: to an async mutator it is born black, and nobody else is told of it. No
--                write is pending, so no doubt is new.
use Rattle.std.proofs.Common.{◌≡◌, ◌≢◌, ◌==◌, ◌&&◌, ◌⊎◌, if◌then◌else◌, inl, inr, ℕ, Bool, true}
use Rattle.std.proofs.Common.{false, not, nat_lt, [], ◌∷◌, ◌++◌, length, Some, None, is_some, ◌+◌}
use Rattle.std.proofs.Common.{◌<◌, ◌≤◌, refl, sym, subst, ◌∙◌, ap, arith, eq-eqb}
use Rattle.std.specs.Prelude.{slice_set}
use Rattle.std.proofs.Math.ListN.{set}
use Rattle.std.specs.List.{All}
use Rattle.std.proofs.lemmas.Bool.{and_parts, and_cases, ltb-true, eqb-true, not-false, not-true}
use Rattle.std.proofs.lemmas.List.{get_or-set_same, set-get_or}
use Rattle.std.proofs.lemmas.List.Elements.{All-push, All-weaker}
use Rattle.cell_words.specs.declared.colours.Colour.{Colour}
use Rattle.cell_words.specs.declared.colours.Colour.TheVariants as colour
use Rattle.cell_words.specs.declared.controls.Control.{Control}
use Rattle.cell_words.specs.declared.controls.Stage.{Stage}
use Rattle.cell_words.specs.declared.controls.Stage.TheVariants as stage
use Rattle.cell_words.specs.declared.fields.Field.TheVariants as field
use Rattle.cell_words.specs.declared.presences.Status.{Status}
use Rattle.cell_words.specs.declared.presences.Status.TheVariants as status
use Rattle.cell_words.specs.Modes.{claim_colour_of, async_claim_colour_of}
use Rattle.core_machine.specs.declared.events.Event.TheVariants as event
use Rattle.core_machine.specs.declared.pending.Pending.{Pending}
use Rattle.core_machine.specs.declared.progress.Sweeping.{Sweeping}
use Rattle.core_machine.specs.Operations.{is_in}
use Rattle.core_machine.specs.State.{State, colour_of, field_of, presence_in, presence_of, own_in}
use Rattle.core_machine.specs.State.{own_of, held_of}
use Rattle.core_machine.specs.Words.{claimed, born_colour}
use Rattle.core_machine.specs.InRange.{IsShaped}
use Rattle.core_machine.specs.Next.{can, after}
use Rattle.core_machine.specs.Own.{Own, no_own, having_claimed}
use Rattle.core_machine.specs.Places.{holds, found_at}
use Rattle.core_machine.proofs.Conditions.{claim_needs}
use Rattle.dlg_core.specs.Consistent.{IsConsistent, HoldsNothing, IsCutOff, IsNotDue, MarkStands}
use Rattle.dlg_core.specs.Consistent.{NoRawBlack}
use Rattle.dlg_core.specs.Doubt.{IsPending, IsInDoubt, IsDoubtful}
use Rattle.dlg_core.specs.Facts.{is_live, live, unswept, status_fits, async_fits, IsStaleMode}
use Rattle.dlg_core.specs.Facts.{IsStale, is_cleared, marks_count}
use Rattle.dlg_core.proofs.Each.{colour_each, own_each, all_held, all_from_held, all_both}
use Rattle.dlg_core.proofs.Doubtful.{no_pending, no_doubt, doubtful_live}
use Rattle.dlg_core.proofs.Truths.{async_mode, settled_is}
use Rattle.core_machine.proofs.OneOperation.{inside_there}
use Rattle.dlg_core.proofs.HeldLists.{holds_more}
use Rattle.dlg_core.proofs.Changes.Live.{unswept_where}

-- the part with a new cell more
abbrev pub with_claim : Own → ℕ → Own
with_claim own c =
    record own { held = own.held ++ found_at c ∷ []; mode = None; claims = own.claims + 1 }

abbrev pub with_born : State → ℕ → ℕ → Colour → State
with_born s i c y = record s {
  colours = slice_set s.colours c y;
  owns = slice_set s.owns i (with_claim (own_of s i) c);
}

-- what the colour of a new cell owes
pub record BornFits (s : State) (i c : ℕ) (y : Colour) : Type 0 where
  pub not_blue : y ≢ colour.Blue
  pub not_gray : y ≢ colour.Gray
  pub alive : is_live y (unswept s.control s.collector.sweep c) ≡ true
  pub cleared : is_cleared s.control.stage s.collector.cursor c ≡ true → y ≢ colour.Black
  pub sync2 : (presence_of s i).status ≡ status.Sync2 → y ≢ colour.Black
  pub traced : s.control.stage ≡ stage.Trace → (presence_of s i).status ≡ status.Async
      → y ≢ colour.White

-- The claim, whatever colour is born.

-- a cell that is not live is not one that is
pub apart : (s : State) (c d : ℕ) → live s.colours s.control s.collector.sweep c ≡ false
    → live s.colours s.control s.collector.sweep d ≡ true → d ≢ c
apart s c d dead alive e =
    absurd (let h : live s.colours s.control s.collector.sweep c ≡ true
    = subst (λ n. live s.colours s.control s.collector.sweep n ≡ true) e alive in cc)

-- the set without one cell
abbrev pub without : (ℕ → Bool) → ℕ → ℕ → Bool
without set c d = set d && not (d == c)

pub in_without : (set : ℕ → Bool) (c d : ℕ) → without set c d ≡ true → (set d ≡ true) × (d ≢ c)
in_without set c d h =
    let r = and_parts _ _ h in (
      r.0,
      λ e. absurd
          (let other = not-true (d == c) r.1 in let same : (d == c) ≡ true = eq-eqb d c e in cc),
    )

pub out_of_without : (set : ℕ → Bool) (c d : ℕ) → without set c d ≡ false → d ≢ c → set d ≡ false
out_of_without set c d h ne = elim (and_cases (set d) (not (d == c)) h) [
  | inl out ↦ out
  | inr same ↦ absurd (ne (eqb-true d c (not-false (d == c) same)))
]

pub out_before : (set : ℕ → Bool) (c d : ℕ) → set d ≡ false → without set c d ≡ false
out_before set c d h = ap (λ b. b && not (d == c)) h

pub born_kept : (s : State) (i c : ℕ) (y : Colour) → IsConsistent s → is_in s i ≡ true
    → (own_of s i).pending ≡ None → colour_of s c ≡ colour.Blue → c < length s.colours
    → BornFits s i c y → IsConsistent (with_born s i c y)
born_kept s i c y k inside settled blue lt fits =
    let t = with_born s i c y in
    let dead : live s.colours s.control s.collector.sweep c ≡ false
    = ap (λ x. is_live x (unswept s.control s.collector.sweep c)) blue in
    let null : (f : ℕ) → field_of s c f ≡ field.Null = (λ f. k.cells.blue_null c f blue) in
    let names_nothing : (d f : ℕ)
    → field_of s c f ≢ field.Cell d = (λ d f e. absurd (let n = null f in cc)) in
    let is : (x : Colour) → x ≢ colour.Blue → (d : ℕ) → colour_of s d ≡ x → colour_of t d ≡ x
    = (λ x other d. colour_each (λ e z. colour_of s e ≡ x → z ≡ x) s.colours c y
    (λ h. absurd (other (sym h ∙ blue))) (λ e h. h) d) in
    let was : (x : Colour) → (d : ℕ) → d ≢ c → colour_of t d ≡ x → colour_of s d ≡ x
    = (λ x d. colour_each (λ e z. e ≢ c → z ≡ x → colour_of s e ≡ x) s.colours c y
    (λ ne h. absurd (ne refl)) (λ e ne h. h) d) in
    let live_is : (d : ℕ) → live s.colours s.control s.collector.sweep d ≡ true
    → live t.colours s.control s.collector.sweep d ≡ true
    = colour_each
    (λ e z. live s.colours s.control s.collector.sweep e ≡ true
    → is_live z (unswept s.control s.collector.sweep e) ≡ true)
    s.colours c y (λ _. fits.alive) (λ e h. h) in
    let here : colour_of t c ≡ y = get_or-set_same s.colours c y colour.Blue lt in
    let live_was : (d : ℕ) → d ≢ c → live t.colours s.control s.collector.sweep d ≡ true
    → live s.colours s.control s.collector.sweep d ≡ true
    = colour_each
    (λ e z. e ≢ c → is_live z (unswept s.control s.collector.sweep e) ≡ true
    → live s.colours s.control s.collector.sweep e ≡ true)
    s.colours c y (λ ne h. absurd (ne refl)) (λ e ne h. h) in
    let held_apart : (j d : ℕ) → holds (own_in s.owns j).held d ≡ true → d ≢ c
    = (λ j d h. all_held (λ e. e ≢ c) (own_in s.owns j).held d
    (All-weaker (λ p. live s.colours s.control s.collector.sweep p.cell ≡ true) (λ p. p.cell ≢ c)
    (λ p l. apart s c p.cell dead l) (own_in s.owns j).held (k.cells.held_live j)) h) in
    let live_held : (j : ℕ) → All (λ p. p.cell ≢ c) (own_in s.owns j).held
    = (λ j. All-weaker (λ p. live s.colours s.control s.collector.sweep p.cell ≡ true)
    (λ p. p.cell ≢ c)
    (λ p l. apart s c p.cell dead l) (own_in s.owns j).held (k.cells.held_live j)) in
    let marks_still : (j : ℕ)
    → marks_count s.control.stage (presence_in s.presences j).status ≡ true
    → All (MarkStands t.colours) (own_in s.owns j).held
    = (λ j m. all_both (MarkStands s.colours) (λ p. p.cell ≢ c) (MarkStands t.colours)
    (own_in s.owns j).held
    (λ p h ne marked white. h marked (was colour.White p.cell ne white)) (k.mutators.marks j m)
    (live_held j)) in
    let raw_still : (j : ℕ) → (presence_in s.presences j).status ≡ status.Sync2
    → All (NoRawBlack t.colours s.rows) (own_in s.owns j).held
    = (λ j sync2. all_both (NoRawBlack s.colours s.rows) (λ p. p.cell ≢ c)
    (NoRawBlack t.colours s.rows) (own_in s.owns j).held
    (λ p h ne raw black. h raw (was colour.Black p.cell ne black)) (k.cells.raw_not_black j sync2)
    (live_held j)) in
    let held_still : (set : ℕ → Bool)
    → IsNotDue s.presences s.owns s.colours s.rows s.collector.scan (without set c) → (j : ℕ)
    → (presence_in s.presences j).status ≡ status.Async
    → All (λ p. set p.cell ≡ false) (own_in s.owns j).held
    = (λ set old j async. all_both (λ p. without set c p.cell ≡ false) (λ p. p.cell ≢ c)
    (λ p. set p.cell ≡ false) (own_in s.owns j).held
    (λ p h ne. out_of_without set c p.cell h ne) (old.held j async) (live_held j)) in
    let held_was : (j d : ℕ) → holds (own_in t.owns j).held d ≡ true
    → (holds (own_in s.owns j).held d ≡ true) ⊎ ((j ≡ i) × (d ≡ c))
    = (λ j d. own_each
    (λ n o. holds o.held d ≡ true → (holds (own_in s.owns n).held d ≡ true)
    ⊎ ((n ≡ i) × (d ≡ c))) s.owns i
    (with_claim (own_of s i) c)
    (λ h. elim (holds_more (held_of s i) c d h) [
      | inl old ↦ inl old
      | inr new ↦ inr (refl, sym new)
    ])
    (λ n h. inl h) j) in
    let doubt_was : (d e f : ℕ) → IsDoubtful t.owns d f (field.Cell e)
    → IsDoubtful s.owns d f (field.Cell e)
    = (λ d e f is. record {
      mutator = is.mutator;
      doubt = own_each
          (λ j o. IsInDoubt o d f (field.Cell e) → IsInDoubt (own_in s.owns j) d f (field.Cell e))
          s.owns i (with_claim (own_of s i) c)
          (λ doubt. absurd
          (no_doubt (with_claim (own_of s i) c) d f (field.Cell e) settled doubt))
          (λ j doubt. doubt) is.mutator is.doubt;
    }) in
    let all_new : (P : ℕ → Type 0) → P c → ((j d : ℕ) → holds (own_in s.owns j).held d ≡ true → P d)
    → (j : ℕ)
    → All (λ p. P p.cell) (own_in t.owns j).held
    = (λ P new old j. all_from_held P (own_in t.owns j).held (λ d h. elim (held_was j d h) [
      | inl before ↦ old j d before
      | inr fresh ↦ subst P (sym fresh.1) new
    ])) in
    record {
      mutators = record {
        statuses = k.mutators.statuses;
        answered = k.mutators.answered;
        modes = own_each
            (λ j o. IsStaleMode (presence_in s.presences j).status o.mode s.control) s.owns i
            (with_claim (own_of s i) c) tt k.mutators.modes;
        out = own_each
            (λ j o. (presence_in s.presences j).inside ≡ false → HoldsNothing o)
            s.owns i (with_claim (own_of s i) c)
            (λ o. absurd cc) k.mutators.out;
        marks = own_each
            (λ j o. marks_count s.control.stage (presence_in s.presences j).status ≡ true
            → All (MarkStands t.colours) o.held)
            s.owns i (with_claim (own_of s i) c)
            (λ m. All-push (MarkStands t.colours) (held_of s i) (found_at c) (marks_still i m)
            (λ h. absurd cc))
            (λ j m. marks_still j m);
      };
      cells = record {
        anchor_box = k.cells.anchor_box;
        kinds = k.cells.kinds;
        blue_null = (λ d f b. colour_each
            (λ e z. z ≡ colour.Blue → field_of s e f ≡ field.Null) s.colours c y
            (λ e. absurd (fits.not_blue e)) (λ e h. k.cells.blue_null e f h) d b);
        anchor_live = live_is 0 k.cells.anchor_live;
        held_live = all_new (λ d. live t.colours s.control s.collector.sweep d ≡ true)
            (subst (λ z. is_live z (unswept s.control s.collector.sweep c) ≡ true)
            (sym here) fits.alive)
            (λ j d h. live_is d
            (all_held (λ e. live s.colours s.control s.collector.sweep e ≡ true)
            (own_in s.owns j).held d (k.cells.held_live j) h));
        child_live = (λ d e. live_is d (k.cells.child_live d e));
        names_live = (λ d e f l n.
            let other : d ≢
            c = (λ same. names_nothing e f (subst (λ m. field_of s m f ≡ field.Cell e) same n))
            in
            let r = k.cells.names_live d e f (live_was d other l) n in (live_is e r.0, r.1));
        raw_once = (λ a b d raw ha hb. elim (held_was a d ha) [
          | inl olda ↦ elim (held_was b d hb) [
            | inl oldb ↦ k.cells.raw_once a b d raw olda oldb
            | inr newb ↦ absurd (held_apart a d olda newb.1)
          ]
          | inr newa ↦ elim (held_was b d hb) [
            | inl oldb ↦ absurd (held_apart b d oldb newa.1)
            | inr newb ↦ newa.0 ∙ sym newb.0
          ]
        ]);
        raw_not_black = own_each
            (λ j o. (presence_in s.presences j).status ≡ status.Sync2
            → All (NoRawBlack t.colours s.rows) o.held)
            s.owns i (with_claim (own_of s i) c)
            (λ sync2. All-push (NoRawBlack t.colours s.rows) (held_of s i) (found_at c)
            (raw_still i sync2)
            (λ raw black. fits.sync2 sync2 (sym here ∙ black)))
            (λ j sync2. raw_still j sync2);
        pendings = own_each
            (λ j o. (write : Pending) → o.pending ≡ Some write
            → IsPending (presence_in s.presences j).status o s.rows write) s.owns i
            (with_claim (own_of s i) c)
            (no_pending (presence_of s i).status (with_claim (own_of s i) c) s.rows settled)
            k.cells.pendings;
      };
      tracing = record {
        cleared = (λ d h. colour_each
            (λ e z. is_cleared s.control.stage s.collector.cursor e ≡ true → z ≢ colour.Black)
            s.colours c y
            fits.cleared k.tracing.cleared d h);
        anchor_marked = (λ h white. k.tracing.anchor_marked h
            (was colour.White 0 (apart s c 0 dead k.cells.anchor_live) white));
        traced = (λ now set cut.
            let before : IsCutOff s.owns s.colours s.rows s.collector.scan (without set c)
            = record {
              white = (λ d h. let r = in_without set c d h in was colour.White d r.1
                  (cut.white d r.0));
              child = (λ d h. out_before set c d (cut.child d h));
              gray = (λ d e f gray unread n sure. out_before set c e
                  (cut.gray d e f (is colour.Gray (λ g. cc) d gray) unread n
                  (λ doubt. sure (doubt_was d e f doubt))));
              outside = (λ d e f white out n sure. out_before set c e
                  (cut.outside d e f (is colour.White (λ g. cc) d white)
                  (out_of_without set c d out
                  (λ same. absurd
                  (let b : colour_of s d
                  ≡ colour.Blue = subst (λ m. colour_of s m ≡ colour.Blue)
                  (sym same) blue in cc))) n (λ doubt. sure (doubt_was d e f doubt))));
            } in
            let old = k.tracing.traced now (without set c) before in
            let named_apart : (d e f : ℕ) → live s.colours s.control s.collector.sweep d ≡ true
            → field_of s d f ≡ field.Cell e → e ≢ c
            = (λ d e f l n. apart s c e dead (k.cells.names_live d e f l n).0) in
            record {
              black = (λ d e f black n.
                  let other : d ≢
                  c = (λ same. names_nothing e f
                  (subst (λ m. field_of s m f ≡ field.Cell e) same n)) in
                  let b = was colour.Black d other black in
                  out_of_without set c e (old.black d e f b n)
                  (named_apart d e f
                  (subst (λ z. is_live z (unswept s.control s.collector.sweep d) ≡ true)
                  (sym b) refl) n));
              scanned = (λ x e f scan below n. out_of_without set c e
                  (old.scanned x e f scan below n)
                  (named_apart x.cell e f
                  (subst (λ z. is_live z (unswept s.control s.collector.sweep x.cell) ≡ true)
                  (sym (k.tracing.scans x scan).gray) refl) n));
              held = own_each
                  (λ j o. (presence_in s.presences j).status ≡ status.Async
                  → All (λ p. set p.cell ≡ false) o.held)
                  s.owns i (with_claim (own_of s i) c)
                  (λ async. All-push (λ p. set p.cell ≡ false) (held_of s i) (found_at c)
                  (held_still set old i async)
                  (elim (set c) as (λ b. set c ≡ b → set c ≡ false) [
                    | true ↦ λ in_set. absurd
                        (fits.traced now async (sym here ∙ cut.white c in_set))
                    | false ↦ λ h. h
                  ] refl))
                  (λ j async. held_still set old j async);
              doubtful = (λ d e f doubt n.
                  let before_doubt = doubt_was d e f doubt in
                  out_of_without set c e (old.doubtful d e f before_doubt n)
                  (named_apart d e f (doubtful_live s d f (field.Cell e) k before_doubt) n));
            });
        clean_pass = (λ now clean d gray.
            let r = k.tracing.clean_pass now clean d
            (was colour.Gray d
            (λ same. fits.not_gray
            (sym here ∙ subst (λ m. colour_of t m ≡ colour.Gray) same gray)) gray) in
            (r.0, r.1, is colour.Gray (λ g. cc) r.0 r.2));
        pass_waits = k.tracing.pass_waits;
        scans = (λ x e. let r = k.tracing.scans x e in record {
          traces = r.traces;
          answers = r.answers;
          gray = is colour.Gray (λ g. cc) x.cell r.gray;
          unclean = r.unclean;
        });
      };
      sweep = record {
        unswept = (λ d ahead. colour_each
            (λ e z. unswept s.control s.collector.sweep e ≡ true → z ≢ colour.Gray) s.colours c y
            (λ _. fits.not_gray) k.sweep.unswept d ahead);
        wipes = (λ n e. let r = k.sweep.wipes n e in record {
          white = is colour.White (λ g. cc) s.control.position r.white;
          null = r.null;
        });
        found_black = (λ e. is colour.Black (λ g. cc) s.control.position (k.sweep.found_black e));
      };
    }

-- The colour that is born.

pub async_born : (looked : Stage) (position c : ℕ)
    → (async_claim_colour_of looked position c ≡ colour.White)
    ⊎ (async_claim_colour_of looked position c ≡ colour.Black)
async_born stage.Idle position c = inl refl
async_born stage.Sync1 position c = inl refl
async_born stage.Clear position c = inl refl
async_born stage.Sync2 position c = inl refl
async_born stage.Trace position c = inr refl
async_born stage.Sweep position c =
    elim (nat_lt c position)
    as (λ b. ((if b then colour.White else colour.Black) ≡ colour.White)
    ⊎ ((if b then colour.White else colour.Black) ≡ colour.Black)) [
      | true ↦ inl refl
      | false ↦ inr refl
    ]

pub white_or_black : (own : Status) (m : Control) (c : ℕ)
    → (claim_colour_of own m c ≡ colour.White) ⊎ (claim_colour_of own m c ≡ colour.Black)
white_or_black status.Async m c = async_born m.stage m.position c
white_or_black status.Sync1 m c = inl refl
white_or_black status.Sync2 m c = inl refl

-- to an async mutator an unswept cell is born black
pub unswept_born : (looked : Stage) (position here c : ℕ) → async_fits looked stage.Sweep ≡ true
    → (looked ≡ stage.Sweep → position ≤ here) → here ≤ c
    → async_claim_colour_of looked position c ≡ colour.Black
unswept_born stage.Trace position here c fits stale ahead = refl
unswept_born stage.Sweep position here c fits stale ahead =
    let le = stale refl in
    elim (nat_lt c position)
    as (λ b. nat_lt c position ≡ b → (if b then colour.White else colour.Black) ≡ colour.Black) [
      | true ↦ λ lt. absurd (let below = ltb-true c position lt in omega arith)
      | false ↦ λ h. refl
    ] refl
unswept_born _ position here c fits stale ahead = absurd cc

pub ahead_black : (own : Status) (m now : Control) (c : ℕ) → IsStale own m now
    → status_fits now.stage own ≡ true
    → now.stage ≡ stage.Sweep → now.position ≤ c → claim_colour_of own m c ≡ colour.Black
ahead_black status.Async m now c stale fits sweeps ahead =
    unswept_born m.stage m.position now.position c
    (subst (λ x. async_fits m.stage x ≡ true) sweeps stale.fits)
    (λ e. stale.position e sweeps) ahead
ahead_black status.Sync1 m now c stale fits sweeps ahead =
    absurd (let h : status_fits stage.Sweep status.Sync1
    ≡ true = subst (λ x. status_fits x status.Sync1 ≡ true) sweeps fits in cc)
ahead_black status.Sync2 m now c stale fits sweeps ahead =
    absurd (let h : status_fits stage.Sweep status.Sync2
    ≡ true = subst (λ x. status_fits x status.Sync2 ≡ true) sweeps fits in cc)

pub born_alive : (own : Status) (m now : Control) (sweep : Sweeping) (c : ℕ) → IsStale own m now
    → status_fits now.stage own ≡ true
    → is_live (claim_colour_of own m c) (unswept now sweep c) ≡ true
born_alive own m now sweep c stale fits =
    elim (unswept now sweep c)
    as (λ b. unswept now sweep c ≡ b → is_live (claim_colour_of own m c) b ≡ true) [
      | false ↦ λ h. elim (white_or_black own m c) [
        | inl white ↦ subst (λ x. is_live x false ≡ true) (sym white) refl
        | inr black ↦ subst (λ x. is_live x false ≡ true) (sym black) refl
      ]
      | true ↦ λ h. let r = unswept_where now sweep c h in
          subst (λ x. is_live x true ≡ true) (sym (ahead_black own m now c stale fits r.0 r.1)) refl
    ] refl

-- where cells are cleared nobody is async
pub cleared_not_async : (now : Stage) (cursor c : ℕ) (own : Status) → is_cleared now cursor c ≡ true
    → status_fits now own ≡ true → own ≢ status.Async
cleared_not_async stage.Clear cursor c own h fits e =
    absurd (let g : status_fits stage.Clear status.Async
    ≡ true = subst (λ x. status_fits stage.Clear x ≡ true) e fits in cc)
cleared_not_async stage.Sync2 cursor c own h fits e =
    absurd (let g : status_fits stage.Sync2 status.Async
    ≡ true = subst (λ x. status_fits stage.Sync2 x ≡ true) e fits in cc)
cleared_not_async _ cursor c own h fits e = absurd cc

pub not_async_white : (own : Status) (m : Control) (c : ℕ) → own ≢ status.Async
    → claim_colour_of own m c ≡ colour.White
not_async_white status.Async m c other = absurd (other refl)
not_async_white status.Sync1 m c other = refl
not_async_white status.Sync2 m c other = refl

pub traced_black : (own : Status) (m now : Control) (c : ℕ) → IsStale own m now
    → now.stage ≡ stage.Trace → own ≡ status.Async
    → claim_colour_of own m c ≡ colour.Black
traced_black status.Async m now c stale trace e =
    let same : m.stage
    ≡ stage.Trace = async_mode m.stage
    (subst (λ x. async_fits m.stage x ≡ true) trace stale.fits) in
    subst (λ x. async_claim_colour_of x m.position c ≡ colour.Black) (sym same) refl
traced_black _ m now c stale trace e = absurd cc

pub born_fits : (s : State) (i c : ℕ) (m : Control) → IsShaped s → IsConsistent s → is_in s i ≡ true
    → (own_of s i).mode ≡ Some m → BornFits s i c (claim_colour_of (presence_of s i).status m c)
born_fits s i c m range k inside has =
    let own = (presence_of s i).status in
    let stale : IsStale own m s.control = subst
    (λ x. IsStaleMode own x s.control) has (k.mutators.modes i) in
    let fits = k.mutators.statuses i (inside_there s range i inside) in
    let cases = white_or_black own m c in
    record {
      not_blue = (λ e. elim cases [ inl white ↦ absurd cc | inr black ↦ absurd cc ]);
      not_gray = (λ e. elim cases [ inl white ↦ absurd cc | inr black ↦ absurd cc ]);
      alive = born_alive own m s.control s.collector.sweep c stale fits;
      cleared = (λ h e. absurd
          (let w = not_async_white own m c
          (cleared_not_async s.control.stage s.collector.cursor c own h fits) in cc));
      sync2 = (λ h e. absurd (let w = not_async_white own m c (λ a. absurd cc) in cc));
      traced = (λ now async e. absurd
          (let b = traced_black own m s.control c stale now async in cc));
    }

-- The event.

-- a claim of a cell that is not blue changes nothing
pub claimed_same : (s : State) (i c : ℕ) (x : Colour) → IsConsistent s → colour_of s c ≡ x
    → IsConsistent
    (record s { colours = slice_set s.colours c x; owns = slice_set s.owns i (own_of s i) })
claimed_same s i c x k e =
    let colours_same : slice_set s.colours c x ≡ s.colours
    = subst (λ y. set s.colours c y ≡ s.colours) e (set-get_or s.colours c colour.Blue) in
    let owns_same : slice_set s.owns i (own_of s i) ≡ s.owns = set-get_or s.owns i no_own in
    subst (λ os. IsConsistent (record s { colours = slice_set s.colours c x; owns = os }))
    (sym owns_same)
    (subst (λ cs. IsConsistent (record s { colours = cs })) (sym colours_same) k)

pub claim_at : (s : State) (i c : ℕ) (m : Control) (x : Colour) → IsShaped s → IsConsistent s
    → is_in s i ≡ true → (own_of s i).pending ≡ None
    → c < length s.colours → (own_of s i).mode ≡ Some m → colour_of s c ≡ x
    → IsConsistent (record s {
      colours = slice_set s.colours c (claimed x (claim_colour_of (presence_of s i).status m c));
      owns = slice_set s.owns i (having_claimed (own_of s i) c x);
    })
claim_at s i c m colour.Blue range k inside settled lt has e = born_kept s i c
    (claim_colour_of (presence_of s i).status m c) k inside settled e lt
    (born_fits s i c m range k inside has)
claim_at s i c m colour.White range k inside settled lt has e = claimed_same s i c colour.White k e
claim_at s i c m colour.Gray range k inside settled lt has e = claimed_same s i c colour.Gray k e
claim_at s i c m colour.Black range k inside settled lt has e = claimed_same s i c colour.Black k e

pub claim_keeps : (s : State) (i c : ℕ) → IsShaped s → IsConsistent s
    → can s (event.Claim i c) ≡ true
    → IsConsistent (after s (event.Claim i c))
claim_keeps s i c range k h =
    let needs = claim_needs s i c h in
    let lt : c < length s.colours = subst (λ n. c < n)
    (sym range.cells_fit.colours_fit) needs.cell in
    elim (own_of s i).mode
    as (λ o. (own_of s i).mode ≡ o → is_some o ≡ true → IsConsistent (record s {
      colours = slice_set s.colours c
          (claimed (colour_of s c) (born_colour (presence_of s i).status o c));
      owns = slice_set s.owns i (having_claimed (own_of s i) c (colour_of s c));
    })) [
      | None ↦ λ e none. absurd cc
      | Some m ↦ λ e some. claim_at s i c m (colour_of s c) range k needs.inside
          (settled_is (own_of s i).pending needs.nothing_pending) lt e refl
    ] refl needs.mode
