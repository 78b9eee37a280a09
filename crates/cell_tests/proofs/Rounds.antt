-- What each call of a round leaves.
use Rattle.std.proofs.Common.{◌≡◌, ◌∙◌, ◌<◌, ◌≤◌, ◌+◌, ◌==◌, ◌∷◌, ◌++◌, ℕ, [], Bool, true, false}
use Rattle.std.proofs.Common.{Option, Some, None, if◌then◌else◌, ap, refl, arith, length}
use Rattle.std.proofs.lemmas.Bool.{eq-eqb}
use Rattle.cell_tests.specs.Counting.{adding}
use Rattle.cell_tests.specs.declared.counter.Added.{Added}
use Rattle.cell_tests.specs.Working.{HasNumbers, IsAt, IsIn, IsOut, in_with, out_with}
use Rattle.cell_tests.specs.Working.{own_with, seat_with}
use Rattle.cell_words.specs.declared.colours.Colour.{Colour}
use Rattle.cell_words.specs.declared.colours.Colour.TheVariants as colour
use Rattle.cell_words.specs.declared.controls.Control.{Control}
use Rattle.cell_words.specs.declared.fields.Field.{Field}
use Rattle.cell_words.specs.declared.fields.Field.TheVariants as field
use Rattle.cell_words.specs.declared.fields.Kind.TheVariants as kind
use Rattle.cell_words.specs.declared.presences.Status.{Status}
use Rattle.core_machine.specs.Places.{found_at}
use Rattle.core_machine.specs.Words.{is_blue, same_field}
use Rattle.core_machine.specs.declared.events.Event.{Event}
use Rattle.core_machine.specs.declared.events.Event.TheVariants as event
use Rattle.core_machine.specs.declared.events.Found.{Found}
use Rattle.core_machine.specs.declared.events.Found.TheVariants as finds
use Rattle.heap_rule.specs.Lore.{five_nulls, known_sealed, known_set, known_stored_if}
use Rattle.heap_rule.specs.Lore as lore
use Rattle.heap_rule.specs.Rule.{told, took}
use Rattle.heap_rule.specs.declared.known.Known.{Known}
use Rattle.heap_rule.specs.declared.known.Known.TheVariants as knows
use Rattle.heap_rule.specs.declared.known.Learned.{Learned}
use Rattle.heap_rule.specs.declared.view.View.{View}
use Rattle.heap_table.specs.Seats.{HeapId, SeatView}
use Rattle.mutator_events.specs.Events.{tells}

-- the base with one more event in its trail
abbrev grown : View Added → Event → Found → View Added
grown base e found = record base { trail = base.trail ++ took e found ∷ [] }

still : (heap : HeapId) (base : View Added) (e : Event) (found : Found)
    → HasNumbers heap base → HasNumbers heap (grown base e found)
still heap base e found n = record { shape_is = n.shape_is; some_room = n.some_room }

module _ (heap : HeapId) (sum : ℕ) (old : SeatView Added) where
  pub begun : IsOut heap sum old → (status : Status) (new : SeatView Added)
      → new ≡ tells old (event.Begin old.me.number)
      (finds.Presence (record old.me.presence { status = status }))
      → IsIn heap sum new
  begun out status new is =
      let e = event.Begin out.base.number in
      let found = finds.Presence (out_with status) in (
        None,
        record {
          base = grown out.base e found;
          claims = out.claims;
          status = status;
          first = knows.Nothing;
          numbers = still heap out.base e found out.numbers;
          is = is ∙ ap (λ (s : SeatView Added). tells s (event.Begin s.me.number)
              (finds.Presence (record s.me.presence { status = status }))) out.is;
        },
      )

  pub looked : (mode : Option Control) → IsAt heap sum (found_at 0 ∷ []) mode [] old
      → (control : Control) (new : SeatView Added)
      → new ≡ tells old (event.Look old.me.number) (finds.Control control)
      → IsAt heap sum (found_at 0 ∷ []) (Some control) [] new
  looked mode at control new is =
      let e = event.Look at.base.number in
      let found = finds.Control control in
      record {
        base = grown at.base e found;
        claims = at.claims;
        status = at.status;
        first = at.first;
        numbers = still heap at.base e found at.numbers;
        is = is ∙ ap (λ (s : SeatView Added). tells s (event.Look s.me.number) found) at.is;
      }

  module _ (control : Control) (at : IsAt heap sum (found_at 0 ∷ []) (Some control) [] old)
      (cell : ℕ) where
    claim_told : (found : Colour) (new : SeatView Added)
        → new ≡ tells old (event.Claim old.me.number cell) (finds.Colour found)
        → new ≡ tells (seat_with heap at.base (own_with (found_at 0 ∷ []) (Some control) at.claims)
        (in_with at.status) (at.first ∷ []) sum) (event.Claim at.base.number cell)
        (finds.Colour found)
    claim_told found new is =
        is ∙ ap (λ (s : SeatView Added). tells s (event.Claim s.me.number cell)
        (finds.Colour found)) at.is

    pub claimed : (found : Colour) → true ≡ is_blue found → (new : SeatView Added)
        → new ≡ tells old (event.Claim old.me.number cell) (finds.Colour found)
        → IsAt heap sum (found_at 0 ∷ found_at cell ∷ []) None (knows.Raw five_nulls ∷ []) new
    claimed colour.Blue blue new is =
        let e = event.Claim at.base.number cell in
        let found = finds.Colour colour.Blue in
        record {
          base = grown at.base e found;
          claims = at.claims + 1;
          status = at.status;
          first = at.first;
          numbers = still heap at.base e found at.numbers;
          is = claim_told colour.Blue new is;
        }
    claimed colour.White blue new is = absurd cc
    claimed colour.Gray blue new is = absurd cc
    claimed colour.Black blue new is = absurd cc

    missed_by : (found : Colour) → tells (seat_with heap at.base
        (own_with (found_at 0 ∷ []) (Some control) at.claims) (in_with at.status) (at.first ∷ [])
        sum) (event.Claim at.base.number cell) (finds.Colour found)
        ≡ seat_with heap (grown at.base (event.Claim at.base.number cell) (finds.Colour found))
        (own_with (found_at 0 ∷ []) (Some control) at.claims) (in_with at.status) (at.first ∷ [])
        sum → (new : SeatView Added)
        → new ≡ tells old (event.Claim old.me.number cell) (finds.Colour found)
        → IsIn heap sum new
    missed_by found same new is = (
      Some control,
      record {
        base = grown at.base (event.Claim at.base.number cell) (finds.Colour found);
        claims = at.claims;
        status = at.status;
        first = at.first;
        numbers = still heap at.base (event.Claim at.base.number cell) (finds.Colour found)
            at.numbers;
        is = claim_told found new is ∙ same;
      },
    )

    pub missed : (found : Colour) → false ≡ is_blue found → (new : SeatView Added)
        → new ≡ tells old (event.Claim old.me.number cell) (finds.Colour found)
        → IsIn heap sum new
    missed colour.Blue blue new is = absurd cc
    missed colour.White blue new is = missed_by colour.White refl new is
    missed colour.Gray blue new is = missed_by colour.Gray refl new is
    missed colour.Black blue new is = missed_by colour.Black refl new is

  -- with a second cell, of which something is known
  module _ (mode : Option Control) (cell : ℕ) (k : Known)
      (at : IsAt heap sum (found_at 0 ∷ found_at cell ∷ []) mode (k ∷ []) old) where
    pub filled : (new : SeatView Added)
        → new ≡ tells old (event.Fill old.me.number 1 0 (field.Num 7)) finds.Stored
        → (after : Known)
        × IsAt heap sum (found_at 0 ∷ found_at cell ∷ []) mode (after ∷ []) new
    filled new is =
        let e = event.Fill at.base.number 1 0 (field.Num 7) in (
          (if cell == cell then known_set 0 (field.Num 7) k else k),
          record {
            base = grown at.base e finds.Stored;
            claims = at.claims;
            status = at.status;
            first = if 0 == cell then known_set 0 (field.Num 7) at.first else at.first;
            numbers = still heap at.base e finds.Stored at.numbers;
            is = is ∙ ap (λ (s : SeatView Added). tells s
                (event.Fill s.me.number 1 0 (field.Num 7)) finds.Stored) at.is;
          },
        )

    pub sealed : (new : SeatView Added)
        → new ≡ tells old (event.Seal old.me.number 1 kind.Record) finds.Stored
        → (after : Known)
        × IsAt heap sum (found_at 0 ∷ found_at cell ∷ []) mode (after ∷ []) new
    sealed new is =
        let e = event.Seal at.base.number 1 kind.Record in
        let change = known_sealed (0 ∷ cell ∷ []) (at.first ∷ k ∷ []) kind.Record in (
          (if cell == cell then change k else k),
          record {
            base = grown at.base e finds.Stored;
            claims = at.claims;
            status = at.status;
            first = if 0 == cell then change at.first else at.first;
            numbers = still heap at.base e finds.Stored at.numbers;
            is = is ∙ ap (λ (s : SeatView Added). tells s
                (event.Seal s.me.number 1 kind.Record) finds.Stored) at.is;
          },
        )

    pub kept_one : (new : SeatView Added)
        → new ≡ tells old (event.Keep old.me.number 1 0 0) (finds.Presence old.me.presence)
        → IsIn heap sum new
    kept_one new is =
        let e = event.Keep at.base.number 1 0 0 in
        let found = finds.Presence (in_with at.status) in (
          mode,
          record {
            base = grown at.base e found;
            claims = at.claims;
            status = at.status;
            first = at.first;
            numbers = still heap at.base e found at.numbers;
            is = is ∙ ap (λ (s : SeatView Added). tells s (event.Keep s.me.number 1 0 0)
                (finds.Presence s.me.presence)) at.is;
          },
        )

  -- A read of the anchor's field 0, and a write over it.
  module _ (mode : Option Control) (at : IsAt heap sum (found_at 0 ∷ []) mode [] old)
      (new : SeatView Added) (table_is : new.table ≡ old.table) (tells : Learned) where
    made_of : (me : View Added) → new.me ≡ me → new ≡ record { table = heap.table; me = me }
    made_of me is = λ i. record {
      table = (table_is ∙ ap (λ (s : SeatView Added). s.table) at.is) i;
      me = is i;
    }

    read_as : (found : Field)
        → new.me ≡ told old.me (event.Read old.me.number 0 0) (finds.Field found) tells old.me.pass
        → new ≡ record {
          table = heap.table;
          me = told (seat_with heap at.base (own_with (found_at 0 ∷ []) mode at.claims)
              (in_with at.status) (at.first ∷ []) sum).me (event.Read at.base.number 0 0)
              (finds.Field found) tells record { sum = sum };
        }
    read_as found is = made_of _ (is ∙ ap (λ (s : SeatView Added). told s.me
        (event.Read s.me.number 0 0) (finds.Field found) tells s.me.pass) at.is)

    pub read_none : (found : Field)
        → new.me ≡ told old.me (event.Read old.me.number 0 0) (finds.Field found) tells old.me.pass
        → length new.me.own.held ≤ 1 → IsIn heap sum new
    read_none field.Null is few =
        let e = event.Read at.base.number 0 0 in (
          mode,
          record {
            base = grown at.base e (finds.Field field.Null);
            claims = at.claims;
            status = at.status;
            first = lore.told tells.here at.first;
            numbers = still heap at.base e (finds.Field field.Null) at.numbers;
            is = read_as field.Null is;
          },
        )
    read_none (field.Num n) is few =
        let e = event.Read at.base.number 0 0 in (
          mode,
          record {
            base = grown at.base e (finds.Field (field.Num n));
            claims = at.claims;
            status = at.status;
            first = lore.told tells.here at.first;
            numbers = still heap at.base e (finds.Field (field.Num n)) at.numbers;
            is = read_as (field.Num n) is;
          },
        )
    read_none (field.Cell c) is few =
        let two : length new.me.own.held ≡ 2 =
        ap (λ (s : SeatView Added). length s.me.own.held) (read_as (field.Cell c) is) in
        absurd (omega (arith, two, few))

    pub read_some : (found : Field)
        → new.me ≡ told old.me (event.Read old.me.number 0 0) (finds.Field found) tells old.me.pass
        → 1 < length new.me.own.held
        → (c : ℕ) × IsAt heap sum (found_at 0 ∷ found_at c ∷ []) mode (tells.found ∷ []) new
    read_some field.Null is more =
        let one : length new.me.own.held ≡ 1 =
        ap (λ (s : SeatView Added). length s.me.own.held) (read_as field.Null is) in
        absurd (omega (arith, one, more))
    read_some (field.Num n) is more =
        let one : length new.me.own.held ≡ 1 =
        ap (λ (s : SeatView Added). length s.me.own.held) (read_as (field.Num n) is) in
        absurd (omega (arith, one, more))
    read_some (field.Cell c) is more =
        let e = event.Read at.base.number 0 0 in (
          c,
          record {
            base = grown at.base e (finds.Field (field.Cell c));
            claims = at.claims;
            status = at.status;
            first = lore.told tells.here at.first;
            numbers = still heap at.base e (finds.Field (field.Cell c)) at.numbers;
            is = read_as (field.Cell c) is;
          },
        )

    -- what a write leaves, by whether it was made
    left : (count : ℕ) (found : Field) → Bool → SeatView Added
    left count found made = seat_with heap
        (grown at.base (event.Write at.base.number 0 0 (field.Num count) (field.Num (count + 1)))
        (finds.Field found))
        (own_with (found_at 0 ∷ []) None at.claims) (in_with at.status)
        (known_stored_if made (0 ∷ []) (at.first ∷ []) 0 0 (field.Num (count + 1)))
        (if made then sum + 1 else sum)

    written_as : (count : ℕ) (found : Field)
        → new.me ≡ told old.me
        (event.Write old.me.number 0 0 (field.Num count) (field.Num (count + 1)))
        (finds.Field found) tells
        (adding (field.Num count) tells (finds.Field found) old.me.pass)
        → new ≡ left count found (same_field found (field.Num count))
    unfolding left
    written_as count found is = made_of _ (is ∙ ap (λ (s : SeatView Added). told s.me
        (event.Write s.me.number 0 0 (field.Num count) (field.Num (count + 1)))
        (finds.Field found) tells (adding (field.Num count) tells (finds.Field found) s.me.pass))
        at.is)

    pub written : (count : ℕ)
        → new.me ≡ told old.me
        (event.Write old.me.number 0 0 (field.Num count) (field.Num (count + 1)))
        (finds.Field (field.Num count)) tells
        (adding (field.Num count) tells (finds.Field (field.Num count)) old.me.pass)
        → IsIn heap (sum + 1) new
    unfolding left
    written count is =
        let e = event.Write at.base.number 0 0 (field.Num count) (field.Num (count + 1)) in (
          None,
          record {
            base = grown at.base e (finds.Field (field.Num count));
            claims = at.claims;
            status = at.status;
            first = known_set 0 (field.Num (count + 1)) at.first;
            numbers = still heap at.base e (finds.Field (field.Num count)) at.numbers;
            is = written_as count (field.Num count) is
                ∙ ap (left count (field.Num count)) (eq-eqb count count refl);
          },
        )

    pub not_written : (count : ℕ) (found : Field) → same_field found (field.Num count) ≡ false
        → new.me ≡ told old.me
        (event.Write old.me.number 0 0 (field.Num count) (field.Num (count + 1)))
        (finds.Field found) tells
        (adding (field.Num count) tells (finds.Field found) old.me.pass)
        → IsIn heap sum new
    unfolding left
    not_written count found other is =
        let e = event.Write at.base.number 0 0 (field.Num count) (field.Num (count + 1)) in (
          None,
          record {
            base = grown at.base e (finds.Field found);
            claims = at.claims;
            status = at.status;
            first = at.first;
            numbers = still heap at.base e (finds.Field found) at.numbers;
            is = written_as count found is ∙ ap (left count found) other;
          },
        )
