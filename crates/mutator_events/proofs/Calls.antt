-- Behind each call of a mutator's seat: the view is the one before, told the event and what it
-- found, and the run-time parts that the call leaves say of it what they ought to.
use Rattle.std.proofs.Common.{◌≡◌, ◌<◌, ◌+◌, ◌^◌, ℕ, Bool, true, false, List, [], ◌∷◌, ◌++◌}
use Rattle.std.proofs.Common.{refl, sym, ◌∙◌, ap, subst, arith, Option, Some, None}
use Rattle.cell_words.specs.Colour.{pack_colour_of}
use Rattle.cell_words.specs.Control.{IsValidControl, pack_control_of}
use Rattle.cell_words.specs.Field.{IsValidField, pack_field_of}
use Rattle.cell_words.specs.Modes.{next_status_of}
use Rattle.cell_words.specs.Presence.{is_valid_presence, pack_presence_of}
use Rattle.cell_words.specs.declared.colours.Colour.{Colour}
use Rattle.cell_words.specs.declared.colours.Colour.TheVariants as colour
use Rattle.cell_words.specs.declared.controls.Control.{Control}
use Rattle.cell_words.specs.declared.fields.Field.{Field}
use Rattle.cell_words.specs.declared.fields.Kind.{Kind}
use Rattle.cell_words.specs.declared.presences.Presence.{Presence}
use Rattle.cell_words.specs.declared.presences.Status.{Status}
use Rattle.core_machine.specs.declared.events.Event.{Event}
use Rattle.core_machine.specs.declared.events.Event.TheVariants as event
use Rattle.core_machine.specs.declared.events.Found.{Found}
use Rattle.core_machine.specs.declared.events.Found.TheVariants as finds
use Rattle.core_machine.specs.State.{colour_of, presence_of, target_of}
use Rattle.core_machine.specs.Words.{is_blue}
use Rattle.heap_rule.specs.declared.known.Learned.{Learned}
use Rattle.heap_rule.specs.declared.view.View.{View}
use Rattle.heap_rule.specs.Apart.{IsNewTo}
use Rattle.heap_rule.specs.Asks.{MayClaim, MayComeIn, MayFetch, MayKeep, MayRead}
use Rattle.heap_rule.specs.Boxes.{Map}
use Rattle.heap_rule.specs.Lore.{cells_in, nothing_learned}
use Rattle.heap_rule.specs.Rule.{told}
use Rattle.heap_rule.specs.Steps.{AtStep, same_pass}
use Rattle.heap_rule.proofs.Apart.{new_to}
use Rattle.heap_table.specs.Seats.{SeatView}
use Rattle.mutator_events.specs.Events.{AtEvent, tells, tells_with}
use Rattle.mutator_events.specs.Seats.{IsMutator}
use Rattle.mutator_events.specs.Values.{cells_kept, cells_read}
use Rattle.mutator_events.proofs.Founds.{at_event, begin_found, claim_found, claims_fit, end_found}
use Rattle.mutator_events.proofs.Founds.{fetch_found, fetch_named, keep_found, look_found}
use Rattle.mutator_events.proofs.Founds.{look_looked}
use Rattle.mutator_events.proofs.Founds.{over_found}
use Rattle.mutator_events.proofs.Founds.{read_found, read_named, renumbered}
use Rattle.mutator_events.proofs.Founds.{write_found}
use Rattle.mutator_events.proofs.HeldCells.{held_many}
use Rattle.mutator_events.proofs.Keeping.{answer_keeps, begin_keeps, claim_keeps, end_keeps}
use Rattle.mutator_events.proofs.Keeping.{fetch_keeps, fill_keeps, keep_keeps, look_keeps}
use Rattle.mutator_events.proofs.Keeping.{mark_keeps, missed_keeps, over_keeps, read_keeps}
use Rattle.mutator_events.proofs.Keeping.{seal_keeps, store_keeps, write_keeps}

-- What a clause says of the seat as its caller has it is so of the seat within, and back.

pub within : {P : Type 0} {seat now : SeatView P} (C : View P → Type 0) → seat ≡ now → C now.me
    → C seat.me
within C is h = subst (λ (s : SeatView _). C s.me) (sym is) h

pub without : {P : Type 0} {seat now : SeatView P} (C : View P → Type 0) → seat ≡ now → C seat.me
    → C now.me
without C is h = subst (λ (s : SeatView _). C s.me) is h

pub same_within : {P A : Type 0} {seat now : SeatView P} {x : A} (f : View P → A) → seat ≡ now
    → x ≡ f now.me → x ≡ f seat.me
same_within f is same = same ∙ ap (λ (s : SeatView _). f s.me) (sym is)

-- the seat is told what its view is
pub seat_told : {P : Type 0} {seat now : SeatView P} (new : SeatView P) (make : View P → Event)
    (found : View P → Found) → seat ≡ now → new.table ≡ seat.table
    → new.me ≡ told seat.me (make seat.me) (found seat.me) nothing_learned seat.me.pass
    → new ≡ tells now (make now.me) (found now.me)
seat_told new make found is table me =
    (λ t. record { table = table t; me = me t })
    ∙ ap (λ (s : SeatView _). tells s (make s.me) (found s.me)) is

-- and where a pass was picked
pub seat_told_with : {P : Type 0} {seat now : SeatView P} (new : SeatView P)
    (make : View P → Event) (found : Found) (pass : P → P) → seat ≡ now → new.table ≡ seat.table
    → new.me ≡ told seat.me (make seat.me) found nothing_learned (pass seat.me.pass)
    → new ≡ tells_with now (make now.me) found (pass now.me.pass)
seat_told_with new make found pass is table me =
    (λ t. record { table = table t; me = me t })
    ∙ ap (λ (s : SeatView _). tells_with s (make s.me) found (pass s.me.pass)) is

-- The view w after an event, and what the seat has at run time.
pub record Behind {P : Type 0} (v w : View P) (e : Event) (found : Found) (i room : ℕ)
    (held : List ℕ) (looked : ℕ) (inside : Bool) (status : Status)
    (claims : ℕ) : Type 0 where
  pub view : w ≡ told v e found nothing_learned v.pass
  pub keeps : IsMutator w i room held looked inside status claims

-- The same where the client picks its pass, and the state at the step is shown.
pub record Seen {P : Type 0} (holds : Map → List P → Type 0) (fixed : ℕ → Bool)
    (next : Learned → Found → P → P) (v w : View P) (e : Event) (found : Found) (i room : ℕ)
    (held : List ℕ) (looked : ℕ) (inside : Bool) (status : Status)
    (claims : ℕ) : Type 0 where
  pub event : AtEvent holds fixed v e next found w
  pub keeps : IsMutator w i room held looked inside status claims

module _ {P : Type 0} {v w : View P} {e : Event} {found : Found} {i room : ℕ} {held : List ℕ}
    {looked : ℕ} {inside : Bool} {status : Status} {claims : ℕ} where
  behind : w ≡ told v e found nothing_learned v.pass
      → IsMutator (told v e found nothing_learned v.pass) i room held looked inside status claims
      → Behind v w e found i room held looked inside status claims
  behind view keeps = record {
    view = view;
    keeps = subst (λ (u : View P). IsMutator u i room held looked inside status claims) (sym view)
        keeps;
  }

module _ {P : Type 0} {holds : Map → List P → Type 0} {fixed : ℕ → Bool}
    {next : Learned → Found → P → P} {v w : View P} {e : Event} {found : Found} {i room : ℕ}
    {held : List ℕ} {looked : ℕ} {inside : Bool} {status : Status} {claims : ℕ} where
  seen : AtEvent holds fixed v e next found w
      → ((k : Learned) (p : P) → IsMutator (told v e found k p) i room held looked inside status
      claims)
      → Seen holds fixed next v w e found i room held looked inside status claims
  seen at keeps = record {
    event = at;
    keeps = subst (λ (u : View P). IsMutator u i room held looked inside status claims) (sym at.new)
        (keeps _ _);
  }

module _ {P : Type 0} {holds : Map → List P → Type 0} {fixed : ℕ → Bool} {v w : View P}
    {i number room : ℕ} {held : List ℕ} {looked : ℕ} {inside : Bool} {status : Status}
    {claims : ℕ} (m : IsMutator v i room held looked inside status claims) where
  pub after_look : (control : Control)
      → ((other : Control) → IsValidControl other → pack_control_of other ≡ number
      → control ≡ other)
      → AtStep holds fixed v (event.Look i) same_pass number w
      → Behind v w (event.Look v.number) (finds.Control control) i room held number inside status
      claims
  after_look control is at =
      let here = renumbered i (λ n. event.Look n) m.number_is at in
      behind (at_event (event.Look v.number) (finds.Control control) here
      (look_found control is here)).new
      (look_keeps m v.number nothing_learned v.pass control (look_looked control is here))

  pub after_begin : (presence : Presence)
      → ((other : Presence) → is_valid_presence other ≡ true → pack_presence_of other ≡ number
      → presence ≡ other)
      → MayComeIn v → AtStep holds fixed v (event.Begin i) same_pass number w
      → Behind v w (event.Begin v.number)
      (finds.Presence (record v.presence { status = presence.status })) i room (0 ∷ []) looked true
      presence.status claims
  after_begin presence is may at =
      let here = renumbered i (λ n. event.Begin n) m.number_is at in
      let found = record v.presence { status = presence.status } in
      behind (at_event (event.Begin v.number) (finds.Presence found) here
      (begin_found presence is here)).new
      (begin_keeps m v.number nothing_learned v.pass found may.not_over
      (subst (λ (n : ℕ). 0 < n) here.mine.cells here.mine.shown.shaped.cells_fit.some_cells))

  pub after_over : MayComeIn v → (at : AtStep holds fixed v (event.Over i) same_pass number w)
      → (own : Status) × Behind v w (event.Over v.number)
      (finds.Presence (record v.presence { status = own })) i room held looked inside status claims
  after_over may at =
      let here = renumbered i (λ n. event.Over n) m.number_is at in
      let own = (presence_of here.core v.number).status in
      let found = finds.Presence (record v.presence { status = own }) in (
        own,
        behind (at_event (event.Over v.number) found here (over_found here)).new
            (over_keeps m v.number nothing_learned v.pass found
            (sym m.presence.inside_is ∙ may.out)),
      )

  pub after_end : v.presence.inside ≡ true
      → AtStep holds fixed v (event.End i) same_pass number w
      → Behind v w (event.End v.number) (finds.Presence v.presence) i room [] looked false status
      claims
  after_end is_in at =
      let here = renumbered i (λ n. event.End n) m.number_is at in
      behind (at_event (event.End v.number) (finds.Presence v.presence) here
      (end_found is_in here)).new
      (end_keeps m v.number nothing_learned v.pass (finds.Presence v.presence))

  pub after_keep : (n from copies : ℕ) → MayKeep v n from copies
      → AtStep holds fixed v (event.Keep i n from copies) same_pass number w
      → Behind v w (event.Keep v.number n from copies) (finds.Presence v.presence) i room
      (cells_kept held n from copies) looked inside status claims
  after_keep n from copies may at =
      let here = renumbered i (λ k. event.Keep k n from copies) m.number_is at in
      let many = held_many v.own.held held m.own.held_is in
      behind (at_event (event.Keep v.number n from copies) (finds.Presence v.presence) here
      (keep_found n from copies may.inside here)).new
      (keep_keeps m v.number nothing_learned v.pass n from copies (finds.Presence v.presence)
      may.some (omega (arith, many, may.kept)) (omega (arith, many, may.copied))
      (omega (arith, may.room, m.room_is)))

  pub after_seal : (place : ℕ) (of : Kind)
      → AtStep holds fixed v (event.Seal i place of) same_pass number w
      → Behind v w (event.Seal v.number place of) finds.Stored i room held looked inside status claims
  after_seal place of at =
      let here = renumbered i (λ n. event.Seal n place of) m.number_is at in
      behind (at_event (event.Seal v.number place of) finds.Stored here refl).new
      (seal_keeps m v.number nothing_learned v.pass place of finds.Stored)

  pub after_mark : (place : ℕ) → AtStep holds fixed v (event.Mark i place) same_pass number w
      → (found : Colour) × Behind v w (event.Mark v.number place) (finds.Colour found) i room held
      looked inside status claims
  after_mark place at =
      let here = renumbered i (λ n. event.Mark n place) m.number_is at in
      let found = colour_of here.core (target_of here.core v.number place) in (
        found,
        behind (at_event (event.Mark v.number place) (finds.Colour found) here refl).new
            (mark_keeps m v.number nothing_learned v.pass place (finds.Colour found)),
      )

  pub after_answer : AtStep holds fixed v (event.Answer i) same_pass number w
      → Behind v w (event.Answer v.number) finds.Stored i room held looked inside
      (next_status_of status) claims
  after_answer at =
      let here = renumbered i (λ n. event.Answer n) m.number_is at in
      behind (at_event (event.Answer v.number) finds.Stored here refl).new
      (answer_keeps m v.number nothing_learned v.pass finds.Stored)

  -- A claim: of a blue cell, and of another.

  pub after_claim : (c : ℕ) (found : Colour)
      → ((other : Colour) → pack_colour_of other ≡ number → found ≡ other) → MayClaim v c
      → AtStep holds fixed v (event.Claim i c) same_pass number w → found ≡ colour.Blue
      → Behind v w (event.Claim v.number c) (finds.Colour colour.Blue) i room (held ++ c ∷ []) looked
      inside status (claims + 1)
  after_claim c found is may at blue =
      let here = renumbered i (λ n. event.Claim n c) m.number_is at in
      let many = held_many v.own.held held m.own.held_is in
      behind (at_event (event.Claim v.number c) (finds.Colour colour.Blue) here
      (claim_found c found is here ∙ ap (λ (x : Colour). finds.Colour x) blue)).new
      (claim_keeps m v.number nothing_learned v.pass c may.cell
      (omega (arith, many, may.room, m.room_is)))

  -- what it got stood at none of its places
  pub got_new : (c : ℕ) (found : Colour)
      → ((other : Colour) → pack_colour_of other ≡ number → found ≡ other)
      → (at : AtStep holds fixed v (event.Claim i c) same_pass number w) → found ≡ colour.Blue
      → IsNewTo (cells_in v.own.held) v.known c
  got_new c found is at blue =
      new_to v at.core at.lore at.mine c (sym (is (colour_of at.core c) at.says) ∙ blue)

  pub after_miss : (c : ℕ) (found : Colour)
      → ((other : Colour) → pack_colour_of other ≡ number → found ≡ other)
      → AtStep holds fixed v (event.Claim i c) same_pass number w → is_blue found ≡ false
      → Behind v w (event.Claim v.number c) (finds.Colour found) i room held looked inside status
      claims
  after_miss c found is at other =
      let here = renumbered i (λ n. event.Claim n c) m.number_is at in
      behind (at_event (event.Claim v.number c) (finds.Colour found) here
      (claim_found c found is here)).new
      (missed_keeps m v.number nothing_learned v.pass c found other)

  -- one claim more may be counted
  pub claims_more : (e : Event) → AtStep holds fixed v e same_pass number w → claims + 1 < 2 ^ 64
  claims_more e at = let fits = claims_fit e at in omega (arith, fits, m.own.claims_is)

  module _ {next : Learned → Found → P → P} where
    pub after_read : (place f : ℕ) (field : Field)
        → ((other : Field) → IsValidField other → pack_field_of other ≡ number → field ≡ other)
        → MayRead v place f → AtStep holds fixed v (event.Read i place f) next number w
        → Seen holds fixed next v w (event.Read v.number place f) (finds.Field field) i room
        (cells_read held field) looked inside status claims
    after_read place f field is may at =
        let here = renumbered i (λ n. event.Read n place f) m.number_is at in
        let many = held_many v.own.held held m.own.held_is in
        seen (at_event (event.Read v.number place f) (finds.Field field) here
        (read_found place f field is here))
        (λ k p. read_keeps m v.number k p place f field (read_named place f field here is)
        (omega (arith, many, may.room, m.room_is)))

    pub after_fetch : (place f : ℕ) (field : Field)
        → ((other : Field) → IsValidField other → pack_field_of other ≡ number → field ≡ other)
        → MayFetch v place f → AtStep holds fixed v (event.Fetch i place f) next number w
        → Seen holds fixed next v w (event.Fetch v.number place f) (finds.Field field) i room
        (cells_read held field) looked inside status claims
    after_fetch place f field is may at =
        let here = renumbered i (λ n. event.Fetch n place f) m.number_is at in
        let many = held_many v.own.held held m.own.held_is in
        seen (at_event (event.Fetch v.number place f) (finds.Field field) here
        (fetch_found place f field is here))
        (λ k p. fetch_keeps m v.number k p place f field (fetch_named place f field here is)
        (omega (arith, many, may.room, m.room_is)))

    pub after_store : {new new_run : Field} → new_run ≡ new
        → AtStep holds fixed v (event.Store i new_run) next number w
        → Seen holds fixed next v w (event.Store v.number new) finds.Stored i room held looked inside
        status claims
    after_store {new} new_is at =
        let there = subst (λ (x : Field). AtStep holds fixed v (event.Store i x) next number w)
        new_is at in
        let here = renumbered i (λ n. event.Store n new) m.number_is there in
        seen (at_event (event.Store v.number new) finds.Stored here refl)
        (λ k p. store_keeps m v.number k p new finds.Stored)

    pub after_write : {old new old_run new_run : Field} (place f : ℕ) (field : Field)
        → old_run ≡ old → new_run ≡ new
        → ((other : Field) → IsValidField other → pack_field_of other ≡ number → field ≡ other)
        → AtStep holds fixed v (event.Write i place f old_run new_run) next number w
        → Seen holds fixed next v w (event.Write v.number place f old new) (finds.Field field) i
        room held looked inside status claims
    after_write {old} {new} {old_run} {new_run} place f field old_is new_is is at =
        let there = subst (λ (x : Field). AtStep holds fixed v (event.Write i place f old x) next
        number w) new_is
        (subst (λ (x : Field). AtStep holds fixed v (event.Write i place f x new_run) next number w)
        old_is at) in
        let here = renumbered i (λ n. event.Write n place f old new) m.number_is there in
        seen (at_event (event.Write v.number place f old new) (finds.Field field) here
        (write_found place f old new field is here))
        (λ k p. write_keeps m v.number k p place f old new (finds.Field field))

    pub after_fill : {value at_run : Field} (place f : ℕ) → at_run ≡ value
        → AtStep holds fixed v (event.Fill i place f at_run) next number w
        → Seen holds fixed next v w (event.Fill v.number place f value) finds.Stored i room held
        looked inside status claims
    after_fill {value} place f is at =
        let there = subst (λ (x : Field). AtStep holds fixed v (event.Fill i place f x) next number
        w) is at in
        let here = renumbered i (λ n. event.Fill n place f value) m.number_is there in
        seen (at_event (event.Fill v.number place f value) finds.Stored here refl)
        (λ k p. fill_keeps m v.number k p place f value finds.Stored)
