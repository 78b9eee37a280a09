-- What the run-time parts of a mutator's seat say of its view stands after each event of it, with
-- the parts that the call leaves.
use Rattle.std.proofs.Common.{◌≡◌, ◌<◌, ◌≤◌, ◌+◌, ℕ, Bool, true, false, List, [], ◌∷◌, ◌++◌}
use Rattle.std.proofs.Common.{length, refl, sym, ◌∙◌, ap, subst, arith, Option, Some, None}
use Rattle.std.proofs.lemmas.List.{length-append, length-map}
use Rattle.std.proofs.lemmas.List.Elements.{All-nil, All-cons, All-push}
use Rattle.cell_words.specs.Modes.{next_status_of}
use Rattle.cell_words.specs.declared.colours.Colour.{Colour}
use Rattle.cell_words.specs.declared.colours.Colour.TheVariants as colour
use Rattle.cell_words.specs.declared.controls.Control.{Control}
use Rattle.cell_words.specs.declared.fields.Field.{Field}
use Rattle.cell_words.specs.declared.fields.Field.TheVariants as field
use Rattle.cell_words.specs.declared.fields.Kind.{Kind}
use Rattle.cell_words.specs.declared.presences.Presence.{Presence}
use Rattle.cell_words.specs.declared.presences.Status.{Status}
use Rattle.core_machine.specs.declared.events.Event.{Event}
use Rattle.core_machine.specs.declared.events.Event.TheVariants as event
use Rattle.core_machine.specs.declared.events.Found.{Found}
use Rattle.core_machine.specs.declared.events.Found.TheVariants as finds
use Rattle.core_machine.specs.declared.events.Taken.{Taken}
use Rattle.core_machine.specs.InRange.{NamesBelow}
use Rattle.core_machine.specs.Own.{Own, having_claimed, having_read, no_own, own_after}
use Rattle.core_machine.specs.Own.{pending_or_none}
use Rattle.core_machine.specs.Trail.{own_along}
use Rattle.core_machine.specs.declared.places.Held.{Held}
use Rattle.core_machine.specs.Places.{cell_at, kept, mark_of, unmark}
use Rattle.core_machine.specs.Words.{is_blue}
use Rattle.heap_rule.specs.declared.known.Known.{Known}
use Rattle.heap_rule.specs.declared.known.Learned.{Learned}
use Rattle.heap_rule.specs.declared.view.View.{View}
use Rattle.heap_rule.specs.declared.known.Known.TheVariants as knows
use Rattle.heap_rule.specs.Lore.{cells_in, five_nulls, known_claimed, was_made}
use Rattle.heap_rule.specs.Rule.{told, took}
use Rattle.heap_rule.proofs.Quiet.{cells_marked, cells_unmarked}
use Rattle.heap_rule.proofs.Reading.{cells_more}
use Rattle.mutator_events.specs.Seats.{HasLooked, HasOwn, HasPresence, HasRoots, IsMutator}
use Rattle.mutator_events.specs.Values.{cells_kept, cells_read}
use Rattle.mutator_events.proofs.HeldCells.{cells_kept_are, kept_below, kept_many, read_below}
use Rattle.mutator_events.proofs.HeldCells.{read_many}
use Rattle.mutator_events.proofs.Roots.{kept_roots, missed_roots, more_roots, moved_roots}
use Rattle.mutator_events.proofs.Roots.{read_roots, sealed_roots, stored_roots, written_roots}

-- what a read holds, and that it leaves mode and claims
read_own : (own : Own) (found : Field) → (cells_in (having_read own found).held
    ≡ cells_read (cells_in own.held) found) × ((having_read own found).mode ≡ own.mode)
    × ((having_read own found).claims ≡ own.claims)
read_own own field.Null = (refl, refl, refl)
read_own own (field.Num n) = (refl, refl, refl)
read_own own (field.Cell c) = (cells_more own.held c, refl, refl)

-- no mode, after what uses the look up
no_look : {mode : Option Control} {looked : ℕ} → mode ≡ None → HasLooked mode looked
no_look none control is = let no = sym none ∙ is in absurd cc

still_looked : {mode other : Option Control} {looked : ℕ} → other ≡ mode → HasLooked mode looked
    → HasLooked other looked
still_looked {looked = looked} same = subst (λ (o : Option Control). HasLooked o looked) (sym same)

-- a claim of a cell that was not blue leaves the own part
pub missed_own : (own : Own) (c : ℕ) (found : Colour) → is_blue found ≡ false
    → having_claimed own c found ≡ own
missed_own own c colour.Blue other = let no = other in absurd cc
missed_own own c colour.White other = refl
missed_own own c colour.Gray other = refl
missed_own own c colour.Black other = refl

-- one event more
along_push : (own : Own) (ts : List Taken) (e : Event) (found : Found)
    → own_along own (ts ++ took e found ∷ []) ≡ own_after (own_along own ts) e found
along_push own [] e found = refl
along_push own (t ∷ ts) e found = along_push (own_after own t.event t.found) ts e found

module _ {P : Type 0} {v : View P} {number room : ℕ} {held : List ℕ} {looked : ℕ}
    {inside : Bool} {status : Status} {claims : ℕ}
    (m : IsMutator v number room held looked inside status claims) where
  -- whatever an event tells, shape, role, number and room stay
  told_keeps : {own : Own} {presence : Presence} {known : List Known} {pass : P}
      {trail : List Taken} {cells : List ℕ} {word : ℕ} {is_in : Bool}
      {answered : Status} {many : ℕ} → HasOwn v.shape.cells room own cells word many
      → HasPresence presence is_in answered → HasRoots known own.held is_in
      → own ≡ own_along no_own trail
      → IsMutator (record v {
        own = own;
        presence = presence;
        known = known;
        pass = pass;
        trail = trail;
      }) number room cells word is_in answered many
  told_keeps own presence roots left = record {
    role_is = m.role_is;
    number_is = m.number_is;
    number_below = m.number_below;
    room_is = m.room_is;
    some_room = m.some_room;
    own = own;
    presence = presence;
    roots = roots;
    left = left;
  }

  -- the event is the next of the trail
  left_on : (e : Event) (found : Found)
      → own_after v.own e found ≡ own_along no_own (v.trail ++ took e found ∷ [])
  left_on e found = ap (λ (own : Own). own_after own e found) m.left
      ∙ sym (along_push no_own v.trail e found)

  -- the same cells, with other marks and another mode
  own_moved : {own : Own} (word : ℕ) → cells_in own.held ≡ cells_in v.own.held
      → HasLooked own.mode word → own.claims ≡ v.own.claims
      → HasOwn v.shape.cells room own held word claims
  own_moved word cells has_looked claims_is = record {
    held_is = cells ∙ m.own.held_is;
    held_below = m.own.held_below;
    held_fits = m.own.held_fits;
    mode_is = has_looked;
    claims_is = claims_is ∙ m.own.claims_is;
  }

  module _ (i : ℕ) (k : Learned) (p : P) where
    -- who has come in holds the anchor alone
    pub begin_keeps : (found : Presence) → v.presence.over ≡ false → 0 < v.shape.cells
        → IsMutator (told v (event.Begin i) (finds.Presence found) k p) number room (0 ∷ []) looked
        true found.status claims
    begin_keeps found over some = told_keeps
        record {
          held_is = refl;
          held_below = All-cons (λ c. c < v.shape.cells) 0 [] some
              (All-nil (λ c. c < v.shape.cells));
          held_fits = m.some_room;
          mode_is = no_look refl;
          claims_is = m.own.claims_is;
        }
        record { inside_is = refl; status_is = λ is. refl; not_over = λ is. over }
        record { fit = refl; some = λ is. omega arith; anchor = λ is. refl }
        (left_on (event.Begin i) (finds.Presence found))

    pub end_keeps : (found : Found)
        → IsMutator (told v (event.End i) found k p) number room [] looked false status claims
    end_keeps found = told_keeps
        record {
          held_is = refl;
          held_below = All-nil (λ c. c < v.shape.cells);
          held_fits = omega arith;
          mode_is = no_look refl;
          claims_is = m.own.claims_is;
        }
        record {
          inside_is = refl;
          status_is = λ is. let no = is in absurd cc;
          not_over = λ is. let no = is in absurd cc;
        }
        record {
          fit = refl;
          some = λ is. let no = is in absurd cc;
          anchor = λ is. let no = is in absurd cc;
        }
        (left_on (event.End i) found)

    pub over_keeps : (found : Found) → inside ≡ false
        → IsMutator (told v (event.Over i) found k p) number room held looked inside status claims
    over_keeps found out = told_keeps m.own
        record {
          inside_is = m.presence.inside_is;
          status_is = m.presence.status_is;
          not_over = λ is. let no = sym out ∙ is in absurd cc;
        }
        m.roots
        (left_on (event.Over i) found)

    pub look_keeps : (control : Control) {word : ℕ} → HasLooked (Some control) word
        → IsMutator (told v (event.Look i) (finds.Control control) k p) number room held word inside
        status claims
    look_keeps control {word} has_looked =
        told_keeps (own_moved word (cells_unmarked v.own.held) has_looked refl) m.presence
        (moved_roots m.roots unmark (cells_unmarked v.own.held))
        (left_on (event.Look i) (finds.Control control))

    pub read_keeps : (place f : ℕ) (found : Field) → NamesBelow v.shape.cells found
        → length held < room
        → IsMutator (told v (event.Read i place f) (finds.Field found) k p) number room
        (cells_read held found) looked inside status claims
    read_keeps place f found named free =
        let parts = read_own v.own found in
        told_keeps
        record {
          held_is = parts.0 ∙ ap (λ (cells : List ℕ). cells_read cells found) m.own.held_is;
          held_below = read_below v.shape.cells held found named m.own.held_below;
          held_fits = read_many held found room free;
          mode_is = still_looked parts.1 m.own.mode_is;
          claims_is = parts.2 ∙ m.own.claims_is;
        }
        m.presence (read_roots v.own place k found m.roots)
        (left_on (event.Read i place f) (finds.Field found))

    pub mark_keeps : (place : ℕ) (found : Found)
        → IsMutator (told v (event.Mark i place) found k p) number room held looked inside status
        claims
    mark_keeps place found =
        told_keeps
        (own_moved looked (cells_marked (cell_at v.own.held place) v.own.held) m.own.mode_is refl)
        m.presence (moved_roots m.roots (mark_of (cell_at v.own.held place))
        (cells_marked (cell_at v.own.held place) v.own.held))
        (left_on (event.Mark i place) found)

    pub write_keeps : (place f : ℕ) (old new : Field) (found : Found)
        → IsMutator (told v (event.Write i place f old new) found k p) number room held looked inside
        status claims
    write_keeps place f old new found =
        told_keeps (own_moved looked (cells_unmarked v.own.held) (no_look refl) refl) m.presence
        (written_roots m.roots unmark (cells_unmarked v.own.held) (was_made old found) place f new)
        (left_on (event.Write i place f old new) found)

    -- a fetch holds what it finds, as a read does
    pub fetch_keeps : (place f : ℕ) (found : Field) → NamesBelow v.shape.cells found
        → length held < room
        → IsMutator (told v (event.Fetch i place f) (finds.Field found) k p) number room
        (cells_read held found) looked inside status claims
    fetch_keeps place f found named free =
        let parts = read_own v.own found in
        told_keeps
        record {
          held_is = parts.0 ∙ ap (λ (cells : List ℕ). cells_read cells found) m.own.held_is;
          held_below = read_below v.shape.cells held found named m.own.held_below;
          held_fits = read_many held found room free;
          mode_is = still_looked parts.1 m.own.mode_is;
          claims_is = parts.2 ∙ m.own.claims_is;
        }
        m.presence (read_roots v.own place k found m.roots)
        (left_on (event.Fetch i place f) (finds.Field found))

    pub store_keeps : (new : Field) (found : Found)
        → IsMutator (told v (event.Store i new) found k p) number room held looked inside status
        claims
    store_keeps new found =
        let begun = pending_or_none v.own.pending in
        told_keeps (own_moved looked (cells_unmarked v.own.held) (no_look refl) refl) m.presence
        (written_roots m.roots unmark (cells_unmarked v.own.held) true begun.place begun.f new)
        (left_on (event.Store i new) found)

    pub claim_keeps : (c : ℕ) → c < v.shape.cells → length held < room
        → IsMutator (told v (event.Claim i c) (finds.Colour colour.Blue) k p) number room
        (held ++ c ∷ []) looked inside status (claims + 1)
    claim_keeps c below free = told_keeps
        record {
          held_is = cells_more v.own.held c
              ∙ ap (λ (cells : List ℕ). cells ++ c ∷ []) m.own.held_is;
          held_below = All-push (λ c. c < v.shape.cells) held c m.own.held_below below;
          held_fits = omega (arith, free, length-append held (c ∷ []));
          mode_is = no_look refl;
          claims_is = ap (λ (n : ℕ). n + 1) m.own.claims_is;
        }
        m.presence (more_roots m.roots (knows.Raw five_nulls) c)
        (left_on (event.Claim i c) (finds.Colour colour.Blue))

    pub missed_keeps : (c : ℕ) (found : Colour) → is_blue found ≡ false
        → IsMutator (told v (event.Claim i c) (finds.Colour found) k p) number room held looked
        inside status claims
    missed_keeps c found other =
        told_keeps
        (subst (λ (own : Own). HasOwn v.shape.cells room own held looked claims)
        (sym (missed_own v.own c found other)) m.own)
        m.presence
        (subst (λ (own : Own). HasRoots (known_claimed v.known (finds.Colour found)) own.held inside)
        (sym (missed_own v.own c found other)) (missed_roots v.known found other m.roots))
        (left_on (event.Claim i c) (finds.Colour found))

    pub fill_keeps : (place f : ℕ) (value : Field) (found : Found)
        → IsMutator (told v (event.Fill i place f value) found k p) number room held looked inside
        status claims
    fill_keeps place f value found =
        told_keeps m.own m.presence (stored_roots m.roots place f value)
        (left_on (event.Fill i place f value) found)

    pub seal_keeps : (place : ℕ) (of : Kind) (found : Found)
        → IsMutator (told v (event.Seal i place of) found k p) number room held looked inside status
        claims
    seal_keeps place of found = told_keeps m.own m.presence (sealed_roots m.roots _ _)
        (left_on (event.Seal i place of) found)

    pub answer_keeps : (found : Found)
        → IsMutator (told v (event.Answer i) found k p) number room held looked inside
        (next_status_of status) claims
    answer_keeps found = told_keeps
        (own_moved looked (cells_unmarked v.own.held) (no_look refl) refl)
        record {
          inside_is = m.presence.inside_is;
          status_is = λ is. ap (λ (x : Status). next_status_of x) (m.presence.status_is is);
          not_over = m.presence.not_over;
        }
        (moved_roots m.roots unmark (cells_unmarked v.own.held))
        (left_on (event.Answer i) found)

    pub keep_keeps : (n from copies : ℕ) (found : Found) → 1 ≤ n → n ≤ length held
        → from + copies ≤ length held → n + copies ≤ room
        → IsMutator (told v (event.Keep i n from copies) found k p) number room
        (cells_kept held n from copies) looked inside status claims
    keep_keeps n from copies found some first second fits =
        let cells = cells_kept_are v.own.held n from copies
        ∙ ap (λ (cells : List ℕ). cells_kept cells n from copies) m.own.held_is in
        told_keeps
        record {
          held_is = cells;
          held_below = kept_below (λ c. c < v.shape.cells) held n from copies m.own.held_below;
          held_fits = omega (arith, fits, kept_many held n from copies first second);
          mode_is = m.own.mode_is;
          claims_is = m.own.claims_is;
        }
        m.presence
        (kept_roots m.roots n from copies some
        (omega (
          arith,
          some,
          kept_many held n from copies first second,
          ap length cells,
          length-map (kept v.own.held n from copies) (λ (p : Held). p.cell),
        )))
        (left_on (event.Keep i n from copies) found)
