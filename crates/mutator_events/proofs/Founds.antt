-- What a step of a mutator's seat found, from the number that its operation told; and that the step
-- is the event with this found.
use Rattle.std.proofs.Common.{◌≡◌, ◌≢◌, ◌<◌, ◌≤◌, ◌+◌, ◌^◌, ℕ, Bool, true, false}
use Rattle.std.proofs.Common.{◌⊎◌, inl, inr, List, Option, None, Some, sym, ◌∙◌, ap, subst, arith}
use Rattle.std.proofs.lemmas.Bool.{ne_eqb}
use Rattle.cell_words.specs.Colour.{IsColourWord, pack_colour_of}
use Rattle.std.proofs.lemmas.Nat.{mul-le}
use Rattle.cell_words.specs.Control.{IsControlWord, IsValidControl, greatest_position_of}
use Rattle.cell_words.specs.Control.{pack_control_of}
use Rattle.cell_words.specs.declared.controls.Stage.{Stage}
use Rattle.cell_words.specs.declared.controls.Stage.TheVariants as stage
use Rattle.core_machine.specs.declared.progress.Sweeping.{Sweeping}
use Rattle.core_machine.specs.declared.progress.Sweeping.TheVariants as sweeping
use Rattle.cell_words.specs.Field.{IsFieldWord, IsValidField, pack_field_of}
use Rattle.cell_words.specs.Presence.{IsPresenceWord, is_valid_presence, pack_presence_of}
use Rattle.cell_words.specs.declared.colours.Colour.{Colour}
use Rattle.cell_words.specs.declared.colours.Colour.TheVariants as colour
use Rattle.cell_words.specs.declared.controls.Control.{Control}
use Rattle.cell_words.specs.declared.fields.Field.{Field}
use Rattle.cell_words.specs.declared.presences.Presence.{Presence}
use Rattle.core_machine.specs.declared.events.Event.{Event}
use Rattle.core_machine.specs.declared.events.Event.TheVariants as event
use Rattle.core_machine.specs.declared.events.Found.{Found}
use Rattle.core_machine.specs.declared.events.Found.TheVariants as finds
use Rattle.core_machine.specs.InRange.{InRange, NamesBelow, swept_count}
use Rattle.core_machine.specs.Next.{found_by}
use Rattle.core_machine.specs.Own.{Own}
use Rattle.core_machine.specs.State.{State, colour_of, field_of, greatest_cells, presence_of}
use Rattle.core_machine.specs.State.{target_of}
use Rattle.core_machine.specs.WordOperations.{IsValidFound}
use Rattle.core_machine.specs.Words.{is_blue, same_field}
use Rattle.core_machine.proofs.HasWords.{found_valid}
use Rattle.core_machine.proofs.WordOperations.{same_packed}
use Rattle.heap_rule.specs.declared.known.Learned.{Learned}
use Rattle.heap_rule.specs.declared.view.View.{View}
use Rattle.heap_rule.specs.Boxes.{Map}
use Rattle.heap_rule.specs.Lore.{Lore, learned}
use Rattle.heap_rule.specs.Rule.{told}
use Rattle.heap_rule.specs.Steps.{AtStep, Mine}
use Rattle.mutator_events.specs.Events.{AtEvent}
use Rattle.mutator_events.specs.Seats.{HasLooked}

-- the state at a step is one with words
in_range : {P : Type 0} (fixed : ℕ → Bool) (v : View P) (s : State) (l : Lore) → Mine fixed v s l
    → InRange s
in_range fixed v s l mine = record {
  shape = mine.shown.shaped;
  few_cells = subst (λ (n : ℕ). n ≤ greatest_cells) (sym mine.cells) mine.few;
}

swept_low : (position : ℕ) (sweep : Sweeping) → swept_count position sweep ≤ position + 1
swept_low position sweeping.Fresh = omega arith
swept_low position (sweeping.Wiping k) = omega arith
swept_low position sweeping.BlackFound = omega arith
swept_low position sweeping.Done = omega arith

stage_low : (at : Stage) → greatest_position_of at ≤ greatest_cells
stage_low stage.Idle = omega arith
stage_low stage.Sync1 = omega arith
stage_low stage.Clear = omega arith
stage_low stage.Sync2 = omega arith
stage_low stage.Trace = omega arith
stage_low stage.Sweep = omega arith

abbrev control_or : Control → Option Control → Control
control_or control None = control
control_or control (Some other) = other

-- what a mutator knows of its presence: all but the status
known_presence : {P : Type 0} (fixed : ℕ → Bool) (v : View P) (s : State) (l : Lore)
    → Mine fixed v s l
    → presence_of s v.number ≡ record v.presence { status = (presence_of s v.number).status }
known_presence fixed v s l mine = λ t. record {
  status = (presence_of s v.number).status;
  inside = sym mine.presence.inside t;
  over = sym mine.presence.over t;
}

-- and while it is in all of it
inside_presence : {P : Type 0} (fixed : ℕ → Bool) (v : View P) (s : State) (l : Lore)
    → Mine fixed v s l → v.presence.inside ≡ true → presence_of s v.number ≡ v.presence
inside_presence fixed v s l mine inside = λ t. record {
  status = sym (mine.presence.status inside) t;
  inside = sym mine.presence.inside t;
  over = sym mine.presence.over t;
}

module _ {P : Type 0} {holds : Map → List P → Type 0} {fixed : ℕ → Bool}
    {next : Learned → Found → P → P} {v w : View P} {number : ℕ} where
  -- what was found has a word
  pub there_valid : (e : Event) (at : AtStep holds fixed v e next number w)
      → IsValidFound (found_by at.core e)
  there_valid e at =
      found_valid at.core e (in_range fixed v at.core at.lore at.mine) at.mine.shown.words

  pub at_event : (e : Event) (found : Found) (at : AtStep holds fixed v e next number w)
      → found_by at.core e ≡ found → AtEvent holds fixed v e next found w
  at_event e found at is = record {
    core = at.core;
    lore = at.lore;
    passes = at.passes;
    mine = at.mine;
    happens = at.happens;
    kept = at.kept;
    pass = at.pass;
    found_is = is;
    new = at.new
        ∙ ap (λ (x : Found). told v e x (learned at.core at.lore e)
        (next (learned at.core at.lore e) x v.pass)) is;
  }

  -- the maker's number at run time is the view's
  pub renumbered : (i : ℕ) (make : ℕ → Event) → v.number ≡ i
      → AtStep holds fixed v (make i) next number w
      → AtStep holds fixed v (make v.number) next number w
  renumbered i make is at = subst (λ (n : ℕ). AtStep holds fixed v (make n) next number w)
      (sym is) at

  -- Controls.

  pub look_word : {i : ℕ} → AtStep holds fixed v (event.Look i) next number w
      → IsControlWord number
  look_word {i} at = (at.core.control, there_valid (event.Look i) at, at.says)

  pub look_found : {i : ℕ} (control : Control)
      → ((other : Control) → IsValidControl other → pack_control_of other ≡ number
      → control ≡ other)
      → (at : AtStep holds fixed v (event.Look i) next number w)
      → found_by at.core (event.Look i) ≡ finds.Control control
  look_found {i} control is at =
      ap (λ (c : Control). finds.Control c)
      (sym (is at.core.control (there_valid (event.Look i) at) at.says))

  pub look_looked : {i : ℕ} (control : Control)
      → ((other : Control) → IsValidControl other → pack_control_of other ≡ number
      → control ≡ other)
      → AtStep holds fixed v (event.Look i) next number w → HasLooked (Some control) number
  look_looked {i} control is at other same =
      let valid = there_valid (event.Look i) at in
      let it : at.core.control ≡ other =
      sym (is at.core.control valid at.says) ∙ ap (control_or control) same in (
        subst IsValidControl it valid,
        subst (λ (c : Control). pack_control_of c ≡ number) it at.says,
      )

  -- Presences.

  pub begin_word : {i : ℕ} → AtStep holds fixed v (event.Begin i) next number w
      → IsPresenceWord number
  begin_word {i} at = (presence_of at.core i, there_valid (event.Begin i) at, at.says)

  pub begin_found : (presence : Presence)
      → ((other : Presence) → is_valid_presence other ≡ true → pack_presence_of other ≡ number
      → presence ≡ other)
      → (at : AtStep holds fixed v (event.Begin v.number) next number w)
      → found_by at.core (event.Begin v.number)
      ≡ finds.Presence (record v.presence { status = presence.status })
  begin_found presence is at =
      ap (λ (p : Presence). finds.Presence p)
      (known_presence fixed v at.core at.lore at.mine
      ∙ ap (λ (p : Presence). record v.presence { status = p.status })
      (sym (is (presence_of at.core v.number) (there_valid (event.Begin v.number) at) at.says)))

  pub over_found : (at : AtStep holds fixed v (event.Over v.number) next number w)
      → found_by at.core (event.Over v.number)
      ≡ finds.Presence (record v.presence { status = (presence_of at.core v.number).status })
  over_found at =
      ap (λ (p : Presence). finds.Presence p) (known_presence fixed v at.core at.lore at.mine)

  pub end_found : v.presence.inside ≡ true
      → (at : AtStep holds fixed v (event.End v.number) next number w)
      → found_by at.core (event.End v.number) ≡ finds.Presence v.presence
  end_found inside at =
      ap (λ (p : Presence). finds.Presence p)
      (inside_presence fixed v at.core at.lore at.mine inside)

  pub keep_found : (n from copies : ℕ) → v.presence.inside ≡ true
      → (at : AtStep holds fixed v (event.Keep v.number n from copies) next number w)
      → found_by at.core (event.Keep v.number n from copies) ≡ finds.Presence v.presence
  keep_found n from copies inside at =
      ap (λ (p : Presence). finds.Presence p)
      (inside_presence fixed v at.core at.lore at.mine inside)

  -- Colours.

  pub claim_word : {i c : ℕ} → AtStep holds fixed v (event.Claim i c) next number w
      → IsColourWord number
  claim_word {i} {c} at = (colour_of at.core c, at.says)

  pub claim_found : {i : ℕ} (c : ℕ) (colour : Colour)
      → ((other : Colour) → pack_colour_of other ≡ number → colour ≡ other)
      → (at : AtStep holds fixed v (event.Claim i c) next number w)
      → found_by at.core (event.Claim i c) ≡ finds.Colour colour
  claim_found c colour is at =
      ap (λ (x : Colour). finds.Colour x) (sym (is (colour_of at.core c) at.says))

  -- the count of claims fits its word
  pub claims_fit : (e : Event) → AtStep holds fixed v e next number w → v.own.claims + 1 < 2 ^ 64
  claims_fit e at =
      let s = at.core in
      let r = in_range fixed v s at.lore at.mine in
      let counts = r.shape.counts_fit in
      let valid = found_valid s (event.Look 0) r at.mine.shown.words in
      let many = mul-le s.control.cycles s.cells 4000000000 greatest_cells valid.cycles
      r.few_cells in
      let own = ap (λ (o : Own). o.claims) at.mine.own in
      let swept = swept_low s.control.position s.collector.sweep in
      let position = stage_low s.control.stage in
      omega (
        arith,
        own,
        many,
        swept,
        position,
        valid.position,
        r.few_cells,
        counts.claims_fit v.number,
        counts.freed_fits,
      )

  -- Fields.

  pub read_word : {i place f : ℕ} → AtStep holds fixed v (event.Read i place f) next number w
      → IsFieldWord number
  read_word {i} {place} {f} at = (
    field_of at.core (target_of at.core i place) f,
    there_valid (event.Read i place f) at,
    at.says,
  )

  pub read_found : {i : ℕ} (place f : ℕ) (field : Field)
      → ((other : Field) → IsValidField other → pack_field_of other ≡ number → field ≡ other)
      → (at : AtStep holds fixed v (event.Read i place f) next number w)
      → found_by at.core (event.Read i place f) ≡ finds.Field field
  read_found {i} place f field is at =
      ap (λ (x : Field). finds.Field x)
      (sym (is (field_of at.core (target_of at.core i place) f)
      (there_valid (event.Read i place f) at) at.says))

  -- it names a cell of the heap, or none
  pub read_named : {i : ℕ} (place f : ℕ) (field : Field)
      → (at : AtStep holds fixed v (event.Read i place f) next number w)
      → ((other : Field) → IsValidField other → pack_field_of other ≡ number → field ≡ other)
      → NamesBelow v.shape.cells field
  read_named {i} place f field at is =
      let there = field_of at.core (target_of at.core i place) f in
      subst (λ (x : Field). NamesBelow v.shape.cells x)
      (sym (is there (there_valid (event.Read i place f) at) at.says))
      (subst (λ (n : ℕ). NamesBelow n there) at.mine.cells
      (at.mine.shown.shaped.names_fit.fields_fit (target_of at.core i place) f))

  pub fetch_word : {i place f : ℕ} → AtStep holds fixed v (event.Fetch i place f) next number w
      → IsFieldWord number
  fetch_word {i} {place} {f} at = (
    field_of at.core (target_of at.core i place) f,
    there_valid (event.Fetch i place f) at,
    at.says,
  )

  pub fetch_found : {i : ℕ} (place f : ℕ) (field : Field)
      → ((other : Field) → IsValidField other → pack_field_of other ≡ number → field ≡ other)
      → (at : AtStep holds fixed v (event.Fetch i place f) next number w)
      → found_by at.core (event.Fetch i place f) ≡ finds.Field field
  fetch_found {i} place f field is at =
      ap (λ (x : Field). finds.Field x)
      (sym (is (field_of at.core (target_of at.core i place) f)
      (there_valid (event.Fetch i place f) at) at.says))

  pub fetch_named : {i : ℕ} (place f : ℕ) (field : Field)
      → (at : AtStep holds fixed v (event.Fetch i place f) next number w)
      → ((other : Field) → IsValidField other → pack_field_of other ≡ number → field ≡ other)
      → NamesBelow v.shape.cells field
  fetch_named {i} place f field at is =
      let there = field_of at.core (target_of at.core i place) f in
      subst (λ (x : Field). NamesBelow v.shape.cells x)
      (sym (is there (there_valid (event.Fetch i place f) at) at.says))
      (subst (λ (n : ℕ). NamesBelow n there) at.mine.cells
      (at.mine.shown.shaped.names_fit.fields_fit (target_of at.core i place) f))

  pub write_word : {i place f : ℕ} {old new : Field}
      → AtStep holds fixed v (event.Write i place f old new) next number w → IsFieldWord number
  write_word {i} {place} {f} {old} {new} at = (
    field_of at.core (target_of at.core i place) f,
    there_valid (event.Write i place f old new) at,
    at.says,
  )

  pub write_found : {i : ℕ} (place f : ℕ) (old new field : Field)
      → ((other : Field) → IsValidField other → pack_field_of other ≡ number → field ≡ other)
      → (at : AtStep holds fixed v (event.Write i place f old new) next number w)
      → found_by at.core (event.Write i place f old new) ≡ finds.Field field
  write_found {i} place f old new field is at =
      ap (λ (x : Field). finds.Field x)
      (sym (is (field_of at.core (target_of at.core i place) f)
      (there_valid (event.Write i place f old new) at) at.says))

  -- the words of another field are other ones
  pub other_field : {i place f : ℕ} {old new field : Field}
      → ((other : Field) → IsValidField other → pack_field_of other ≡ number → field ≡ other)
      → (at : AtStep holds fixed v (event.Write i place f old new) next number w)
      → number ≢ pack_field_of old → same_field field old ≡ false
  other_field {i} {place} {f} {old} {new} {field} is at other =
      let there = field_of at.core (target_of at.core i place) f in
      let valid = there_valid (event.Write i place f old new) at in
      ap (λ (x : Field). same_field x old) (is there valid at.says)
      ∙ sym (same_packed there old)
      ∙ ne_eqb (pack_field_of there) (pack_field_of old) (λ same. other (sym at.says ∙ same))

-- a colour that is none of the others is not blue
pub not_blue : (found : Colour)
    → (found ≡ colour.White) ⊎ ((found ≡ colour.Gray) ⊎ (found ≡ colour.Black))
    → is_blue found ≡ false
not_blue found is = elim is [
  | inl white ↦ ap is_blue white
  | inr rest ↦ elim rest [
    | inl gray ↦ ap is_blue gray
    | inr black ↦ ap is_blue black
  ]
]
