-- What each call of a mutator's seat owes at its step, from the condition of the call: said with
-- the numbers that the seat has at run time.
use Rattle.std.proofs.Common.{◌≡◌, ◌+◌, ℕ, Bool, true, false, List, Option, Some, refl, sym, ◌∙◌, ap, subst}
use Rattle.cell_words.specs.Colour.{pack_colour_of}
use Rattle.cell_words.specs.Field.{pack_field_of}
use Rattle.cell_words.specs.Modes.{claim_colour_of, next_status_of}
use Rattle.cell_words.specs.Presence.{pack_presence_of}
use Rattle.cell_words.specs.declared.colours.Colour.TheVariants as colour
use Rattle.cell_words.specs.declared.controls.Control.{Control}
use Rattle.cell_words.specs.declared.fields.Field.{Field}
use Rattle.cell_words.specs.declared.fields.Kind.{Kind}
use Rattle.cell_words.specs.declared.presences.Status.{Status}
use Rattle.core_machine.specs.declared.events.Event.{Event}
use Rattle.core_machine.specs.declared.events.Event.TheVariants as event
use Rattle.core_machine.specs.declared.events.Found.{Found}
use Rattle.core_machine.specs.State.{State}
use Rattle.core_machine.specs.Table.{Word, ColourOf, FieldOf, StatusOf, index_of}
use Rattle.core_machine.specs.WordOperations.{Operation, Exchange, Store, answered_presence}
use Rattle.core_machine.specs.WordOperations.{colour_exchange, left_by}
use Rattle.core_machine.specs.Words.{born_colour, kind_field}
use Rattle.heap_rule.specs.declared.known.Learned.{Learned}
use Rattle.heap_rule.specs.declared.view.View.{View}
use Rattle.heap_rule.specs.Asks.{Asks, MayAnswer, MayClaim, MayFill, MayMark, MaySeal, MayStore}
use Rattle.heap_rule.specs.Asks.{MayWrite, begun_of, target, told_by}
use Rattle.heap_rule.specs.Boxes.{Map, Smaller, boxes_by, boxes_of}
use Rattle.heap_rule.specs.Lore.{Lore}
use Rattle.heap_rule.specs.Steps.{Owes, Picks, StandsBy, same_pass}
use Rattle.heap_rule.proofs.Owing.{owes_answer, owes_claim, owes_fill, owes_mark, owes_seal}
use Rattle.heap_rule.proofs.Owing.{owes_store, owes_write}
use Rattle.heap_rule.proofs.Picking.{stands_by, stands_still}
use Rattle.mutator_events.specs.Seats.{IsMutator}

module _ {P : Type 0} (fixed : ℕ → Bool) {v : View P} {i room : ℕ} {held : List ℕ}
    {looked : ℕ} {inside : Bool} {status : Status} {claims : ℕ}
    (m : IsMutator v i room held looked inside status claims) where
  -- the maker's number, the word's index and the operation, as they are at run time
  pub owed_as : {at : ℕ} (make : ℕ → Event) (word : Word) (asked made : Operation)
      → index_of v.shape.mutators word ≡ at → asked ≡ made
      → Asks fixed v (make v.number) word asked
      → Owes fixed v (make i) at (left_by made) (told_by made)
  owed_as {at} make word asked made there same owes =
      subst (λ (n : ℕ). Owes fixed v (make n) at (left_by made) (told_by made)) m.number_is
      (subst (λ (n : ℕ). Owes fixed v (make v.number) n (left_by made) (told_by made)) there
      (subst (λ (o : Operation). Owes fixed v (make v.number) (index_of v.shape.mutators word)
      (left_by o) (told_by o)) same owes))

  -- an event on its own status word
  pub status_owed : {at : ℕ} (make : ℕ → Event) (o : Operation) → at ≡ 1 + i
      → Asks fixed v (make v.number) (StatusOf v.number) o
      → Owes fixed v (make i) at (left_by o) (told_by o)
  status_owed make o there owes =
      owed_as make (StatusOf v.number) o o
      (ap (λ (n : ℕ). 1 + n) m.number_is ∙ sym there) refl owes

  -- who is in knows its status, and that it is not over
  in_now : v.presence.inside ≡ true → inside ≡ true
  in_now is = sym m.presence.inside_is ∙ is

  -- The calls whose operands are words that the seat makes.

  pub fill_owed : {value at_run : Field} {at word : ℕ} (place f : ℕ) → at_run ≡ value
      → index_of v.shape.mutators (FieldOf (target v place) f) ≡ at → word ≡ pack_field_of at_run
      → MayFill v place f value
      → Owes fixed v (event.Fill i place f at_run) at (left_by (Store word)) (told_by (Store word))
  fill_owed {value} {at_run} {at} {word} place f is there packed may =
      owed_as (λ n. event.Fill n place f at_run) (FieldOf (target v place) f)
      (Store (pack_field_of at_run)) (Store word) there (ap (λ (n : ℕ). Store n) (sym packed))
      (λ s l mine. owes_fill fixed v s l mine place f at_run
      (subst (λ (x : Field). MayFill v place f x) (sym is) may))

  pub write_owed : {old new old_run new_run : Field} {at from to : ℕ} (place f : ℕ)
      → old_run ≡ old → new_run ≡ new
      → index_of v.shape.mutators (FieldOf (target v place) f) ≡ at
      → from ≡ pack_field_of old_run → to ≡ pack_field_of new_run → MayWrite fixed v place f old new
      → Owes fixed v (event.Write i place f old_run new_run) at (left_by (Exchange from to))
      (told_by (Exchange from to))
  write_owed {old} {new} {old_run} {new_run} {at} {from} {to} place f old_is new_is there first
      second may =
      owed_as (λ n. event.Write n place f old_run new_run) (FieldOf (target v place) f)
      (Exchange (pack_field_of old_run) (pack_field_of new_run)) (Exchange from to) there
      (λ t. Exchange (sym first t) (sym second t))
      (λ s l mine. owes_write fixed v s l mine place f old_run new_run
      (subst (λ (x : Field). MayWrite fixed v place f x new_run) (sym old_is)
      (subst (λ (x : Field). MayWrite fixed v place f old x) (sym new_is) may)))

  pub store_owed : {new new_run : Field} {at word : ℕ} (place f : ℕ) → new_run ≡ new
      → (begun_of v).place ≡ place → (begun_of v).f ≡ f
      → index_of v.shape.mutators (FieldOf (target v place) f) ≡ at
      → word ≡ pack_field_of new_run → MayStore fixed v new
      → Owes fixed v (event.Store i new_run) at (left_by (Store word)) (told_by (Store word))
  store_owed {new} {new_run} {at} {word} place f is place_is f_is there packed may =
      owed_as (λ n. event.Store n new_run) (FieldOf (target v (begun_of v).place) (begun_of v).f)
      (Store (pack_field_of new_run)) (Store word)
      (ap (λ (p : ℕ). index_of v.shape.mutators (FieldOf (target v p) (begun_of v).f)) place_is
      ∙ ap (λ (g : ℕ). index_of v.shape.mutators (FieldOf (target v place) g)) f_is ∙ there)
      (ap (λ (n : ℕ). Store n) (sym packed))
      (λ s l mine. owes_store fixed v s l mine new_run
      (subst (λ (x : Field). MayStore fixed v x) (sym is) may))

  pub seal_owed : {at word : ℕ} (place : ℕ) (of : Kind)
      → index_of v.shape.mutators (FieldOf (target v place) 5) ≡ at
      → word ≡ pack_field_of (kind_field of) → MaySeal v place of
      → Owes fixed v (event.Seal i place of) at (left_by (Store word)) (told_by (Store word))
  seal_owed {at} {word} place of there packed may =
      owed_as (λ n. event.Seal n place of) (FieldOf (target v place) 5)
      (Store (pack_field_of (kind_field of))) (Store word) there
      (ap (λ (n : ℕ). Store n) (sym packed)) (λ s l mine. owes_seal fixed v s l mine place of may)

  pub answer_owed : {at word : ℕ} {next : Status}
      → at ≡ 1 + i → next ≡ next_status_of status
      → word ≡ pack_presence_of (record { status = next; inside = true; over = false })
      → MayAnswer v
      → Owes fixed v (event.Answer i) at (left_by (Store word)) (told_by (Store word))
  answer_owed {at} {word} {next} there next_is packed may =
      let left : pack_presence_of (answered_presence v.presence) ≡ word =
      (λ t. pack_presence_of record {
        status = (ap (λ (s : Status). next_status_of s) (m.presence.status_is (in_now may.inside))
            ∙ sym next_is) t;
        inside = may.inside t;
        over = m.presence.not_over (in_now may.inside) t;
      })
      ∙ sym packed in
      owed_as (λ n. event.Answer n) (StatusOf v.number)
      (Store (pack_presence_of (answered_presence v.presence))) (Store word)
      (ap (λ (n : ℕ). 1 + n) m.number_is ∙ sym there)
      (ap (λ (n : ℕ). Store n) left) (λ s l mine. owes_answer fixed v s l mine may)

  pub mark_owed : {at from to : ℕ} (place : ℕ)
      → index_of v.shape.mutators (ColourOf (target v place)) ≡ at
      → from ≡ pack_colour_of colour.White → to ≡ pack_colour_of colour.Gray → MayMark v place
      → Owes fixed v (event.Mark i place) at (left_by (Exchange from to))
      (told_by (Exchange from to))
  mark_owed {at} {from} {to} place there first second may =
      owed_as (λ n. event.Mark n place) (ColourOf (target v place))
      (colour_exchange colour.White colour.Gray) (Exchange from to) there
      (λ t. Exchange (sym first t) (sym second t))
      (λ s l mine. owes_mark fixed v s l mine place may)

  pub claim_owed : {at from to : ℕ} {control : Control} (c : ℕ)
      → index_of v.shape.mutators (ColourOf c) ≡ at
      → from ≡ pack_colour_of colour.Blue → to ≡ pack_colour_of (claim_colour_of status control c)
      → v.own.mode ≡ Some control → MayClaim v c
      → Owes fixed v (event.Claim i c) at (left_by (Exchange from to)) (told_by (Exchange from to))
  claim_owed {at} {from} {to} c there first second mode_is may =
      let status_is = m.presence.status_is (in_now may.inside) in
      owed_as (λ n. event.Claim n c) (ColourOf c)
      (colour_exchange colour.Blue (born_colour v.presence.status v.own.mode c)) (Exchange from to)
      there
      (λ t. Exchange (sym first t)
      ((ap (λ (s : Status). pack_colour_of (born_colour s v.own.mode c)) status_is
      ∙ ap (λ (o : Option Control). pack_colour_of (born_colour status o c)) mode_is
      ∙ sym second) t))
      (λ s l mine. owes_claim fixed v s l mine c may)

  module _ (holds : Map → List P → Type 0) (shrinks : (old new : Map) (passes : List P)
      → Smaller old new → holds old passes → holds new passes) where
    -- the client's rule, where the pass stays
    pub still_as : (e : Event) → ((s : State) (l : Lore) → boxes_by s l e ≡ boxes_of s l)
        → StandsBy holds fixed same_pass v e
    still_as e same = stands_still holds fixed shrinks v e same

    -- and where the client picks it
    pub picked_as : (next : Learned → Found → P → P) (make : ℕ → Event)
        → Picks holds fixed next v (make v.number) → StandsBy holds fixed next v (make i)
    picked_as next make picks =
        subst (λ (n : ℕ). StandsBy holds fixed next v (make n)) m.number_is
        (stands_by holds fixed shrinks next v (make v.number) picks)

    pub fill_picked : {value at_run : Field} (next : Learned → Found → P → P) (place f : ℕ)
        → at_run ≡ value → Picks holds fixed next v (event.Fill v.number place f value)
        → StandsBy holds fixed next v (event.Fill i place f at_run)
    fill_picked {value} {at_run} next place f is picks =
        picked_as next (λ n. event.Fill n place f at_run)
        (subst (λ (x : Field). Picks holds fixed next v (event.Fill v.number place f x)) (sym is)
        picks)

    pub store_picked : {new new_run : Field} (next : Learned → Found → P → P) → new_run ≡ new
        → Picks holds fixed next v (event.Store v.number new)
        → StandsBy holds fixed next v (event.Store i new_run)
    store_picked {new} {new_run} next is picks =
        picked_as next (λ n. event.Store n new_run)
        (subst (λ (x : Field). Picks holds fixed next v (event.Store v.number x)) (sym is) picks)

    pub write_picked : {old new old_run new_run : Field} (next : Learned → Found → P → P)
        (place f : ℕ) → old_run ≡ old → new_run ≡ new
        → Picks holds fixed next v (event.Write v.number place f old new)
        → StandsBy holds fixed next v (event.Write i place f old_run new_run)
    write_picked {old} {new} {old_run} {new_run} next place f old_is new_is picks =
        picked_as next (λ n. event.Write n place f old_run new_run)
        (subst (λ (x : Field). Picks holds fixed next v (event.Write v.number place f x new_run))
        (sym old_is)
        (subst (λ (x : Field). Picks holds fixed next v (event.Write v.number place f old x))
        (sym new_is) picks))
