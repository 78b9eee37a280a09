-- What a step of the collector's seat tells, in words of the seat that the call was given.
use Rattle.std.proofs.Common.{◌≡◌, ◌≤◌, ℕ, Bool, true, false, Option, sym, ◌∙◌, ap, subst}
use Rattle.std.proofs.lemmas.Bool.{and_parts, false≢true, not-true}
use Rattle.cell_heap.specs.Telling.{AtCollectorEvent, FindsJoined, FindsKnown, IsKnown}
use Rattle.cell_heap.specs.Telling.{collector_tells}
use Rattle.cell_words.specs.declared.colours.Colour.{Colour}
use Rattle.cell_words.specs.declared.fields.Field.{Field}
use Rattle.core_machine.specs.InRange.{NamesBelow}
use Rattle.core_machine.specs.declared.events.Event.TheVariants as event
use Rattle.core_machine.specs.Words.{is_gray}
use Rattle.core_machine.specs.declared.events.Event.{Event}
use Rattle.core_machine.specs.declared.events.Found.{Found}
use Rattle.core_machine.specs.declared.events.Found.TheVariants as finds
use Rattle.core_machine.specs.Next.{after, can, found_by}
use Rattle.core_machine.specs.State.{State, colour_of, greatest_cells}
use Rattle.core_machine.specs.WordOperations.{IsValidFound}
use Rattle.core_machine.proofs.HasWords.{found_valid}
use Rattle.dlg_core.specs.Collects.{AreOver}
use Rattle.heap_rule.specs.Asks.{collector_state}
use Rattle.heap_rule.specs.Rule.{IsAlone, told_collector}
use Rattle.heap_rule.specs.Steps.{AtCollectorStep}
use Rattle.heap_rule.specs.declared.view.View.{View}
use Rattle.heap_table.specs.Seats.{SeatView}

-- the sweep does not look at a gray cell
pub finds_no_gray : (s : State) (found : Colour) → can s event.SweepLook ≡ true
    → colour_of s s.control.position ≡ found → is_gray found ≡ false
finds_no_gray s found h is =
    ap is_gray (sym is) ∙ not-true (is_gray (colour_of s s.control.position)) (and_parts _ _ h).1

-- the event is a look at a presence
abbrev looks : Event → Bool
looks (event.Poll i) = true
looks (event.AnswerOut i over) = true
looks e = false

module _ {P : Type 0} where
  looks_not : (v : View P) (e : Event) (found : Found) → looks e ≡ false
      → FindsJoined v e found
  looks_not v (event.Poll i) found none = absurd (false≢true (sym none))
  looks_not v (event.AnswerOut i over) found none = absurd (false≢true (sym none))
  looks_not v e found none = tt

  -- The operation was made: the seat that the call was given, the same opened, and the one after
  -- it.
  pub record Made (fixed : ℕ → Bool) (old inside new : SeatView P) (e : Event)
      (number : ℕ) : Type 0 where
    pub is : inside ≡ old
    pub same : new.table ≡ inside.table
    pub step : AtCollectorStep fixed inside.me e number new.me

  module _ {fixed : ℕ → Bool} {old inside new : SeatView P} {e : Event} {number : ℕ}
      (m : Made fixed old inside new e number) where
    -- the seat was told an event that is no look at a presence
    pub tells : (found : Found)
        → new.me ≡ told_collector inside.me e found (collector_state inside.me)
        → new ≡ collector_tells old e found
    tells found told =
        let here : new ≡ collector_tells inside e found =
        (λ t. record { table = m.same t; me = told t }) in
        here ∙ ap (λ (s : SeatView P). collector_tells s e found) m.is

    -- and one that found a colour
    pub tells_colour : (found k : Colour) → found ≡ k
        → new.me ≡ told_collector inside.me e (finds.Colour found) (collector_state inside.me)
        → new ≡ collector_tells old e (finds.Colour k)
    tells_colour found k is told =
        tells (finds.Colour k) (told ∙ ap (λ (x : Colour).
        told_collector inside.me e (finds.Colour x) (collector_state inside.me)) is)

    -- or a field
    pub tells_field : (found x : Field) → found ≡ x
        → new.me ≡ told_collector inside.me e (finds.Field found) (collector_state inside.me)
        → new ≡ collector_tells old e (finds.Field x)
    tells_field found x is told =
        tells (finds.Field x) (told ∙ ap (λ (y : Field).
        told_collector inside.me e (finds.Field y) (collector_state inside.me)) is)

    -- a look at a presence, with the state at the step
    pub at_event : (found : Found) → found_by m.step.core e ≡ found
        → AtCollectorEvent fixed old.me e found new.me
    at_event found is =
        let at = m.step in
        subst (λ (s : SeatView P). AtCollectorEvent fixed s.me e found new.me) m.is record {
          core = at.core;
          lore = at.lore;
          ours = at.ours;
          happens = at.happens;
          found_is = is;
          new = at.new
              ∙ ap (λ (x : Found). told_collector inside.me e x (after at.core e)) is;
        }

    -- what was found has a word
    pub finds_valid : IsValidFound (found_by m.step.core e)
    finds_valid =
        let at = m.step in
        found_valid at.core e record {
          shape = at.ours.shown.shaped;
          few_cells = subst (λ (n : ℕ). n ≤ greatest_cells) (sym at.ours.cells) at.ours.few;
        } at.ours.shown.words

    -- a field that was found names a cell that there is
    pub finds_below : (x y : Field) → NamesBelow m.step.core.cells x → x ≡ y
        → NamesBelow old.me.shape.cells y
    finds_below x y names same =
        subst (λ (z : ℕ × Field). NamesBelow z.0 z.1)
        (λ j. ((m.step.ours.cells ∙ ap (λ (s : SeatView P). s.me.shape.cells) m.is) j, same j))
        names

    -- where the collector knows the state it is the one at the step
    pub finds_known : (found : Found) → found_by m.step.core e ≡ found
        → FindsJoined inside.me e found → FindsKnown old.me e found
    finds_known found is joined =
        let at = m.step in
        subst (λ (s : SeatView P). FindsKnown s.me e found) m.is record {
          known = λ s alone.
              let here : (s ≡ at.core) × AreOver at.core =
              subst (λ (a : Option State). IsAlone a at.core) alone at.ours.alone in
              subst (λ (x : State). IsKnown inside.me x e found) (sym here.0) record {
                shaped = at.ours.shown.shaped;
                consistent = at.ours.shown.consistent;
                over = here.1;
                cells = at.ours.cells;
                control = at.ours.control;
                part = at.ours.part;
                happens = at.happens;
                found_is = is;
              };
          joined = joined;
        }

    -- of an event that looks at no presence
    pub knows : (found : Found) → found_by m.step.core e ≡ found → looks e ≡ false
        → FindsKnown old.me e found
    knows found is none = finds_known found is (looks_not inside.me e found none)

  abbrev pub made : {fixed : ℕ → Bool} {old inside new : SeatView P} {e : Event} {number : ℕ}
      → inside ≡ old → new.table ≡ inside.table → AtCollectorStep fixed inside.me e number new.me
      → Made fixed old inside new e number
  made is same step = record { is = is; same = same; step = step }

  -- of a seat that was given as such
  abbrev pub made_of : {fixed : ℕ → Bool} {e : Event} {number : ℕ} (old new : SeatView P)
      → new.table ≡ old.table → AtCollectorStep fixed old.me e number new.me
      → Made fixed old old new e number
  made_of old new same step = record { is = λ j. old; same = same; step = step }
