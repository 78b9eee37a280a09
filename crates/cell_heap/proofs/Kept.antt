-- The numbers that the seat has at hand follow its view.
use Rattle.std.proofs.Common.{◌≡◌, ℕ, Bool, true, Option, Some, None, is_some, length, refl, sym}
use Rattle.std.proofs.Common.{List, false}
use Rattle.std.proofs.lemmas.Bool.{false≢true}
use Rattle.std.proofs.Common.{◌∙◌, ap, subst}
use Rattle.std.specs.List.{list_all}
use Rattle.cell_heap.specs.declared.progress.Progress.{Progress}
use Rattle.cell_heap.specs.Collecting.{IsCollector, IsWithin}
use Rattle.cell_heap.specs.Progress.{progress_of}
use Rattle.cell_heap.proofs.Made.{Made}
use Rattle.cell_heap.proofs.Within.{answers_after, within_after}
use Rattle.cell_words.specs.declared.controls.Control.{Control}
use Rattle.core_machine.specs.declared.events.Event.{Event}
use Rattle.core_machine.specs.Collector.{collector_after, control_after}
use Rattle.core_machine.specs.Next.{after, found_by, maker}
use Rattle.core_machine.specs.State.{State}
use Rattle.core_machine.specs.declared.events.Event.TheVariants as event
use Rattle.core_machine.specs.declared.events.Found.{Found}
use Rattle.heap_rule.specs.Rule.{alone_after, alone_met, alone_on, over_found}
use Rattle.heap_rule.proofs.Alone.{over_found_long}
use Rattle.heap_rule.specs.declared.view.View.{View}
use Rattle.heap_table.specs.Seats.{SeatView}

met_some : (alone : Option State) (all : Bool) (e : Event) (now : State) → all ≡ true
    → is_some (alone_met alone all e now) ≡ true
met_some None true e now is = refl
met_some None false e now is = absurd (false≢true is)
met_some (Some s) all e now is = refl

on_some : (alone : Option State) (e : Event) → is_some alone ≡ true
    → is_some (alone_on alone e) ≡ true
on_some None e is = absurd (false≢true is)
on_some (Some s) e is = refl

-- what an event tells of mutators that are over leads to the state where all are
knows_on : (alone : Option State) (over : List Bool) (e : Event) (found : Found) (now : State)
    → (list_all (λ flag. flag) over ≡ true → is_some alone ≡ true)
    → list_all (λ flag. flag) (over_found over e found) ≡ true
    → is_some (alone_after alone (over_found over e found) e now) ≡ true
knows_on alone over (event.Poll i) found now old all = met_some alone _ (event.Poll i) now all
knows_on alone over (event.AnswerOut i flag) found now old all =
    met_some alone _ (event.AnswerOut i flag) now all
knows_on alone over e found now old all = on_some alone e (old all)

module _ {P : Type 0} {fixed : ℕ → Bool} {old inside new : SeatView P} {e : Event} {number : ℕ}
    {cells mutators : ℕ} {control : Control} {progress : Progress} where
  -- by the new control and the new progress, which the event's change of the view makes
  pub kept : (m : Made fixed old inside new e number)
      → IsCollector inside.me cells mutators control progress → maker e ≡ None
      → (next : Control) → control_after control e ≡ next
      → (further : Progress)
      → progress_of (collector_after inside.me.shape.cells inside.me.control inside.me.part e
      (found_by m.step.core e)) ≡ further
      → IsCollector new.me cells mutators next further
  kept m is made next goes further moves =
      let told = m.step.new in
      let cells_are : new.me.shape.cells ≡ cells =
      ap (λ (x : View P). x.shape.cells) told ∙ is.cells_are in
      let mutators_are : new.me.shape.mutators ≡ mutators =
      ap (λ (x : View P). x.shape.mutators) told ∙ is.mutators_are in
      let control_is : new.me.control ≡ next =
      ap (λ (x : View P). x.control) told
      ∙ ap (λ (x : Control). control_after x e) is.control_is ∙ goes in
      let progress_is : progress_of new.me.part ≡ further =
      ap (λ (x : View P). progress_of x.part) told ∙ moves in
      record {
        role_is = ap (λ (x : View P). x.role) told ∙ is.role_is;
        cells_are = cells_are;
        mutators_are = mutators_are;
        control_is = control_is;
        progress_is = progress_is;
        answers_fit = answers_after made m.step ∙ mutators_are;
        over_fit = ap (λ (x : View P). length x.over) told
            ∙ over_found_long inside.me.over e (found_by m.step.core e) ∙ is.over_fit;
        knows = λ some all.
            ap (λ (x : View P). is_some x.alone) told
            ∙ knows_on inside.me.alone inside.me.over e (found_by m.step.core e)
            (after m.step.core e) (is.knows some)
            (sym (ap (λ (x : View P). list_all (λ found. found) x.over) told) ∙ all);
        within =
            subst (λ (x : (ℕ × Control) × Progress). IsWithin x.0.0 x.0.1 x.1)
            (λ j. ((cells_are j, control_is j), progress_is j)) (within_after made m.step);
      }
