-- Answers for mutators that are out: whoever a look finds out is answered for right after it.
-- Source: this project's.
use Rattle.std.specs.Prelude.{◌≡◌, IsTrue, List, [], ◌∷◌}
use Rattle.cell_words.specs.Modes.{requested_of}
use Rattle.cell_words.specs.declared.controls.Stage.{Stage}
use Rattle.core_machine.specs.Words.{may_answer_out}
use Rattle.core_machine.specs.declared.events.Event.{Event}
use Rattle.core_machine.specs.declared.events.Event.TheVariants as event
use Rattle.core_machine.specs.declared.events.Found.{Found}
use Rattle.core_machine.specs.declared.events.Found.TheVariants as finds
use Rattle.core_machine.specs.declared.events.Taken.{Taken}

-- the events begin with this one
abbrev pub BeginWith : Event → List Taken → Type 0
BeginWith e [] = ⊥
BeginWith e (t ∷ ts) = t.event ≡ e

-- Where a Poll finds a mutator out with the status before the requested one, over or not, the next
-- event is the AnswerOut for it.
abbrev pub AnswersNext : Stage → Event → Found → List Taken → Type 0
AnswersNext stage (event.Poll i) (finds.Presence found) next =
    IsTrue (may_answer_out (requested_of stage) found.over found)
    → BeginWith (event.AnswerOut i found.over) next
AnswersNext stage _ found next = Unit {0}

abbrev pub stage_after : Stage → Event → Stage
stage_after stage (event.Post target) = target
stage_after stage _ = stage

-- so it is with each Poll of these events, the first of which comes at this stage
abbrev pub AnswersWhoIsOut : Stage → List Taken → Type 0
AnswersWhoIsOut stage [] = Unit {0}
AnswersWhoIsOut stage (t ∷ ts) = AnswersNext stage t.event t.found ts
    × AnswersWhoIsOut (stage_after stage t.event) ts
