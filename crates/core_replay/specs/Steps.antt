-- The lines of a schedule after the first: events, and what else a line may ask for.
--
-- Words are looked at from the left to the right, and the first at fault counts.
-- Source: this project's.
use Rattle.std.specs.Prelude.{ℕ, Bool, true, false, List, [], ◌∷◌, codes, bytes_eq, if◌then◌else◌}
use Rattle.std.specs.Prelude.{Option, Some, None, Result, Ok, Err, ok_or}
use Rattle.cell_words.specs.declared.controls.Stage.{Stage}
use Rattle.cell_words.specs.declared.controls.Stage.TheVariants as stages
use Rattle.cell_words.specs.declared.fields.Kind.{Kind}
use Rattle.cell_words.specs.declared.fields.Kind.TheVariants as kinds
use Rattle.core_machine.specs.declared.events.Event.{Event}
use Rattle.core_machine.specs.declared.events.Event.TheVariants as event
use Rattle.line_texts.specs.Cut.{word_of, rest_of, next_word_of, next_rest_of}
use Rattle.core_replay.specs.Numbers.{and_then, index_in, value_in}
use Rattle.core_replay.specs.Start.{at_end}
use Rattle.core_replay.specs.declared.fault.ScheduleKind.{ScheduleKind}
use Rattle.core_replay.specs.declared.fault.ScheduleKind.TheVariants.{NoEvent}
use Rattle.core_replay.specs.declared.step.Step.{Step}
use Rattle.core_replay.specs.declared.step.Step.TheVariants.{Take, Plain, Show}
use Rattle.core_replay.specs.declared.verb.Verb.{Verb}
use Rattle.core_replay.specs.declared.verb.Verb.TheVariants as verbs
use Rattle.core_replay.specs.declared.verb.Single.{Single}
use Rattle.core_replay.specs.declared.verb.Single.TheVariants as singles

-- the first words.

-- steps that are one word
abbrev pub bare_step_of : List ℕ → Option Step
bare_step_of word =
    if bytes_eq word (codes "plain") then Some Plain
    else if bytes_eq word (codes "clear") then Some (Take event.ClearCell)
    else if bytes_eq word (codes "anchor") then Some (Take event.Anchor)
    else if bytes_eq word (codes "scan") then Some (Take event.Scan)
    else if bytes_eq word (codes "shade") then Some (Take event.Shade)
    else if bytes_eq word (codes "blacken") then Some (Take event.Blacken)
    else if bytes_eq word (codes "sweep") then Some (Take event.SweepLook)
    else if bytes_eq word (codes "wipe") then Some (Take event.Wipe)
    else if bytes_eq word (codes "free") then Some (Take event.Free)
    else if bytes_eq word (codes "whiten") then Some (Take event.Whiten)
    else if bytes_eq word (codes "advance") then Some (Take event.Advance)
    else None

-- steps with one number: of a mutator or of a cell
abbrev pub single_of : List ℕ → Option Single
single_of word =
    if bytes_eq word (codes "begin") then Some singles.Begin
    else if bytes_eq word (codes "look") then Some singles.Look
    else if bytes_eq word (codes "answer") then Some singles.Answer
    else if bytes_eq word (codes "end") then Some singles.End
    else if bytes_eq word (codes "over") then Some singles.Over
    else if bytes_eq word (codes "poll") then Some singles.Poll
    else if bytes_eq word (codes "see") then Some singles.See
    else if bytes_eq word (codes "show") then Some singles.Show
    else None

-- all others
abbrev pub verb_of : List ℕ → Option Verb
verb_of word =
    if bytes_eq word (codes "read") then Some verbs.Read
    else if bytes_eq word (codes "fetch") then Some verbs.Fetch
    else if bytes_eq word (codes "mark") then Some verbs.Mark
    else if bytes_eq word (codes "write") then Some verbs.Write
    else if bytes_eq word (codes "store") then Some verbs.Store
    else if bytes_eq word (codes "claim") then Some verbs.Claim
    else if bytes_eq word (codes "fill") then Some verbs.Fill
    else if bytes_eq word (codes "seal") then Some verbs.Seal
    else if bytes_eq word (codes "keep") then Some verbs.Keep
    else if bytes_eq word (codes "post") then Some verbs.Post
    else if bytes_eq word (codes "duty") then Some verbs.Duty
    else if bytes_eq word (codes "out") then Some verbs.Out
    else None

-- words that name a thing.

abbrev pub kind_of : List ℕ → Option Kind
kind_of word =
    if bytes_eq word (codes "record") then Some kinds.Record
    else if bytes_eq word (codes "box") then Some kinds.Boxed
    else None

abbrev pub stage_of : List ℕ → Option Stage
stage_of word =
    if bytes_eq word (codes "sync1") then Some stages.Sync1
    else if bytes_eq word (codes "clear") then Some stages.Clear
    else if bytes_eq word (codes "sync2") then Some stages.Sync2
    else if bytes_eq word (codes "trace") then Some stages.Trace
    else if bytes_eq word (codes "sweep") then Some stages.Sweep
    else if bytes_eq word (codes "idle") then Some stages.Idle
    else None

abbrev pub duty_of : List ℕ → Option Bool
duty_of word =
    if bytes_eq word (codes "on") then Some true
    else if bytes_eq word (codes "off") then Some false
    else None

-- what follows the first word.

abbrev pub single_step_of : Single → ℕ → Step
single_step_of singles.Begin i = Take (event.Begin i)
single_step_of singles.Look i = Take (event.Look i)
single_step_of singles.Answer i = Take (event.Answer i)
single_step_of singles.End i = Take (event.End i)
single_step_of singles.Over i = Take (event.Over i)
single_step_of singles.Poll i = Take (event.Poll i)
single_step_of singles.See c = Take (event.See c)
single_step_of singles.Show c = Show c

-- `begin I` and the like
abbrev pub single_in : Single → List ℕ → Result Step ScheduleKind
single_in single rest =
    and_then (index_in rest) (λ i. at_end (next_rest_of rest) (single_step_of single i))

-- `read I PLACE F`
abbrev pub read_in : List ℕ → Result Event ScheduleKind
read_in rest =
    let second = next_rest_of rest in
    let third = next_rest_of second in
    and_then (index_in rest) (λ i.
    and_then (index_in second) (λ place.
    and_then (index_in third) (λ f.
    at_end (next_rest_of third) (event.Read i place f))))

-- `fetch I PLACE F`
abbrev pub fetch_in : List ℕ → Result Event ScheduleKind
fetch_in rest =
    let second = next_rest_of rest in
    let third = next_rest_of second in
    and_then (index_in rest) (λ i.
    and_then (index_in second) (λ place.
    and_then (index_in third) (λ f.
    at_end (next_rest_of third) (event.Fetch i place f))))

-- `mark I PLACE`
abbrev pub mark_in : List ℕ → Result Event ScheduleKind
mark_in rest =
    let second = next_rest_of rest in
    and_then (index_in rest) (λ i.
    and_then (index_in second) (λ place.
    at_end (next_rest_of second) (event.Mark i place)))

-- `claim I C`
abbrev pub claim_in : List ℕ → Result Event ScheduleKind
claim_in rest =
    let second = next_rest_of rest in
    and_then (index_in rest) (λ i.
    and_then (index_in second) (λ c.
    at_end (next_rest_of second) (event.Claim i c)))

-- `write I PLACE F OLD NEW`
abbrev pub write_in : List ℕ → Result Event ScheduleKind
write_in rest =
    let second = next_rest_of rest in
    let third = next_rest_of second in
    let fourth = next_rest_of third in
    let fifth = next_rest_of fourth in
    and_then (index_in rest) (λ i.
    and_then (index_in second) (λ place.
    and_then (index_in third) (λ f.
    and_then (value_in fourth) (λ old.
    and_then (value_in fifth) (λ new.
    at_end (next_rest_of fifth) (event.Write i place f old new))))))

-- `store I NEW`
abbrev pub store_in : List ℕ → Result Event ScheduleKind
store_in rest =
    let second = next_rest_of rest in
    and_then (index_in rest) (λ i.
    and_then (value_in second) (λ new.
    at_end (next_rest_of second) (event.Store i new)))

-- `fill I PLACE F VALUE`
abbrev pub fill_in : List ℕ → Result Event ScheduleKind
fill_in rest =
    let second = next_rest_of rest in
    let third = next_rest_of second in
    let fourth = next_rest_of third in
    and_then (index_in rest) (λ i.
    and_then (index_in second) (λ place.
    and_then (index_in third) (λ f.
    and_then (value_in fourth) (λ value.
    at_end (next_rest_of fourth) (event.Fill i place f value)))))

-- `seal I PLACE record` or `seal I PLACE box`
abbrev pub seal_in : List ℕ → Result Event ScheduleKind
seal_in rest =
    let second = next_rest_of rest in
    let third = next_rest_of second in
    and_then (index_in rest) (λ i.
    and_then (index_in second) (λ place.
    and_then (ok_or (kind_of (next_word_of third)) NoEvent) (λ kind.
    at_end (next_rest_of third) (event.Seal i place kind))))

-- the last number of a `keep` that copies: how many, or 1 where it is not written
abbrev pub copies_in : ℕ → ℕ → ℕ → List ℕ → Result Event ScheduleKind
copies_in i count place [] = Ok (event.Keep i count place 1)
copies_in i count place (byte ∷ bytes) =
    and_then (index_in (byte ∷ bytes)) (λ copies.
    at_end (next_rest_of (byte ∷ bytes)) (event.Keep i count place copies))

-- the place where the copies of a `keep` begin, if it has any
abbrev pub place_in : ℕ → ℕ → List ℕ → Result Event ScheduleKind
place_in i count [] = Ok (event.Keep i count 0 0)
place_in i count (byte ∷ bytes) =
    and_then (index_in (byte ∷ bytes)) (λ place.
    copies_in i count place (next_rest_of (byte ∷ bytes)))

-- `keep I N`, `keep I N PLACE` or `keep I N PLACE K`
abbrev pub keep_in : List ℕ → Result Event ScheduleKind
keep_in rest =
    let second = next_rest_of rest in
    and_then (index_in rest) (λ i.
    and_then (index_in second) (λ count.
    place_in i count (next_rest_of second)))

-- `post STAGE`
abbrev pub post_in : List ℕ → Result Event ScheduleKind
post_in rest =
    and_then (ok_or (stage_of (next_word_of rest)) NoEvent) (λ stage.
    at_end (next_rest_of rest) (event.Post stage))

-- `duty on` or `duty off`
abbrev pub duty_in : List ℕ → Result Event ScheduleKind
duty_in rest =
    and_then (ok_or (duty_of (next_word_of rest)) NoEvent) (λ on.
    at_end (next_rest_of rest) (event.Duty on))

-- whether the word `over` ends an `out`
abbrev pub over_in : ℕ → List ℕ → Result Event ScheduleKind
over_in i [] = Ok (event.AnswerOut i false)
over_in i (byte ∷ bytes) =
    if bytes_eq (next_word_of (byte ∷ bytes)) (codes "over")
    then at_end (next_rest_of (byte ∷ bytes)) (event.AnswerOut i true)
    else Err NoEvent

-- `out I` or `out I over`
abbrev pub out_in : List ℕ → Result Event ScheduleKind
out_in rest = and_then (index_in rest) (λ i. over_in i (next_rest_of rest))

abbrev pub event_in : Verb → List ℕ → Result Event ScheduleKind
event_in verbs.Read rest = read_in rest
event_in verbs.Fetch rest = fetch_in rest
event_in verbs.Mark rest = mark_in rest
event_in verbs.Write rest = write_in rest
event_in verbs.Store rest = store_in rest
event_in verbs.Claim rest = claim_in rest
event_in verbs.Fill rest = fill_in rest
event_in verbs.Seal rest = seal_in rest
event_in verbs.Keep rest = keep_in rest
event_in verbs.Post rest = post_in rest
event_in verbs.Duty rest = duty_in rest
event_in verbs.Out rest = out_in rest

-- the whole line.

-- a line whose first word is neither a bare step nor one with a single number
abbrev pub other_of : Option Verb → List ℕ → Result Step ScheduleKind
other_of None rest = Err NoEvent
other_of (Some verb) rest = and_then (event_in verb rest) (λ event. Ok (Take event))

-- a line whose first word is no bare step
abbrev pub single_or_other_of : Option Single → List ℕ → List ℕ → Result Step ScheduleKind
single_or_other_of None word rest = other_of (verb_of word) rest
single_or_other_of (Some single) word rest = single_in single rest

abbrev pub bare_or_other_of : Option Step → List ℕ → List ℕ → Result Step ScheduleKind
bare_or_other_of None word rest = single_or_other_of (single_of word) word rest
bare_or_other_of (Some step) word rest = at_end rest step

-- the step of a line
abbrev pub step_of : List ℕ → Result Step ScheduleKind
step_of line = bare_or_other_of (bare_step_of (word_of line)) (word_of line) (rest_of line)
