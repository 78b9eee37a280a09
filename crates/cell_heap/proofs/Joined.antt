-- A number found in a joined mutator's status word says that it is over: the flag is the word's
-- highest bit.
use Rattle.std.proofs.Common.{◌≡◌, ◌≤◌, ◌<◌, ◌+◌, ℕ, Bool, true, false}
use Rattle.std.proofs.Common.{refl, ap, arith}
use Rattle.cell_heap.specs.Telling.{JoinedFound}
use Rattle.cell_words.specs.Presence.{flag_of, pack_presence_of, pack_status_of}
use Rattle.cell_words.specs.declared.presences.Presence.{Presence}
use Rattle.cell_words.specs.declared.presences.Status.{Status}
use Rattle.cell_words.specs.declared.presences.Status.TheVariants as status
use Rattle.core_machine.specs.Table.{StatusOf, index_of}
use Rattle.core_machine.specs.declared.events.Found.TheVariants as finds
use Rattle.heap_rule.specs.declared.view.View.{View}
use Rattle.heap_table.specs.Joined.{IsOverWord, JoinedIsOver}

low_status : (s : Status) → pack_status_of s ≤ 2
low_status status.Async = omega arith
low_status status.Sync1 = omega arith
low_status status.Sync2 = omega arith

low_inside : (inside : Bool) → flag_of inside 4 ≤ 4
low_inside true = omega arith
low_inside false = omega arith

high : (number : ℕ) → IsOverWord number → 8 ≤ number
high number is =
    let word = is.word_is in
    let flag = ap (λ (over : Bool). flag_of over 8) is.over in
    omega (arith, word, flag)

is_over : (s : Status) (inside over : Bool) (number : ℕ)
    → pack_status_of s + flag_of inside 4 + flag_of over 8 ≡ number → 8 ≤ number
    → over ≡ true
is_over s inside true number is le = refl
is_over s inside false number is le =
    absurd (omega (arith, low_status s, low_inside inside, is, le))

pub joined_over : {P : Type 0} (v : View P) (i word number : ℕ) (found : Presence)
    → i < v.shape.mutators → JoinedIsOver v word number
    → word ≡ index_of v.shape.mutators (StatusOf i) → pack_presence_of found ≡ number
    → JoinedFound v (finds.Presence found)
joined_over v i word number found there tells at is joined =
    is_over found.status found.inside found.over number is
    (high number (tells i (joined i there) at))
