-- The result of a run of a mailbox: what each line was answered, the items, and what the seats had
-- at the close.
--
-- All is said of one heap that was opened for this run and closed after it, with a mutator for each
-- sender and the last one for the receiver.
-- Source: this project's.
use Rattle.std.specs.Prelude.{ℕ, ◌≡◌, ◌≤◌, ◌<◌, ◌+◌, ◌++◌, List, [], ◌∷◌, length, map, flat_map}
use Rattle.std.specs.Prelude.{Contains, Option, Some, None, Vec}
use Rattle.std.specs.List.{range_with_len}
use Rattle.std.specs.List.Sorted.{IsStrictlyIncreasing}
use Rattle.std.specs.declared.alloc.Global.{Global}
use mathlib.Core.Option.{some}
use lib.ListN.{get_elem?}
use Rattle.dlg_core.specs.Collects.{IsTidy}
use Rattle.dlg_core.specs.Sums.{claims_of}
use Rattle.heap_rule.specs.Laws.{Ended}
use Rattle.heap_rule.specs.declared.view.Place.{Place}
use Rattle.heap_rule.specs.declared.view.Place.TheVariants as places
use Rattle.heap_rule.specs.declared.view.Share.{Share}
use Rattle.heap_rule.specs.declared.view.View.{View}
use Rattle.mail_rule.specs.Counted.{EachOnce}
use Rattle.mail_rule.specs.Mail.{HoldsMail, is_fixed}
use Rattle.mail_rule.specs.Passes.{opening_pass}
use Rattle.mail_rule.specs.declared.items.Item.{Item}
use Rattle.mail_rule.specs.declared.mail_pass.MailPass.{MailPass}
use Rattle.mail_threads.specs.Opened.{mail_shape}
use Rattle.mail_threads.specs.Receipts.{Empties, Receives}
use Rattle.mail_threads.specs.Taken.{HasPosted, answers_of}
use Rattle.beside_collector.specs.Service.{IsService}
use Rattle.trails.specs.Marks.{marks_of}

-- how many lines there are
abbrev pub lines_in : List (List ℕ) → ℕ
lines_in [] = 0
lines_in (script ∷ scripts) = length script + lines_in scripts

-- the positions among these answers, in order
abbrev pub positions_in : List (Option ℕ) → List ℕ
positions_in [] = []
positions_in (Some position ∷ answers) = position ∷ positions_in answers
positions_in (None ∷ answers) = positions_in answers

-- the positions of sender i rise
pub record HasRisen (sent : List (List (Option ℕ))) (i : ℕ) : Type 0 where
  pub answers : List (Option ℕ)
  pub answers_at : get_elem? sent i ≡ some answers
  pub rise : IsStrictlyIncreasing (positions_in answers)

-- the item is the line that has its position
pub record IsLine (scripts : List (List ℕ)) (sent : List (List (Option ℕ))) (item : Item)
    : Type 0 where
  pub i : ℕ
  pub sender_is : item.sender ≡ i + 1
  pub lines : List ℕ
  pub lines_at : get_elem? scripts i ≡ some lines
  pub answers : List (Option ℕ)
  pub answers_at : get_elem? sent i ≡ some answers
  pub place : ℕ
  pub value_at : get_elem? lines place ≡ some item.value
  pub position_at : get_elem? answers place ≡ some (Some item.position)

-- The receiver's seat was joined: its pass has these takes. Its trail has a stretch for each of so
-- many lines, one after the other, and after them more, of which the last found nothing.
pub record HasTaken (lines : ℕ) (taken : List Item) (joined : List (Place MailPass)) (i : ℕ)
    : Type 0 where
  pub share : Share MailPass
  pub share_at : get_elem? joined i ≡ some (places.Joined share)
  pub receives : Receives lines taken share.pass (marks_of share.trail)
  pub emptied : Empties lines (marks_of share.trail)

pub record ComesMail (cells cycles : ℕ) (scripts : List (List ℕ))
    (sent : List (Vec (Option ℕ) Global)) (items : List Item) (passes : View MailPass)
    : Type 0 where
  -- the heap was a mailbox's
  pub words : List ℕ
  pub ended : Ended opening_pass HoldsMail is_fixed (mail_shape cells (length scripts)) (Unit {0})
      words passes
  -- each line has its position or none; each position from 1 on belongs to one line
  pub many : length sent ≡ length scripts
  pub posted : (i : ℕ) → i < length scripts
      → HasPosted cells scripts (answers_of sent) passes.places i
  pub rise : (i : ℕ) → i < length scripts → HasRisen (answers_of sent) i
  pub once : EachOnce (flat_map positions_in (answers_of sent))
  -- the items have the positions from 1 to their count, in order, and each is the line that has its
  -- position
  pub positions : map (λ item. item.position) items
      ≡ range_with_len 1 (length (flat_map positions_in (answers_of sent)))
  pub lines : (item : Item) → Contains items item → IsLine scripts (answers_of sent) item
  -- they begin with the takes of the receiver
  pub taken : List Item
  pub rest : List Item
  pub items_are : items ≡ taken ++ rest
  pub received : HasTaken (lines_in scripts) taken passes.places (length scripts)
  -- a line found the heap full only where every cell was claimed
  pub full : (i : ℕ) (answers : List (Option ℕ)) → get_elem? (answers_of sent) i ≡ some answers
      → Contains answers None → cells ≤ claims_of ended.shows.core + 2
  -- the collector served, in at most as many cycles as it may make; and fewer leave no garbage
  pub service : IsService cycles (length scripts + 1) ended.shows.core.control.cycles passes.trail
  pub cycles_are : ended.shows.core.control.cycles ≤ cycles
  pub tidy : ended.shows.core.control.cycles < cycles → IsTidy ended.shows.core
