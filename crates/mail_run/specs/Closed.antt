-- What holds when the heap of a run is closed, before its image is read.
-- Source: this project's.
use Rattle.std.specs.Prelude.{ℕ, ◌≡◌, ◌<◌, Bool, false, List, length, Vec, Option}
use Rattle.std.specs.declared.alloc.Global.{Global}
use mathlib.Core.Option.{some}
use lib.ListN.{get_elem?}
use Rattle.heap_rule.specs.Laws.{Ended}
use Rattle.heap_rule.specs.declared.view.Place.{Place}
use Rattle.heap_rule.specs.declared.view.Place.TheVariants as places
use Rattle.heap_rule.specs.declared.view.Share.{Share}
use Rattle.heap_table.specs.Images.{Shows}
use Rattle.mail_rule.specs.Mail.{HoldsMail, is_fixed}
use Rattle.mail_rule.specs.Passes.{opening_pass}
use Rattle.mail_rule.specs.declared.items.Item.{Item}
use Rattle.mail_rule.specs.declared.mail_pass.MailPass.{MailPass}
use Rattle.mail_threads.specs.Opened.{mail_shape}
use Rattle.mail_threads.specs.Receipts.{Empties, Receives}
use Rattle.mail_threads.specs.Taken.{HasPosted, answers_of}
use Rattle.mail_run.specs.Comes.{lines_in}
use Rattle.mail_run.specs.declared.closed.Closed.{Closed}
use Rattle.mutator_threads.specs.Closing.{HasCollected}
use Rattle.trails.specs.Marks.{marks_of}

-- The receiver's seat was joined. Unless memory ran out, it took a turn for each of so many lines,
-- and more until one found nothing, and took these items.
pub record HasDrained (lines : ℕ) (items : List Item) (failed : Bool)
    (joined : List (Place MailPass)) (i : ℕ) : Type 0 where
  pub share : Share MailPass
  pub share_at : get_elem? joined i ≡ some (places.Joined share)
  pub receives : failed ≡ false → Receives lines items share.pass (marks_of share.trail)
  pub emptied : failed ≡ false → Empties lines (marks_of share.trail)

-- Each sender has sent its script, and the receiver, which has the last mutator, is done.
pub record AreThrough (cells : ℕ) (scripts : List (List ℕ))
    (sent : List (Vec (Option ℕ) Global)) (items : List Item) (failed : Bool)
    (joined : List (Place MailPass)) : Type 0 where
  pub many : length sent ≡ length scripts
  pub posted : (i : ℕ) → i < length scripts
      → HasPosted cells scripts (answers_of sent) joined i
  pub drained : HasDrained (lines_in scripts) items failed joined (length scripts)

-- This is so at the close, where the image shows a mailbox's heap, and the collector has served.
pub record IsClosed (cells cycles : ℕ) (scripts : List (List ℕ)) (closed : Closed)
    : Type 0 where
  pub ended : Ended opening_pass HoldsMail is_fixed (mail_shape cells (length scripts)) (Unit {0})
      closed.heap.image.words closed.heap.passes
  pub shown : Shows closed.heap.image ended.shows.core
  pub through : AreThrough cells scripts closed.sent.items closed.received.items.items
      closed.received.failed closed.heap.passes.places
  pub collected : HasCollected (mail_shape cells (length scripts)) cycles closed.heap.freed
      ended.shows.core closed.heap.passes
