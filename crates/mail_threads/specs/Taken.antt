-- The senders after their run: the answers to their lines, where their seats are joined to the
-- collector's.
-- Source: this project's.
use Rattle.std.specs.Prelude.{ℕ, ◌≡◌, List, map, Option, Vec}
use Rattle.std.specs.declared.alloc.Global.{Global}
use mathlib.Core.Option.{some}
use lib.ListN.{get_elem?}
use Rattle.heap_rule.specs.declared.view.Place.{Place}
use Rattle.heap_rule.specs.declared.view.Place.TheVariants as places
use Rattle.heap_rule.specs.declared.view.Share.{Share}
use Rattle.mail_rule.specs.declared.mail_pass.MailPass.{MailPass}
use Rattle.mail_threads.specs.Posts.{Posts}
use Rattle.trails.specs.Marks.{marks_of}

-- scripts and answers as lists
abbrev pub lists_of : List (Vec ℕ Global) → List (List ℕ)
lists_of scripts = map (λ script. script.items) scripts

abbrev pub answers_of : List (Vec (Option ℕ) Global) → List (List (Option ℕ))
answers_of sent = map (λ answers. answers.items) sent

-- Sender i has an answer for each of its lines. Its seat was joined: the sends of the pass are the
-- positions and values of the lines that have a position, in order, and for the lines without one
-- the trail has stretches of a full heap, one after the other.
pub record HasPosted (cells : ℕ) (scripts : List (List ℕ)) (sent : List (List (Option ℕ)))
    (joined : List (Place MailPass)) (i : ℕ) : Type 0 where
  pub lines : List ℕ
  pub lines_at : get_elem? scripts i ≡ some lines
  pub answers : List (Option ℕ)
  pub answers_at : get_elem? sent i ≡ some answers
  pub share : Share MailPass
  pub share_at : get_elem? joined i ≡ some (places.Joined share)
  pub posts : Posts cells lines answers share.pass (marks_of share.trail)
