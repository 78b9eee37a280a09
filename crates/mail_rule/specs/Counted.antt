-- What the passes of a mailbox say, told without witnesses: which positions were sent and taken,
-- and whose the item of a take is.
-- Source: this project's.
use Rattle.std.specs.Prelude.{ℕ, ◌≡◌, ◌+◌, List, map, flat_map, length, Contains, IsPermutation}
use Rattle.std.specs.List.{range_with_len}
use mathlib.Core.Option.{some}
use lib.ListN.{get_elem?}
use Rattle.mail_rule.specs.declared.items.Item.{Item}
use Rattle.mail_rule.specs.declared.mail_pass.MailPass.{MailPass}

-- the positions of a pass, in its order
abbrev pub sent_in : MailPass → List ℕ
sent_in pass = map (λ sent. sent.position) pass.sends

abbrev pub taken_in : MailPass → List ℕ
taken_in pass = map (λ item. item.position) pass.takes

-- those of all passes
abbrev pub all_sent : List MailPass → List ℕ
all_sent passes = flat_map sent_in passes

abbrev pub all_taken : List MailPass → List ℕ
all_taken passes = flat_map taken_in passes

-- these are the numbers from 1 to how many they are, each once
abbrev pub EachOnce : List ℕ → Type 0
EachOnce numbers = IsPermutation (range_with_len 1 (length numbers)) numbers

-- the pass of its sender has the item, with this position and value
pub record WasSent (passes : List MailPass) (item : Item) : Type 0 where
  pub number : ℕ
  pub pass : MailPass
  pub pass_is : get_elem? passes number ≡ some pass
  pub sender_is : item.sender ≡ number + 1
  pub has : Contains pass.sends record { position = item.position; value = item.value }
