-- The heap of a mailbox, opened for its senders and its receiver.
-- Source: this project's.
use Rattle.std.specs.Prelude.{ℕ, ◌+◌, List, Option, length, Vec}
use Rattle.std.specs.declared.alloc.Global.{Global}
use Rattle.heap_rule.specs.Shape.{Shape}
use Rattle.mail_rule.specs.Opening.{first_rows}
use Rattle.mail_rule.specs.Passes.{opening_pass}
use Rattle.mail_rule.specs.declared.mail_pass.MailPass.{MailPass}
use Rattle.mail_threads.specs.Workers.{MaySend, places_held}
use Rattle.mutator_threads.specs.Mutators.{IsOpened}
use Rattle.mutator_threads.specs.declared.opening.Opened.{Opened}

-- the heap of a mailbox with so many senders, and a receiver
abbrev pub mail_shape : ℕ → ℕ → Shape
mail_shape cells senders = record {
  cells = cells;
  mutators = senders + 1;
  setting = 0;
  first = first_rows;
}

-- The heap is opened. Neither its senders nor its receiver, which has the last mutator, have begun.
abbrev pub IsOpenMail : ℕ → List (Vec ℕ Global) → Opened MailPass (Vec (Option ℕ) Global) → Type 0
IsOpenMail cells scripts made =
    IsOpened opening_pass (mail_shape cells (length scripts)) places_held (MaySend scripts) made
