-- A pass of the mail: what one mutator has sent and taken, and how that changes.
-- Source: this project's.
use Rattle.std.specs.Prelude.{ℕ, [], ◌∷◌, ◌++◌, Bool, true, false}
use Rattle.mail_rule.specs.declared.items.Item.{Item}
use Rattle.mail_rule.specs.declared.items.Sent.{Sent}
use Rattle.mail_rule.specs.declared.mail_pass.MailPass.{MailPass}

-- nothing, whoever it is and whatever the setting of the heap
abbrev pub opening_pass : ℕ → ℕ → MailPass
opening_pass number setting = record { sends = []; takes = [] }

abbrev pub having_sent : Sent → MailPass → MailPass
having_sent sent pass = record { sends = pass.sends ++ sent ∷ []; takes = pass.takes }

abbrev pub having_taken : Item → MailPass → MailPass
having_taken item pass = record { sends = pass.sends; takes = pass.takes ++ item ∷ [] }

-- if it was done

abbrev pub sent_if : Bool → Sent → MailPass → MailPass
sent_if true sent pass = having_sent sent pass
sent_if false sent pass = pass

abbrev pub taken_if : Bool → Item → MailPass → MailPass
taken_if true item pass = having_taken item pass
taken_if false item pass = pass
