-- What the lines of a sender were answered, and what its mutator then has of them.
-- Source: this project's.
use Rattle.std.specs.Prelude.{ℕ, ◌≡◌, List, [], ◌∷◌, length, Option, Some, None}
use Rattle.mail_rule.specs.declared.items.Sent.{Sent}
use Rattle.mail_rule.specs.declared.mail_pass.MailPass.{MailPass}
use Rattle.trails.specs.Claims.{IsFull}
use Rattle.trails.specs.Marks.{Mark}
use Rattle.trails.specs.Stretches.{InTurn}

-- the lines that have a position, in order
abbrev pub sends_in : List ℕ → List (Option ℕ) → List Sent
sends_in [] answers = []
sends_in (value ∷ values) [] = []
sends_in (value ∷ values) (Some position ∷ answers) =
    record { position = position; value = value } ∷ sends_in values answers
sends_in (value ∷ values) (None ∷ answers) = sends_in values answers

-- what a stretch of the trail shows for an answer: where there is none, that the heap was full
abbrev pub AnswerShows : ℕ → Option ℕ → List Mark → Type 0
AnswerShows cells (Some position) marks = Unit {0}
AnswerShows cells None marks = IsFull cells marks

-- Each line has its answer. The sends of the pass are the lines that have a position, in order, and
-- the trail has a stretch for each answer, one after the other.
pub record Posts (cells : ℕ) (lines : List ℕ) (answers : List (Option ℕ)) (pass : MailPass)
    (marks : List Mark) : Type 0 where
  pub many : length answers ≡ length lines
  pub sends : pass.sends ≡ sends_in lines answers
  pub takes : pass.takes ≡ []
  pub shown : InTurn (AnswerShows cells) answers marks
