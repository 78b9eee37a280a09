-- What the lines of a sender were answered, and what the sends of its pass are then.
use Rattle.std.proofs.Common.{◌≡◌, ℕ, zero, suc, ◌+◌, ◌<◌, List, [], ◌∷◌, ◌++◌, length, get_or}
use Rattle.std.proofs.Common.{Contains, flat_map, Option, Some, None, map as mapped}
use Rattle.std.proofs.Common.{refl, sym, ◌∙◌, ap, subst, arith}
use Rattle.std.proofs.lemmas.List.{append_assoc}
use mathlib.Core.Option.{some}
use lib.ListN.{get_elem?}
use Rattle.mail_rule.specs.Counted.{all_sent, sent_in}
use Rattle.mail_rule.specs.declared.items.Sent.{Sent}
use Rattle.mail_rule.specs.declared.mail_pass.MailPass.{MailPass}
use Rattle.mail_threads.specs.Posts.{AnswerShows, sends_in}
use Rattle.mail_run.specs.Comes.{positions_in}
use Rattle.trails.specs.Claims.{IsFull}
use Rattle.trails.specs.Marks.{Mark}
use Rattle.trails.specs.Stretches.{InTurn}

-- the positions among the answers are those of the sends
pub positions_sent : (lines : List ℕ) (answers : List (Option ℕ)) → length answers ≡ length lines
    → mapped (λ (sent : Sent). sent.position) (sends_in lines answers) ≡ positions_in answers
positions_sent [] [] many = refl
positions_sent [] (a ∷ rest) many = absurd (omega (arith, many))
positions_sent (v ∷ vs) [] many = refl
positions_sent (v ∷ vs) (Some p ∷ rest) many =
    ap (λ (ns : List ℕ). p ∷ ns) (positions_sent vs rest (omega (arith, many)))
positions_sent (v ∷ vs) (None ∷ rest) many = positions_sent vs rest (omega (arith, many))

-- A send is a line with a position.
pub record IsSend (lines : List ℕ) (answers : List (Option ℕ)) (sent : Sent) : Type 0 where
  pub place : ℕ
  pub value_at : get_elem? lines place ≡ some sent.value
  pub position_at : get_elem? answers place ≡ some (Some sent.position)

one_after : (v : ℕ) (vs : List ℕ) (a : Option ℕ) (rest : List (Option ℕ)) (sent : Sent)
    → IsSend vs rest sent → IsSend (v ∷ vs) (a ∷ rest) sent
one_after v vs a rest sent is = record {
  place = suc is.place;
  value_at = is.value_at;
  position_at = is.position_at;
}

send_at : (lines : List ℕ) (answers : List (Option ℕ)) (k : ℕ) (sent : Sent)
    → k < length (sends_in lines answers) → get_or (sends_in lines answers) k sent ≡ sent
    → IsSend lines answers sent
send_at [] answers k sent lt is = absurd (omega (arith, lt))
send_at (v ∷ vs) [] k sent lt is = absurd (omega (arith, lt))
send_at (v ∷ vs) (Some p ∷ rest) zero sent lt is = record {
  place = 0;
  value_at = ap (λ (s : Sent). some s.value) is;
  position_at = ap (λ (s : Sent). some (Some s.position)) is;
}
send_at (v ∷ vs) (Some p ∷ rest) (suc k) sent lt is =
    one_after v vs (Some p) rest sent (send_at vs rest k sent (omega (arith, lt)) is)
send_at (v ∷ vs) (None ∷ rest) k sent lt is =
    one_after v vs None rest sent (send_at vs rest k sent lt is)

pub is_send : (lines : List ℕ) (answers : List (Option ℕ)) (sent : Sent)
    → Contains (sends_in lines answers) sent → IsSend lines answers sent
is_send lines answers sent has = send_at lines answers has.0 sent has.1 has.2

-- Of all senders; the last pass is the receiver's and has no sends.
pub positions_of_all : (passes : List MailPass) (sent : List (List (Option ℕ)))
    → length passes ≡ length sent + 1
    → ((i : ℕ) (pass : MailPass) (answers : List (Option ℕ)) → get_elem? passes i ≡ some pass
    → get_elem? sent i ≡ some answers → sent_in pass ≡ positions_in answers)
    → ((pass : MailPass) → get_elem? passes (length sent) ≡ some pass → sent_in pass ≡ [])
    → all_sent passes ≡ flat_map positions_in sent
positions_of_all [] sent many each last = absurd (omega (arith, many))
positions_of_all (pass ∷ []) [] many each last =
    ap (λ (ns : List ℕ). ns ++ []) (last pass refl)
positions_of_all (pass ∷ other ∷ passes) [] many each last = absurd (omega (arith, many))
positions_of_all (pass ∷ passes) (answers ∷ sent) many each last =
    ap (λ (ns : List ℕ). ns ++ all_sent passes) (each 0 pass answers refl refl)
    ∙ ap (λ (ns : List ℕ). positions_in answers ++ ns)
    (positions_of_all passes sent (omega (arith, many))
    (λ i p a. each (suc i) p a) last)

-- A stretch of the marks found the heap full.
pub record FoundFull (cells : ℕ) (marks : List Mark) : Type 0 where
  pub before : List Mark
  pub stretch : List Mark
  pub after : List Mark
  pub is : marks ≡ before ++ (stretch ++ after)
  pub meets : IsFull cells stretch

full_at : (cells : ℕ) (answers : List (Option ℕ)) (marks : List Mark) (k : ℕ)
    → InTurn (AnswerShows cells) answers marks → k < length answers
    → get_or answers k None ≡ None → FoundFull cells marks
full_at cells [] marks k turns lt is = absurd (omega (arith, lt))
full_at cells (a ∷ rest) marks zero turns lt is = record {
  before = turns.before;
  stretch = turns.stretch;
  after = turns.after;
  is = turns.is;
  meets = subst (λ (x : Option ℕ). AnswerShows cells x turns.stretch) is turns.meets;
}
full_at cells (a ∷ others) marks (suc k) turns lt is =
    let rest = full_at cells others turns.after k turns.rest (omega (arith, lt)) is in
    record {
      before = turns.before ++ (turns.stretch ++ rest.before);
      stretch = rest.stretch;
      after = rest.after;
      is = turns.is
          ∙ ap (λ (ms : List Mark). turns.before ++ (turns.stretch ++ ms)) rest.is
          ∙ sym (append_assoc turns.before (turns.stretch ++ rest.before)
          (rest.stretch ++ rest.after)
          ∙ ap (λ (ms : List Mark). turns.before ++ ms)
          (append_assoc turns.stretch rest.before (rest.stretch ++ rest.after)));
      meets = rest.meets;
    }

-- where a line has no position
pub found_full : (cells : ℕ) (answers : List (Option ℕ)) (marks : List Mark)
    → InTurn (AnswerShows cells) answers marks → Contains answers None → FoundFull cells marks
found_full cells answers marks turns has = full_at cells answers marks has.0 turns has.1 has.2
