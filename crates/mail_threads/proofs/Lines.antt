-- The lines of a sender, one after the other.
use Rattle.std.proofs.Common.{◌≡◌, ◌≤◌, ◌<◌, ◌+◌, ◌^◌, ℕ, zero, suc, List, [], ◌∷◌, ◌++◌, length}
use Rattle.std.proofs.Common.{Option, Some, None, All, take, get_or, refl, sym, ◌∙◌, ap, subst}
use Rattle.std.proofs.Common.{arith}
use Rattle.std.proofs.Math.Seq.{take-suc}
use Rattle.std.proofs.lemmas.List.{length-take-le, length_push}
use Rattle.std.proofs.lemmas.List.Elements.{All-head, All-tail}
use Rattle.run_limits.specs.declared.TheConstants.{MOST_COMMANDS}
use Rattle.core_machine.specs.Own.{no_own}
use Rattle.core_machine.specs.Trail.{own_along}
use Rattle.heap_rule.specs.Shape.{Shape}
use Rattle.mail_rule.specs.declared.items.Sent.{Sent}
use Rattle.mail_rule.specs.declared.mail_pass.MailPass.{MailPass}
use Rattle.mutator_seat.specs.Bound.{Bound}
use Rattle.mutator_seat.specs.declared.full.HeapFull.{HeapFull}
use Rattle.trails.specs.Claims.{IsFull}
use Rattle.trails.specs.Stretches.{Had}
use Rattle.trails.proofs.Stretches.{had_late, had_on, turns_had}
use Rattle.cell_mailbox.specs.Ends.{FindsFullHeap, Sends}
use Rattle.mail_threads.specs.Calls.{IsFresh, Posted, PostsOne, marks, with_line}
use Rattle.mail_threads.specs.Posts.{AnswerShows, sends_in}
use Rattle.mail_threads.proofs.Going.{full_had, goes_grown, goes_had, returns_none, returns_then}

-- One line.

pub line_sent : (value position : ℕ) (a b : Bound MailPass)
    → a.seat.me.own ≡ own_along no_own a.seat.me.trail
    → Sends a b (record { position = position; value = value })
    → PostsOne value (Some position) a b
line_sent value position a b left sends = record {
  returns = sends.returns;
  pass = sends.sent_once.pass;
  shows = goes_had (AnswerShows a.seat.me.shape.cells (Some position)) a b left
      sends.returns.goes (λ ms shown. tt);
}

pub line_full : (value : ℕ) (full : HeapFull) (a b : Bound MailPass) → FindsFullHeap a b full
    → PostsOne value None a b
line_full value full a b found =
    let here : Had (IsFull found.from.seat.me.shape.cells) (marks found.from) (marks found.to) =
    full_had found.from found.to full found.stretch in
    let cells : Had (IsFull a.seat.me.shape.cells) (marks found.from) (marks found.to) =
    subst (λ (h : Shape). Had (IsFull h.cells) (marks found.from) (marks found.to)) found.shape_is
    here in
    let F = IsFull a.seat.me.shape.cells in
    record {
      returns = found.returns;
      pass = found.pass;
      shows = had_on F (had_late F (goes_grown a found.from found.before) cells)
          (goes_grown found.to b found.after);
    }

-- One line more.

push_some : (lines : List ℕ) (answers : List (Option ℕ)) (value position : ℕ)
    → length answers ≡ length lines
    → sends_in (lines ++ value ∷ []) (answers ++ Some position ∷ [])
    ≡ sends_in lines answers ++ record { position = position; value = value } ∷ []
push_some [] [] value position many = refl
push_some [] (a ∷ others) value position many = absurd (omega (arith, many))
push_some (x ∷ xs) [] value position many = absurd (omega (arith, many))
push_some (x ∷ xs) (Some p ∷ others) value position many =
    ap (λ (ss : List Sent). record { position = p; value = x } ∷ ss)
    (push_some xs others value position (omega (arith, many)))
push_some (x ∷ xs) (None ∷ others) value position many =
    push_some xs others value position (omega (arith, many))

push_none : (lines : List ℕ) (answers : List (Option ℕ)) (value : ℕ)
    → length answers ≡ length lines
    → sends_in (lines ++ value ∷ []) (answers ++ None ∷ []) ≡ sends_in lines answers
push_none [] [] value many = refl
push_none [] (a ∷ others) value many = absurd (omega (arith, many))
push_none (x ∷ xs) [] value many = absurd (omega (arith, many))
push_none (x ∷ xs) (Some p ∷ others) value many =
    ap (λ (ss : List Sent). record { position = p; value = x } ∷ ss)
    (push_none xs others value (omega (arith, many)))
push_none (x ∷ xs) (None ∷ others) value many = push_none xs others value (omega (arith, many))

line_sends : (value : ℕ) (answer : Option ℕ) (pass : MailPass) (lines : List ℕ)
    (answers : List (Option ℕ)) → pass.sends ≡ sends_in lines answers
    → length answers ≡ length lines
    → (with_line value answer pass).sends
    ≡ sends_in (lines ++ value ∷ []) (answers ++ answer ∷ [])
line_sends value (Some position) pass lines answers is many =
    ap (λ (ss : List Sent). ss ++ record { position = position; value = value } ∷ []) is
    ∙ sym (push_some lines answers value position many)
line_sends value None pass lines answers is many = is ∙ sym (push_none lines answers value many)

line_takes : (value : ℕ) (answer : Option ℕ) (pass : MailPass)
    → (with_line value answer pass).takes ≡ pass.takes
line_takes value (Some position) pass = refl
line_takes value None pass = refl

sends_few : (lines : List ℕ) (answers : List (Option ℕ))
    → length (sends_in lines answers) ≤ length lines
sends_few [] answers = omega arith
sends_few (x ∷ xs) [] = omega arith
sends_few (x ∷ xs) (Some p ∷ others) = let rest = sends_few xs others in omega (arith, rest)
sends_few (x ∷ xs) (None ∷ others) = let rest = sends_few xs others in omega (arith, rest)

posted_one : (lines : List ℕ) (answers : List (Option ℕ)) (value : ℕ) (answer : Option ℕ)
    (a b c : Bound MailPass) → Posted lines answers a b → PostsOne value answer b c
    → Posted (lines ++ value ∷ []) (answers ++ answer ∷ []) a c
posted_one lines answers value answer a b c first second =
    let cells = a.seat.me.shape.cells in
    let lines_more = length_push lines value in
    let answers_more = length_push answers answer in
    let many = first.posts.many in
    record {
      returns = returns_then [] a b c first.returns second.returns;
      posts = record {
        many = omega (arith, lines_more, answers_more, many);
        sends = ap (λ (p : MailPass). p.sends) second.pass
            ∙ line_sends value answer b.seat.me.pass lines answers first.posts.sends many;
        takes = ap (λ (p : MailPass). p.takes) second.pass
            ∙ line_takes value answer b.seat.me.pass ∙ first.posts.takes;
        shown = turns_had (AnswerShows cells) answers answer (marks b) first.posts.shown
            (subst (λ (h : Shape). Had (AnswerShows h.cells answer) (marks b) (marks c))
            first.returns.goes.shape second.shows);
      };
    }

pub posted_first : (answers : List (Option ℕ)) (a : Bound MailPass) → IsFresh a → answers ≡ []
    → Posted [] answers a a
posted_first answers a fresh none =
    subst (λ (others : List (Option ℕ)). Posted [] others a a) (sym none) record {
      returns = returns_none a;
      posts = record { many = refl; sends = fresh.sends; takes = fresh.takes; shown = tt };
    }

pub posted_next : (script : List ℕ) (i d value : ℕ) (answers : List (Option ℕ))
    (answer : Option ℕ) (a b c : Bound MailPass) → i < length script → value ≡ get_or script i d
    → Posted (take i script) answers a b → PostsOne value answer b c
    → Posted (take (i + 1) script) (answers ++ answer ∷ []) a c
posted_next script i d value answers answer a b c there is first second =
    let next : suc i ≡ i + 1 = omega arith in
    subst (λ (n : ℕ). Posted (take n script) (answers ++ answer ∷ []) a c) next
    (subst (λ (lines : List ℕ). Posted lines (answers ++ answer ∷ []) a c)
    (ap (λ (v : ℕ). take i script ++ v ∷ []) is ∙ sym (take-suc script i d there))
    (posted_one (take i script) answers value answer a b c first second))

-- the pass has room for one line more
pub posted_few : (script : List ℕ) (i : ℕ) (answers : List (Option ℕ)) (a b : Bound MailPass)
    → i < length script → length script ≤ MOST_COMMANDS → Posted (take i script) answers a b
    → length b.seat.me.pass.sends < MOST_COMMANDS
posted_few script i answers a b there short posted =
    let same = ap (λ (ss : List Sent). length ss) posted.posts.sends in
    let most = sends_few (take i script) answers in
    let lines = length-take-le i script (omega (arith, there)) in
    omega (arith, same, most, lines, there, short)

-- each value of a script is small
pub small_at : (script : List ℕ) (i d : ℕ) → i < length script
    → All (λ (value : ℕ). value < 2 ^ 32) script → get_or script i d < 2 ^ 32
small_at [] i d there all = absurd (omega (arith, there))
small_at (x ∷ xs) zero d there all = All-head (λ (value : ℕ). value < 2 ^ 32) x xs all
small_at (x ∷ xs) (suc i) d there all =
    small_at xs i d (omega (arith, there)) (All-tail (λ (value : ℕ). value < 2 ^ 32) x xs all)
