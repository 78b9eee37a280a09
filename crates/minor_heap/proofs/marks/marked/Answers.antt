use Rattle.std.proofs.Common.{◌≡◌, ℕ, ◌+◌, ◌<◌, Bool, true, false, List, [], ◌∷◌, ◌++◌, drop}
use Rattle.std.proofs.Common.{length, get_or, sym, ap, ◌∙◌, append_assoc}
use Rattle.std.proofs.lemmas.List.{at_drop_more}
use Rattle.minor_heap.specs.declared.fields.MinorRef.{MinorRef}
use Rattle.minor_heap.specs.Marking.{marked_of}
use Rattle.minor_heap.proofs.marks.marked.Goals.{then-marks-number+in_ok-push, else-marks-number}
use Rattle.minor_heap.proofs.marks.marked.Goals as goal

-- what is left of the marks, where the next one is known
left : (marks : List Bool) (n : ℕ) (b : Bool) → n < length marks → get_or marks n false ≡ b
    → marked_of n (drop n marks) ≡ marked_of n (b ∷ drop (n + 1) marks)
left marks n b lt is =
    at_drop_more (marked_of n) marks n false lt
    ∙ ap (λ (it : Bool). marked_of n (it ∷ drop (n + 1) marks)) is

-- a record is found, and one is not
found_one : (marks : List Bool) (n : ℕ) (was : List MinorRef) → n < length marks
    → get_or marks n false ≡ true
    → was ++ marked_of n (drop n marks) ≡ marked_of 0 marks
    → (was ++ record { number = n } ∷ []) ++ marked_of (n + 1) (drop (n + 1) marks)
    ≡ marked_of 0 marks
found_one marks n was lt is so =
    append_assoc was (record { number = n } ∷ []) (marked_of (n + 1) (drop (n + 1) marks))
    ∙ sym (ap (λ (l : List MinorRef). was ++ l) (left marks n true lt is)) ∙ so

found_none : (marks : List Bool) (n : ℕ) (was : List MinorRef) → n < length marks
    → get_or marks n false ≡ false
    → was ++ marked_of n (drop n marks) ≡ marked_of 0 marks
    → was ++ marked_of (n + 1) (drop (n + 1) marks) ≡ marked_of 0 marks
found_none marks n was lt is so =
    sym (ap (λ (l : List MinorRef). was ++ l) (left marks n false lt is)) ∙ so

pub loop-number-preserved : goal.loop-number-preserved
loop-number-preserved c =
    let n = c.loop-number.number in
    let marks = c.args.marks.now in
    let lt = c.loop-number-test.true in
    let so = c.loop-number.invariant in
    elim c.if-marks-number.branch [
      | then-marks-number+in_ok-push w ↦
          ap (λ (l : List MinorRef). l ++ marked_of (n + 1) (drop (n + 1) marks))
          (ap (λ v. v.items) w.found-is ∙ w.in_ok-push.ensures.items)
          ∙ found_one marks n c.loop-number.found.items lt w.if-marks-number.true so
      | else-marks-number w ↦
          ap (λ (l : List MinorRef). l ++ marked_of (n + 1) (drop (n + 1) marks))
          (ap (λ v. v.items) w.found-is)
          ∙ found_none marks n c.loop-number.found.items lt w.if-marks-number.false so
    ]
