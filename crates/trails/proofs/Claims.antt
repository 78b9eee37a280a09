-- From the events of a claim that found the heap full to its marks.
use Rattle.std.proofs.Common.{◌≡◌, ℕ, Bool, ◌||◌, List, [], ◌∷◌, ◌++◌, refl, sym, ◌∙◌, ap, subst}
use Rattle.std.proofs.Common.{arith}
use Rattle.std.proofs.Math.Bool.{or-false, or-true}
use Rattle.std.proofs.lemmas.List.Folds.{list_any-append}
use Rattle.std.specs.List.{list_any}
use Rattle.core_machine.specs.declared.events.Found.{Found}
use Rattle.core_machine.specs.declared.events.Found.TheVariants as finds
use Rattle.core_machine.specs.declared.events.Event.{Event}
use Rattle.core_machine.specs.declared.events.Event.TheVariants as event
use Rattle.core_machine.specs.declared.events.Taken.{Taken}
use Rattle.core_machine.specs.Trail.{own_along}
use Rattle.core_machine.specs.Own.{Own, own_after}
use Rattle.trails.specs.Claims.{AllUsed, FindsFull, IsFull, claim_used, claims_used, decides}
use Rattle.trails.specs.Claims.{finds_used, found_used, look_of, was_used}
use Rattle.trails.specs.Marks.{looked, mark_of, marks_from, claim_mark}
use Rattle.trails.proofs.Marks.{marks_append}

claim_shown : (cell other : ℕ) (found : Found)
    → was_used cell (claim_mark other found) ≡ claim_used cell other found
claim_shown cell other (finds.Colour found) = or-false (claim_used cell other (finds.Colour found))
claim_shown cell other found = refl

-- an event shows that a cell is used exactly where it found that
event_shown : (own : Own) (cell : ℕ) (e : Event) (found : Found)
    → was_used cell (mark_of own e found) ≡ claims_used cell e found
event_shown own cell (event.Claim i other) found = claim_shown cell other found
event_shown own cell (event.Look i) (finds.Control found) = refl
event_shown own cell (event.Read i place f) (finds.Field found) = refl
event_shown own cell (event.Write i place f old new) (finds.Field found) = refl
event_shown own cell e found = refl

pub used_shown : (own : Own) (cell : ℕ) (ts : List Taken)
    → was_used cell (marks_from own ts) ≡ list_any (finds_used cell) ts
used_shown own cell [] = refl
used_shown own cell (t ∷ ts) =
    let next = own_after own t.event t.found in
    list_any-append (found_used cell) (mark_of own t.event t.found) (marks_from next ts)
    ∙ ap (λ b. b || was_used cell (marks_from next ts)) (event_shown own cell t.event t.found)
    ∙ ap (λ b. finds_used cell t || b) (used_shown next cell ts)

pub finds_full : (own : Own) (number cells : ℕ) (off_duty : Bool) (begun ended : ℕ)
    (events : List Taken)
    → FindsFull number cells off_duty begun ended events → IsFull cells (marks_from own events)
finds_full own number cells off_duty begun ended events full =
    let first = look_of number full.first in
    let second = look_of number full.control in
    let opened = own_after own first.event first.found in
    let waited = own_along opened full.between in
    let looked_on = own_after waited second.event second.found in
    let is : marks_from own (first ∷ (full.between ++ second ∷ full.tries))
    ≡ (looked full.first ∷ marks_from opened full.between)
    ++ looked full.control ∷ marks_from looked_on full.tries =
    ap (λ ms. looked full.first ∷ ms) (marks_append opened full.between (second ∷ full.tries)) in
    let whole : IsFull cells (marks_from own (first ∷ (full.between
    ++ second ∷ full.tries))) = record {
      before = looked full.first ∷ marks_from opened full.between;
      control = full.control;
      after = marks_from looked_on full.tries;
      look = is;
      decided = ap (λ n. decides n full.control) (sym full.begun_is) ∙ full.decided;
      all_used = λ cell below. used_shown looked_on cell full.tries
          ∙ full.all_used cell (omega arith) below;
    } in
    subst (λ (ts : List Taken). IsFull cells (marks_from own ts)) (sym full.split) whole

-- cells found used in a part of the events were so in all of them
module _ (from end : ℕ) where
  pub used_late : (ts us : List Taken) → AllUsed from end us → AllUsed from end (ts ++ us)
  used_late ts us used cell above below =
      list_any-append (finds_used cell) ts us
      ∙ ap (λ b. list_any (finds_used cell) ts || b) (used cell above below)
      ∙ or-true (list_any (finds_used cell) ts)

  pub used_on : (ts us : List Taken) → AllUsed from end ts → AllUsed from end (ts ++ us)
  used_on ts us used cell above below =
      list_any-append (finds_used cell) ts us
      ∙ ap (λ b. b || list_any (finds_used cell) us) (used cell above below)
