-- How many events a turn takes.
use Rattle.std.proofs.Common.{◌≡◌, ◌+◌, ◌^◌, ◌≤◌, ◌<◌, ℕ, Option, Some, None, ap, sym, arith}
use Rattle.core_machine.specs.Next.{next}
use Rattle.core_machine.specs.State.{State}
use Rattle.core_machine.specs.declared.events.Event.{Event}
use Rattle.core_replay.specs.Standing.{Standing, counted, taken_by}
use Rattle.core_replay.specs.Turns.{looked}

counted_one : (taken : ℕ) (o : Option State) (q : Standing) → counted taken o ≡ Some q
    → q.taken ≡ taken + 1
counted_one taken None q is = absurd cc
counted_one taken (Some s) q is =
    let same : record { core = s; taken = taken + 1 } ≡ q = cc in
    ap (λ (x : Standing). x.taken) (sym same)

pub taken_one : (p q : Standing) (e : Event) → taken_by p e ≡ Some q → q.taken ≡ p.taken + 1
taken_one p q e is = counted_one p.taken (next p.core e) q is

pub looked_few : (p q : Standing) (look : Option Event) → looked p look ≡ Some q
    → q.taken ≤ p.taken + 1
looked_few p q None is =
    let same : p ≡ q = cc in
    omega (arith, ap (λ (x : Standing). x.taken) same)
looked_few p q (Some e) is = omega (arith, taken_one p q e is)

-- what a turn takes: a look, and then an event

pub few_none : (p q : Standing) → q ≡ p → q.taken ≤ p.taken + 2
few_none p q same = omega (arith, ap (λ (x : Standing). x.taken) same)

pub few_look : (p q r : Standing) → q.taken ≤ p.taken + 1 → r ≡ q → r.taken ≤ p.taken + 2
few_look p q r few same = omega (arith, ap (λ (x : Standing). x.taken) same)

pub few_both : (p q r : Standing) → q.taken ≤ p.taken + 1 → r.taken ≡ q.taken + 1
    → r.taken ≤ p.taken + 2
few_both p q r few one = omega arith

pub room_left : (p q : Standing) → q.taken ≤ p.taken + 1 → p.taken + 2 < 2 ^ 64
    → q.taken + 1 < 2 ^ 64
room_left p q few room = omega arith
