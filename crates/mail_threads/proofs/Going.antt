-- Calls one after the other: what the mutator keeps, and how its marks grow.
use Rattle.std.proofs.Common.{◌≡◌, ◌≤◌, ◌+◌, ℕ, List, [], length, refl, sym, ◌∙◌, ap}
use Rattle.std.proofs.Common.{subst, arith}
use Rattle.core_machine.specs.Own.{Own, no_own}
use Rattle.core_machine.specs.Trail.{own_along}
use Rattle.mail_rule.specs.declared.mail_pass.MailPass.{MailPass}
use Rattle.mutator_seat.specs.Bound.{Bound}
use Rattle.mutator_seat.specs.Stretches.{Calm}
use Rattle.mutator_seat.specs.declared.full.HeapFull.{HeapFull}
use Rattle.trails.specs.Asks.{Ask, Grown, InOrder}
use Rattle.trails.specs.Claims.{FindsFull, IsFull}
use Rattle.trails.specs.Marks.{Mark, marks_from, marks_of}
use Rattle.trails.specs.Stretches.{Had}
use Rattle.trails.proofs.Claims.{finds_full}
use Rattle.trails.proofs.Marks.{marks_append}
use Rattle.trails.proofs.Stretches.{had_whole}
use Rattle.held_places.specs.Calls.{Goes}
use Rattle.held_places.proofs.Going.{calm_trail, goes_none, goes_on, many_cells}
use Rattle.cell_mailbox.specs.Ends.{Returns}
use Rattle.mail_threads.specs.Calls.{marks}

pub goes_grown : {asks : List Ask} (a b : Bound MailPass) → Goes asks a b
    → Grown (marks a) (marks b)
goes_grown a b goes = record {
  added = marks_from (own_along no_own a.seat.me.trail) goes.added;
  is = ap marks_of goes.trail ∙ marks_append no_own a.seat.me.trail goes.added;
}

-- a stretch of the whole trail shows what a call asks of its events
pub goes_had : {asks : List Ask} (P : List Mark → Type 0) (a b : Bound MailPass)
    → a.seat.me.own ≡ own_along no_own a.seat.me.trail → Goes asks a b
    → ((ms : List Mark) → InOrder asks ms → P ms) → Had P (marks a) (marks b)
goes_had {asks = asks} P a b left goes meets =
    let added = marks_from (own_along no_own a.seat.me.trail) goes.added in
    had_whole P added (ap marks_of goes.trail ∙ marks_append no_own a.seat.me.trail goes.added)
    (meets added
    (subst (λ (own : Own). InOrder asks (marks_from own goes.added)) left goes.shown))

-- a claim that was refused has the stretch of a full heap
pub full_had : (a b : Bound MailPass) (full : HeapFull)
    → Calm (FindsFull a.seat.me.number a.seat.me.shape.cells full.off_duty full.began full.ended)
    a b
    → Had (IsFull a.seat.me.shape.cells) (marks a) (marks b)
full_had a b full calm =
    let own = own_along no_own a.seat.me.trail in
    had_whole (IsFull a.seat.me.shape.cells) (marks_from own calm.added)
    (ap marks_of (calm_trail (FindsFull a.seat.me.number a.seat.me.shape.cells full.off_duty
    full.began full.ended) a b calm) ∙ marks_append no_own a.seat.me.trail calm.added)
    (finds_full own a.seat.me.number a.seat.me.shape.cells full.off_duty full.began full.ended
    calm.added calm.fact)

pub returns_none : (a : Bound MailPass) → Returns [] a a
returns_none a = record { goes = goes_none a; held = refl }

-- what the second call asks is not asked of both together
pub returns_then : (asks : List Ask) (a b c : Bound MailPass) → Returns [] a b → Returns asks b c
    → Returns [] a c
returns_then asks a b c first second = record {
  goes = goes_on first.goes second.goes;
  held = second.held ∙ first.held;
}

pub returns_calm : (asks : List Ask) (a b : Bound MailPass) → Returns asks a b → Returns [] a b
returns_calm asks a b returns = returns_then asks a a b (returns_none a) returns

-- there is room for the next call
pub still_room : (a b : Bound MailPass) → Returns [] a b
    → length a.seat.me.own.held + 8 ≤ a.seat.me.room
    → length b.seat.me.own.held + 8 ≤ b.seat.me.room
still_room a b returns room =
    let same : length b.seat.me.own.held ≡ length a.seat.me.own.held =
    sym (many_cells b) ∙ ap (λ (cs : List ℕ). length cs) returns.held ∙ many_cells a in
    let there = returns.goes.room in
    omega (arith, same, there, room)
