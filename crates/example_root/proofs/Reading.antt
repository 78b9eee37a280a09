-- The reads from the anchor down, in the trail of the first mutator and of its joined seat.
use Rattle.std.proofs.Common.{◌≡◌, ℕ, List, [], ◌∷◌, ◌++◌, Option, Some, None, length, refl, sym}
use Rattle.std.proofs.Common.{◌∙◌, ap, arith, subst, IfSome, Bool, true, false}
use Rattle.std.specs.Bool.{OnFalse, OnTrue}
use Rattle.std.proofs.lemmas.List.{append_assoc}
use mathlib.Core.Option.{some}
use lib.ListN.{get_elem?}
use Rattle.cell_words.specs.declared.fields.Field.TheVariants as field
use Rattle.core_machine.specs.Own.{Own, no_own, own_after}
use Rattle.core_machine.specs.Trail.{own_along}
use Rattle.core_machine.specs.declared.events.Event.{Event}
use Rattle.core_machine.specs.declared.events.Event.TheVariants as event
use Rattle.core_machine.specs.declared.events.Found.{Found}
use Rattle.core_machine.specs.declared.events.Taken.{Taken}
use Rattle.heap_rule.specs.Asks.{target}
use Rattle.heap_rule.specs.Rule.{share_of, took}
use Rattle.heap_rule.specs.declared.view.Place.TheVariants as places
use Rattle.heap_rule.specs.declared.view.View.{View}
use Rattle.heap_table.specs.Seats.{SeatView}
use Rattle.held_places.specs.Calls.{Goes}
use Rattle.held_places.proofs.Going.{goes_on, goes_then}
use Rattle.mutator_events.specs.Events.{tells}
use Rattle.mutator_seat.specs.Bound.{Bound, takes}
use Rattle.trails.specs.Asks.{InOrder, gave_at}
use Rattle.trails.specs.Marks.{Mark, mark_of, marks_from}
use Rattle.trails.proofs.Marks.{marks_append, own_append}
use Rattle.trails.proofs.Orders.{order_after, order_before}
use Rattle.example_root.specs.Holding.{Has}
use Rattle.example_root.specs.ReadBack.{EndsTrail, ReadBack, ReadsBox, ReadsDown, WasReadBack}
use Rattle.example_root.specs.ReadBack.{WentOut, reads_down}
use Rattle.example_root.specs.declared.kept.Kept.{Kept}

-- the three reads
pub down : (number : ℕ) (a b c d : Bound Kept) → Goes (gave_at 0 0 (field.Cell 1) ∷ []) a b
    → ReadsBox b c → Goes (gave_at (target c.seat.me 2) 0 (field.Num number) ∷ []) c d
    → ReadsDown number a d
down number a b c d first second third = record {
  cell = second.cell;
  reads = goes_then (goes_then first second.reads)
      (subst (λ (x : ℕ). Goes (gave_at x 0 (field.Num number) ∷ []) c d) second.held third);
}

-- and what came after them
pub reads_on : (number : ℕ) (a b c d : Bound Kept) → ReadsDown number a b → Goes [] b c
    → Goes [] c d → ReadsDown number a d
reads_on number a b c d down second third = record {
  cell = down.cell;
  reads = goes_on (goes_on down.reads second) third;
}

-- out and in again, and out for good

pub went_out : (a b c : Bound Kept) (p q : Found)
    → b ≡ takes a (event.End a.seat.me.number) p
    → c ≡ takes b (event.Begin b.seat.me.number) q → WentOut a c
went_out a b c p q first second =
    let out = took (event.End a.seat.me.number) p in
    let back = took (event.Begin b.seat.me.number) q in
    record {
      out = out;
      out_is = refl;
      back = back;
      trail = ap (λ (m : Bound Kept). m.seat.me.trail) second
          ∙ ap (λ (m : Bound Kept). m.seat.me.trail ++ back ∷ []) first
          ∙ append_assoc a.seat.me.trail (out ∷ []) (back ∷ []);
    }

pub ends_trail : (a b : Bound Kept) (s : SeatView Kept) (e o : Event) (p q : Found)
    → b ≡ takes a e p → s ≡ tells b.seat o q → EndsTrail a s
ends_trail a b s e o p q first second =
    let end = took e p in
    let over = took o q in (
      end ∷ over ∷ [],
      ap (λ (t : SeatView Kept). t.me.trail) second
          ∙ ap (λ (m : Bound Kept). m.seat.me.trail ++ over ∷ []) first
          ∙ append_assoc a.seat.me.trail (end ∷ []) (over ∷ []),
    )

-- what is kept after the call

pub kept_after : (kept : Bool) (number : ℕ) (a b c : Bound Kept)
    → OnTrue kept (Has (Some number) a b) → Has b.seat.me.pass.number b c
    → OnTrue kept (c.seat.me.pass.number ≡ Some number)
kept_after true number a b c has same = same.kept ∙ has.kept
kept_after false number a b c has same = tt

pub none_after : (kept : Bool) (a b c : Bound Kept) → a.seat.me.pass.number ≡ None
    → OnFalse kept (Has a.seat.me.pass.number a b) → Has b.seat.me.pass.number b c
    → OnFalse kept (c.seat.me.pass.number ≡ None)
none_after true a b c none has same = tt
none_after false a b c none has same = same.kept ∙ has.kept ∙ none

-- the trail of the whole work
read_in : (number : ℕ) (a b c : Bound Kept) (s : SeatView Kept) → WentOut a b
    → b.seat.me.own ≡ own_along no_own b.seat.me.trail → ReadsDown number b c → EndsTrail c s
    → ReadBack number s.me.trail
read_in number a b c s went own down left =
    let out = went.out in
    let back = went.back in
    let added = down.reads.added in
    let more = left.0 in
    let before = own_along no_own (a.seat.me.trail ++ out ∷ []) in
    let same : b.seat.me.own ≡ own_after before back.event back.found =
    own
    ∙ ap (λ (ts : List Taken). own_along no_own ts)
    (went.trail ∙ sym (append_assoc a.seat.me.trail (out ∷ []) (back ∷ [])))
    ∙ own_append no_own (a.seat.me.trail ++ out ∷ []) (back ∷ []) in
    let all : InOrder (reads_down down.cell number) (marks_from b.seat.me.own (added ++ more)) =
    subst (λ (ms : List Mark). InOrder (reads_down down.cell number) ms)
    (sym (marks_append b.seat.me.own added more))
    (order_after (marks_from (own_along b.seat.me.own added) more) down.reads.shown) in
    record {
      who = a.seat.me.number;
      before = a.seat.me.trail;
      out = out;
      out_is = went.out_is;
      later = back ∷ (added ++ more);
      trail_is = left.1 ∙ ap (λ (ts : List Taken). ts ++ more) down.reads.trail
          ∙ append_assoc b.seat.me.trail added more
          ∙ ap (λ (ts : List Taken). ts ++ (added ++ more)) went.trail
          ∙ append_assoc a.seat.me.trail (out ∷ back ∷ []) (added ++ more);
      cell = down.cell;
      shown = order_before (mark_of before back.event back.found)
          (subst (λ (o : Own). InOrder (reads_down down.cell number)
          (marks_from o (added ++ more))) same all);
    }

pub read_later : (n : ℕ) (found : Option ℕ) (a b c : Bound Kept) (s : SeatView Kept)
    → WentOut a b → b.seat.me.own ≡ own_along no_own b.seat.me.trail
    → IfSome found (λ read. (read ≡ n) × ReadsDown read b c) → EndsTrail c s
    → IfSome found (λ read. (read ≡ n) × ReadBack read s.me.trail)
read_later n None a b c s went own reads left = tt
read_later n (Some read) a b c s went own reads left =
    (reads.0, read_in read a b c s went own reads.1 left)

-- the joined seat of the first mutator
pub found_back : (n : ℕ) (found : Option ℕ) (first : SeatView Kept) (v : View Kept)
    → IfSome found (λ read. (read ≡ n) × ReadBack read first.me.trail)
    → get_elem? v.places 0 ≡ some (places.Joined (share_of first.me))
    → IfSome found (λ number. (number ≡ n) × WasReadBack number v)
found_back n None first v reads at = tt
found_back n (Some read) first v reads at =
    (reads.0, record { share = share_of first.me; share_at = at; read = reads.1 })
