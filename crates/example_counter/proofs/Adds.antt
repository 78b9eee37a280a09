-- Calls that add nothing, and what they leave of what is held.
use Rattle.std.proofs.Common.{◌≡◌, ◌∙◌, ◌+◌, ◌≤◌, ◌∷◌, ◌++◌, ℕ, List, []}
use Rattle.std.proofs.Common.{ap, sym, arith, length, take}
use Rattle.std.specs.Prelude.{slice_index_or}
use Rattle.cell_words.specs.Term.{null}
use Rattle.core_machine.specs.declared.events.Event.TheVariants as event
use Rattle.core_machine.specs.declared.events.Found.TheVariants as finds
use Rattle.core_machine.specs.declared.events.Taken.{Taken}
use Rattle.heap_rule.specs.declared.known.Known.{Known}
use Rattle.heap_rule.specs.declared.known.Known.TheVariants as knows
use Rattle.minor_heap.specs.declared.fields.MinorField.{MinorField}
use Rattle.minor_heap.specs.declared.fields.MinorField.TheVariants as field
use Rattle.minor_heap.specs.declared.fields.MinorRef.{MinorRef}
use Rattle.minor_heap.specs.Terms.{terms_of}
use Rattle.mutator_events.proofs.HeldCells.{cells_many}
use Rattle.mutator_seat.specs.declared.full.HeapFull.{HeapFull}
use Rattle.mutator_seat.specs.Bound.{Bound, takes}
use Rattle.mutator_seat.specs.Stretches.{Calm}
use Rattle.promotion.specs.Promoting.{Promoted, Refused, Stays}
use Rattle.promotion.specs.Sharing.{known_terms}
use Rattle.promotion.proofs.Holding.{held_kept, known_kept}
use Rattle.example_counter.specs.Adding.{Adds, Holds, HoldsCount, HoldsNext, Loose, Rests}
use Rattle.example_counter.specs.Counting.{number_record}
use Rattle.example_counter.specs.declared.counter.Added.{Added}

none_more : (p : Added) → p ≡ record { sum = p.sum + 0 }
none_more p = λ i. record { sum = (let e : p.sum ≡ p.sum + 0 = omega arith in e) i }

pub adds_same : (a b : Bound Added) → b.heap ≡ a.heap → b.seat.me.number ≡ a.seat.me.number
    → b.seat.me.pass ≡ a.seat.me.pass → Adds 0 a b
adds_same a b heap number pass = record {
  heap = heap;
  number = number;
  pass = pass ∙ none_more a.seat.me.pass;
}

pub adds_then : (x y : ℕ) (a b c : Bound Added) → Adds x a b → Adds y b c → Adds (x + y) a c
adds_then x y a b c first second = record {
  heap = second.heap ∙ first.heap;
  number = second.number ∙ first.number;
  pass = second.pass
      ∙ (λ i. record {
        sum = (let e : b.seat.me.pass.sum + y ≡ a.seat.me.pass.sum + (x + y) =
            omega (arith, ap (λ (p : Added). p.sum) first.pass) in e) i;
      });
}

-- a stretch that keeps what is held
pub adds_calm : (F : List Taken → Type 0) (a b : Bound Added) → Calm F a b → Adds 0 a b
adds_calm F a b calm = adds_same a b calm.kept.heap calm.kept.number calm.kept.pass

pub holds_calm : (F : List Taken → Type 0) (cells : List ℕ) (more : List Known)
    (a b : Bound Added) → Calm F a b → Holds cells more a → Holds cells more b
holds_calm F cells more a b calm at = record {
  inside = calm.kept.inside ∙ at.inside;
  held = calm.kept.held ∙ at.held;
  first = at.first;
  known = calm.kept.known ∙ at.known;
  room = calm.kept.room ∙ at.room;
}

-- a cut to the first place
pub cut_rests : (a b : Bound Added) → Loose a
    → b ≡ takes a (event.Keep a.seat.me.number 1 0 0) (finds.Presence a.seat.me.presence)
    → Rests b
cut_rests a b loose told =
    let at = loose.holds in
    record {
      inside = ap (λ (m : Bound Added). m.seat.me.presence.inside) told ∙ at.inside;
      held = held_kept a b 1 0 0 told
          ∙ ap (λ (cs : List ℕ). take 1 cs ++ []) at.held;
      first = at.first;
      known = known_kept a b 1 0 0 told ∙ ap (λ (ks : List Known). take 1 ks ++ []) at.known;
      room = ap (λ (m : Bound Added). m.seat.me.room) told ∙ at.room;
    }

pub cut_adds : (a b : Bound Added)
    → b ≡ takes a (event.Keep a.seat.me.number 1 0 0) (finds.Presence a.seat.me.presence)
    → Adds 0 a b
cut_adds a b told =
    adds_same a b (ap (λ (m : Bound Added). m.heap) told)
    (ap (λ (m : Bound Added). m.seat.me.number) told)
    (ap (λ (m : Bound Added). m.seat.me.pass) told)

pub stays_adds : (a b : Bound Added) → Stays a b → Adds 0 a b
stays_adds a b stays = adds_same a b stays.heap stays.number stays.pass

-- the private record of the next number
abbrev pub next_fields : ℕ → List MinorField
next_fields n = field.Num n ∷ field.Null ∷ field.Null ∷ field.Null ∷ field.Null ∷ []

pub promoted_next : (count : ℕ) (a b : Bound Added) (records : List (List MinorField))
    (r : MinorRef) → records ≡ next_fields (count + 1) ∷ [] → r.number ≡ 0 → HoldsCount count a
    → Promoted a records r b → HoldsNext count b
promoted_next count a b records r is newest at done =
    let so = at.holds in
    let term : slice_index_or (terms_of (known_terms a.seat.me.known) records) r.number null
    ≡ number_record (count + 1) =
    ap (λ (rs : List (List MinorField)).
    slice_index_or (terms_of (known_terms a.seat.me.known) rs) r.number null) is
    ∙ ap (λ (n : ℕ). slice_index_or (terms_of (known_terms a.seat.me.known)
    (next_fields (count + 1) ∷ [])) n null) newest in
    record {
      cell = at.cell;
      next = done.cell;
      holds = record {
        inside = done.stays.inside ∙ so.inside;
        held = done.held ∙ ap (λ (cs : List ℕ). cs ++ done.cell ∷ []) so.held;
        first = so.first;
        known = done.known
            ∙ (λ i. so.known i ++ knows.Record (term i) ∷ []);
        room = done.stays.room ∙ so.room;
      };
    }

pub refused_count : (count : ℕ) (a b : Bound Added) (full : HeapFull) → HoldsCount count a
    → Refused a full b → HoldsCount count b
refused_count count a b full at refused =
    let so = at.holds in
    record {
      cell = at.cell;
      holds = record {
        inside = refused.stays.inside ∙ so.inside;
        held = refused.held ∙ so.held;
        first = so.first;
        known = refused.known ∙ so.known;
        room = refused.stays.room ∙ so.room;
      };
    }

pub loose_count : (count : ℕ) (a : Bound Added) → HoldsCount count a → Loose a
loose_count count a at = record {
  cells = at.cell ∷ [];
  more = knows.Record (number_record count) ∷ [];
  holds = at.holds;
}

pub loose_some : (a : Bound Added) → Loose a → 1 ≤ length a.seat.me.own.held
loose_some a loose =
    let many = sym (cells_many a.seat.me.own.held)
    ∙ ap (λ (cs : List ℕ). length cs) loose.holds.held in
    omega (arith, many)
