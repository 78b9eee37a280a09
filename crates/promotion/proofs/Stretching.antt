-- Stretches that follow one another: what they add is joined, and so is what stays.
use Rattle.std.proofs.Common.{◌≡◌, List, [], ◌∷◌, ◌++◌, refl, sym, ◌∙◌, ap, subst}
use Rattle.std.proofs.lemmas.List.{append_assoc}
use Rattle.cell_words.specs.declared.presences.Presence.{Presence}
use Rattle.core_machine.specs.Own.{presence_after}
use Rattle.core_machine.specs.declared.events.Event.{Event}
use Rattle.core_machine.specs.declared.events.Found.{Found}
use Rattle.core_machine.specs.declared.events.Taken.{Taken}
use Rattle.heap_rule.specs.Rule.{took}
use Rattle.mutator_seat.specs.Bound.{Bound, takes}
use Rattle.mutator_seat.specs.Claims.{anything}
use Rattle.mutator_seat.specs.Stretches.{Calm, Kept, takes_all}
use Rattle.mutator_seat.proofs.Calm.{takes_all_append}
use Rattle.promotion.specs.Promoting.{Adds, Stays, Within}

-- A part of a longer stretch.

pub within_whole : (F : List Taken → Type 0) (xs : List Taken) → F xs → Within F xs
within_whole F xs fact = record {
  before = [];
  part = xs;
  after = [];
  split = sym (append_nil xs);
  fact = fact;
}
  where
    append_nil : (ys : List Taken) → ys ++ [] ≡ ys
    append_nil [] = refl
    append_nil (y ∷ ys) = ap (λ (zs : List Taken). y ∷ zs) (append_nil ys)

pub within_late : (F : List Taken → Type 0) (xs ys : List Taken) → Within F ys
    → Within F (xs ++ ys)
within_late F xs ys within = record {
  before = xs ++ within.before;
  part = within.part;
  after = within.after;
  split = ap (λ (zs : List Taken). xs ++ zs) within.split
      ∙ sym (append_assoc xs within.before (within.part ++ within.after));
  fact = within.fact;
}

pub within_on : (F : List Taken → Type 0) (xs ys : List Taken) → Within F xs
    → Within F (xs ++ ys)
within_on F xs ys within = record {
  before = within.before;
  part = within.part;
  after = within.after ++ ys;
  split = ap (λ (zs : List Taken). zs ++ ys) within.split
      ∙ append_assoc within.before (within.part ++ within.after) ys
      ∙ ap (λ (zs : List Taken). within.before ++ zs) (append_assoc within.part within.after ys);
  fact = within.fact;
}

module _ {P : Type 0} where
  pub stays_same : (m : Bound P) → Stays m m
  stays_same m = record {
    heap = refl;
    table = refl;
    shape = refl;
    role = refl;
    number = refl;
    room = refl;
    pass = refl;
    inside = refl;
    over = refl;
  }

  pub stays_then : (a b c : Bound P) → Stays a b → Stays b c → Stays a c
  stays_then a b c first second = record {
    heap = second.heap ∙ first.heap;
    table = second.table ∙ first.table;
    shape = second.shape ∙ first.shape;
    role = second.role ∙ first.role;
    number = second.number ∙ first.number;
    room = second.room ∙ first.room;
    pass = second.pass ∙ first.pass;
    inside = second.inside ∙ first.inside;
    over = second.over ∙ first.over;
  }

  pub stays_kept : (a b : Bound P) → Kept a b → Stays a b
  stays_kept a b kept = record {
    heap = kept.heap;
    table = kept.table;
    shape = kept.shape;
    role = kept.role;
    number = kept.number;
    room = kept.room;
    pass = kept.pass;
    inside = kept.inside;
    over = kept.over;
  }

  -- an event that leaves the presence
  pub stays_event : (a b : Bound P) (e : Event) (found : Found) → b ≡ takes a e found
      → presence_after a.seat.me.presence e found ≡ a.seat.me.presence → Stays a b
  stays_event a b e found told same =
      subst (λ (m : Bound P). Stays a m) (sym told) record {
        heap = refl;
        table = refl;
        shape = refl;
        role = refl;
        number = refl;
        room = refl;
        pass = refl;
        inside = ap (λ (p : Presence). p.inside) same;
        over = ap (λ (p : Presence). p.over) same;
      }

  -- What is added.

  pub adds_none : (m : Bound P) → Adds anything m m
  adds_none m = record { added = []; told = refl; fact = tt }

  pub adds_calm : (F : List Taken → Type 0) (a b : Bound P) → Calm F a b → Adds F a b
  adds_calm F a b calm = record { added = calm.added; told = calm.told; fact = calm.fact }

  pub adds_anyhow : (F : List Taken → Type 0) (a b : Bound P) → Adds F a b → Adds anything a b
  adds_anyhow F a b so = record { added = so.added; told = so.told; fact = tt }

  pub adds_event : (a b : Bound P) (e : Event) (found : Found) → b ≡ takes a e found
      → Adds anything a b
  adds_event a b e found told = record {
    added = took e found ∷ [];
    told = told;
    fact = tt;
  }

  pub adds_then : (F G H : List Taken → Type 0) (a b c : Bound P)
      → ((xs ys : List Taken) → F xs → G ys → H (xs ++ ys)) → Adds F a b → Adds G b c → Adds H a c
  adds_then F G H a b c both first second = record {
    added = first.added ++ second.added;
    told = second.told
        ∙ ap (λ (m : Bound P). takes_all m second.added) first.told
        ∙ sym (takes_all_append a first.added second.added);
    fact = both first.added second.added first.fact second.fact;
  }

  pub any_then : (a b c : Bound P) → Adds anything a b → Adds anything b c → Adds anything a c
  any_then a b c first second =
      adds_then anything anything anything a b c (λ xs ys f s. tt) first second
