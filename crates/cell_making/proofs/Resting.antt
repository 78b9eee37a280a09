-- What calls leave of a mutator that works from the anchor on: it stays in, comes to rest after a
-- cut, and its pass is as it was.
use Rattle.std.proofs.Common.{◌≡◌, ◌≤◌, ◌∷◌, ◌++◌, ℕ, List, [], true, length, take, get_or}
use Rattle.std.proofs.Common.{ap, sym, ◌∙◌, arith}
use Rattle.std.proofs.lemmas.List.{append-nil}
use Rattle.core_machine.specs.declared.events.Event.TheVariants as event
use Rattle.core_machine.specs.declared.events.Found.TheVariants as finds
use Rattle.core_machine.specs.declared.events.Taken.{Taken}
use Rattle.heap_rule.proofs.Reading.{cell_there}
use Rattle.held_places.specs.Calls.{Goes}
use Rattle.held_places.proofs.Going.{calm_goes, cut_goes, cut_pass, many_cells, many_held}
use Rattle.held_places.proofs.Going.{target_still}
use Rattle.mutator_seat.specs.Bound.{Bound, held_cells, takes}
use Rattle.mutator_seat.specs.Stretches.{Calm, SamePlaces}
use Rattle.mutator_seat.proofs.Writes.{many_same}
use Rattle.promotion.proofs.Holding.{held_kept}
use Rattle.promotion.specs.Promoting.{Stays}
use Rattle.trails.specs.Asks.{Ask}
use Rattle.cell_making.specs.Resting.{HasPass, Loose, Rests}

pub comes_to_rest : {P : Type 0} (room : ℕ) (m : Bound P) → m.seat.me.presence.inside ≡ true
    → held_cells m ≡ 0 ∷ [] → m.seat.me.room ≡ room → Rests room m
comes_to_rest room m inside held is =
    let one : length m.seat.me.own.held ≡ 1 =
    sym (many_cells m) ∙ ap (λ (cs : List ℕ). length cs) held in
    record {
      loose = record {
        is_in = record {
          inside = inside;
          some = omega (arith, one);
          anchor = sym (cell_there m.seat.me.own.held 0)
              ∙ ap (λ (cs : List ℕ). get_or cs 0 0) held;
        };
        room_is = is;
      };
      alone = one;
    }

-- Calls that hold more cells, or as many.

module _ {P : Type 0} (room : ℕ) (a b : Bound P) (cells : List ℕ)
    (held : held_cells b ≡ held_cells a ++ cells) where
  loose_on : b.seat.me.presence.inside ≡ a.seat.me.presence.inside
      → b.seat.me.room ≡ a.seat.me.room → Loose room a → Loose room b
  loose_on inside same at = record {
    is_in = record {
      inside = inside ∙ at.is_in.inside;
      some =
          let many = many_held a b cells held in
          let some = at.is_in.some in omega (arith, many, some);
      anchor = target_still a b cells held 0 at.is_in.some ∙ at.is_in.anchor;
    };
    room_is = same ∙ at.room_is;
  }

  pub loose_goes : (asks : List Ask) → Goes asks a b → Loose room a → Loose room b
  loose_goes asks goes = loose_on goes.inside goes.room

  -- a record was made
  pub loose_stays : Stays a b → Loose room a → Loose room b
  loose_stays stays = loose_on stays.inside stays.room

module _ {P : Type 0} (room : ℕ) (a b : Bound P) where
  pub loose_same : SamePlaces a b → Loose room a → Loose room b
  loose_same same =
      loose_on room a b [] (same.held ∙ sym (append-nil (held_cells a))) same.inside same.room

-- the pass is unchanged, or picked
pub has_goes : {P : Type 0} (asks : List Ask) (pass : P) (a b : Bound P) → Goes asks a b
    → b.seat.me.pass ≡ pass → HasPass pass a b
has_goes asks pass a b goes is = record {
  heap = goes.heap;
  number_is = goes.number;
  pass_is = is;
}

pub has_stays : {P : Type 0} (a b : Bound P) → Stays a b → HasPass a.seat.me.pass a b
has_stays a b stays = record {
  heap = stays.heap;
  number_is = stays.number;
  pass_is = stays.pass;
}

-- Stretches that keep what is held.

module _ {P : Type 0} (F : List Taken → Type 0) (a b : Bound P) (calm : Calm F a b) where
  pub has_calm : HasPass a.seat.me.pass a b
  has_calm = has_goes [] a.seat.me.pass a b (calm_goes F a b calm) calm.kept.pass

  pub loose_calm : (room : ℕ) → Loose room a → Loose room b
  loose_calm room at =
      loose_goes room a b [] (calm.kept.held ∙ sym (append-nil (held_cells a))) []
      (calm_goes F a b calm) at

  pub rests_calm : (room : ℕ) → Rests room a → Rests room b
  rests_calm room at = record {
    loose = loose_calm room at.loose;
    alone = many_same b.seat.me.own.held a.seat.me.own.held calm.kept.held ∙ at.alone;
  }

-- The cut to the anchor.

module _ {P : Type 0} (a b : Bound P)
    (told : b ≡ takes a (event.Keep a.seat.me.number 1 0 0) (finds.Presence a.seat.me.presence))
  where
    pub has_cut : HasPass a.seat.me.pass a b
    has_cut = has_goes [] a.seat.me.pass a b
        (cut_goes a b 1 (finds.Presence a.seat.me.presence) told)
        (cut_pass a b 1 (finds.Presence a.seat.me.presence) told)

    first_alone : (cells : List ℕ) → 1 ≤ length cells → get_or cells 0 0 ≡ 0
        → take 1 cells ++ [] ≡ 0 ∷ []
    first_alone [] some is = absurd (omega (arith, some))
    first_alone (x ∷ xs) some is = ap (λ (c : ℕ). c ∷ []) is

    pub rests_cut : (room : ℕ) → Loose room a → Rests room b
    rests_cut room at =
        let goes = cut_goes a b 1 (finds.Presence a.seat.me.presence) told in
        comes_to_rest room b (goes.inside ∙ at.is_in.inside)
        (held_kept a b 1 0 0 told
        ∙ first_alone (held_cells a)
        (let many = many_cells a in let some = at.is_in.some in omega (arith, many, some))
        (cell_there a.seat.me.own.held 0 ∙ at.is_in.anchor))
        (goes.room ∙ at.room_is)
