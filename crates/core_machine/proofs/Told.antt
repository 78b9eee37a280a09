-- Where the part of one mutator is written, with its room as it was, the two lists of the state
-- have a new own part at its place and are otherwise as they were.
use Rattle.std.proofs.Common.{◌≡◌, ℕ, ◌<◌, List, length, map, get_or, set, sym, ◌∙◌, ap, subst}
use Rattle.std.proofs.Math.Seq.{map-set_same}
use Rattle.std.proofs.lemmas.List.{map-set, get_or-map, length-map}
use Rattle.core_machine.specs.Own.{Own, no_own}
use Rattle.core_machine.specs.Parts.{Part, parts_of, with_own}
use Rattle.core_machine.specs.State.{own_in, room_in}

-- the own part that the state has of mutator i is that of its part
pub own_read : (parts : List Part) (i : ℕ) (part : Part) → i < length (parts_of parts).owns
    → part ≡ get_or parts i part → own_in (parts_of parts).owns i ≡ part.own
own_read parts i part within read =
    let there : i < length parts = subst (λ (n : ℕ). i < n)
    (length-map parts (λ p. p.own)) within in
    get_or-map (λ p. p.own) parts i part no_own there ∙ sym (ap (λ (p : Part). p.own) read)

-- the room that the state has of mutator i is that of its part
pub room_read : (parts : List Part) (i : ℕ) (part : Part) → i < length (parts_of parts).owns
    → part ≡ get_or parts i part → room_in (parts_of parts).rooms i ≡ part.room
room_read parts i part within read =
    let there : i < length parts = subst (λ (n : ℕ). i < n)
    (length-map parts (λ p. p.own)) within in
    get_or-map (λ p. p.room) parts i part 0 there ∙ sym (ap (λ (p : Part). p.room) read)

pub told : (f : Own → Own) (parts : List Part) (i : ℕ) (part new : Part)
    → i < length (parts_of parts).owns
    → part ≡ get_or parts i part → new ≡ record part { own = f part.own }
    → parts_of (set parts i new) ≡ with_own (parts_of parts) i (f (own_in (parts_of parts).owns i))
told f parts i part new within read is =
    let rooms : map (λ (p : Part). p.room) (set parts i new) ≡ map (λ (p : Part). p.room) parts =
    map-set_same (λ (p : Part). p.room) parts i new part
    (ap (λ (p : Part). p.room) is ∙ ap (λ (p : Part). p.room) read) in
    let own : new.own ≡ f (own_in (parts_of parts).owns i) =
    ap (λ (p : Part). p.own) is ∙ ap f (sym (own_read parts i part within read)) in
    let owns : map (λ (p : Part). p.own) (set parts i new)
    ≡ set (map (λ (p : Part). p.own) parts) i (f (own_in (parts_of parts).owns i)) =
    map-set (λ (p : Part). p.own) parts i new
    ∙ ap (λ (o : Own). set (map (λ (p : Part). p.own) parts) i o) own in
    λ j. record { rooms = rooms j; owns = owns j }
