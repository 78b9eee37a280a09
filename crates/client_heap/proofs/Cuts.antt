-- After a cut of the private heap at a node's own record: what the node stands on still stands,
-- since records name only older ones. And what settling gives back.
use Rattle.std.proofs.Common.{◌≡◌, ◌<◌, ◌≤◌, ◌+◌, ℕ, List, length, take, refl, sym, ◌∙◌, ap, subst}
use Rattle.std.proofs.Common.{arith}
use Rattle.std.proofs.lemmas.List.{length-take, length-take-le}
use Rattle.client_trees.specs.declared.at.NodeAt.{NodeAt}
use Rattle.client_trees.specs.declared.at.NodeAt.TheVariants as at
use Rattle.client_trees.specs.Records.{IsAmong, Rests, rests, terms_known}
use Rattle.client_trees.proofs.Resting.{rests_stands}
use Rattle.client_session.specs.Handles.{GivesBack}
use Rattle.minor_heap.specs.declared.fields.MinorField.{MinorField}
use Rattle.minor_heap.specs.declared.fields.MinorRef.{MinorRef}
use Rattle.minor_heap.specs.Nursery.{FitsRecord, IsOrdered, Nursery, field_at}
use Rattle.minor_heap.proofs.Terms.{field_take, fits_is, term_take}
use Rattle.mutator_seat.specs.Bound.{Bound}
use Rattle.version_rule.specs.Pass.{Pass, commit_numbers}
use Rattle.client_heap.specs.Ages.{Ages, is_there, up_to}
use Rattle.client_heap.specs.Carries.{Carries, Follows}
use Rattle.client_heap.specs.Shows.{state_of}
use Rattle.client_heap.specs.Sound.{IsSound}
use Rattle.client_heap.proofs.Aged.{aged_sound}
use Rattle.client_heap.proofs.Resting.{draft_on, lasts_on, sound_on}

-- a record that stays rests where it rested
module _ (records : List (List MinorField)) (ok : ℕ → Type 0) (k : ℕ)
    (ordered : IsOrdered 0 records) where
  rests_take : (r : MinorRef) → r.number < k → Rests records ok r → Rests (take k records) ok r
  rests_take r lt (rests stands places older) =
      let same : (i : ℕ) → field_at (take k records) r.number i ≡ field_at records r.number i =
      λ i. field_take records k r.number i lt in
      let many = length-take k records in
      rests (omega (arith, stands, lt, many))
      (λ i place five is. places i place five (sym (same i) ∙ is))
      (λ i o five is.
      let names = sym (same i) ∙ is in
      let less : o.number < r.number =
      subst (λ (f : MinorField). FitsRecord r.number f) names
      (fits_is records r.number i ordered stands) in
      rests_take o (omega (arith, less, lt)) (older i o five names))

module _ (records : List (List MinorField)) where
  pub cut_ages : IsOrdered 0 records → (a : NodeAt) → Ages records (take (up_to a) records) a a
  cut_ages ordered (at.Shared place) = record {
    still = λ known places stands. stands;
    same = λ known. refl;
  }
  cut_ages ordered (at.Minor r) = record {
    still = λ known places stands. rests_take records (IsAmong known places) (r.number + 1)
        ordered r (omega arith) stands;
    same = λ known. term_take (terms_known known) records (r.number + 1) r (omega arith);
  }

  pub cut_length : (a : NodeAt) → is_there records a → length (take (up_to a) records) ≡ up_to a
  cut_length (at.Shared place) there = refl
  cut_length (at.Minor r) there = length-take-le (r.number + 1) records (omega (arith, there))

-- the draft is there
pub sound_there : (m : Bound Pass) (minor : Nursery) (d : NodeAt) (b : ℕ) → IsSound m minor d b
    → is_there minor.records d
sound_there m minor (at.Shared place) b sound = tt
sound_there m minor (at.Minor r) b sound = rests_stands minor.records _ r sound.stands

-- The places after the first so many are given back, and then records: the draft stays.
module _ (m n : Bound Pass) (minor new : Nursery) (d : NodeAt) (b : ℕ)
    (sound : IsSound m minor d b) (c : Carries b m n minor minor)
    (ages : Ages minor.records new.records d d) (room : new.room ≡ minor.room)
    (fewer : length new.records ≤ length minor.records) where
  cut_follows : Follows m n minor new
  cut_follows = record {
    inside = c.follows.inside;
    room = c.follows.room;
    cells = c.follows.cells;
    minor_room = room;
    same = c.follows.same;
    lasts = c.follows.lasts;
  }

  pub cut_sound : IsSound n new d b
  cut_sound =
      aged_sound n minor new room fewer d d ages b
      (sound_on b m n minor minor c d b sound (omega arith) sound.ready)

  pub gives_back : n.seat.me.pass ≡ m.seat.me.pass → n.seat.me.own.claims ≡ m.seat.me.own.claims
      → length n.seat.me.own.held ≡ b → GivesBack (state_of m minor d b) (state_of n new d b)
  gives_back pass claims held = record {
    lasts = lasts_on m n minor new cut_follows d d b b;
    claims = claims;
    commits = ap commit_numbers pass;
    draft = ages.same n.seat.me.known ∙ draft_on b m n minor minor c d b sound (omega arith);
    base = refl;
    room =
        let kept = sound.kept in
        let same = c.follows.room in
        omega (arith, kept, same, held, fewer);
    spare = omega (arith, room, fewer);
  }
