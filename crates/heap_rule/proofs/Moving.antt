-- The rule at the opening, and that splitting a mutator off and joining it keep it.
use Rattle.std.proofs.Common.{◌⊎◌, ◌≡◌, ◌≢◌, ◌<◌, ◌+◌, ◌-◌, ◌==◌, ℕ, zero, suc, Bool, true}
use Rattle.std.proofs.Common.{false, List, [], ◌∷◌, ◌++◌, length}
use Rattle.std.proofs.Common.{Option, Some, None, inl, inr, refl, sym, ◌∙◌, ap, subst, arith}
use Rattle.std.proofs.Common.{if◌then◌else◌, replicate, get_or}
use Rattle.std.proofs.Math.ListN.{set}
use Rattle.std.proofs.lemmas.Bool.{and_parts, cases_lt, eq-eqb, ne_eqb}
use Rattle.std.proofs.lemmas.List.{get_or-set_same, get_or-set_other, get_or_past, length-replicate}
use mathlib.Core.Option.{some}
use lib.ListN.{get_elem?}
use Rattle.atomic_table.specs.Table as table
use Rattle.atomic_table.proofs.Lists.{at_set, set_here}
use Rattle.atomic_table.proofs.Lists as lists
use Rattle.cell_words.specs.declared.colours.Colour.TheVariants as colour
use Rattle.cell_words.specs.declared.fields.Field.{Field}
use Rattle.cell_words.specs.declared.fields.Field.TheVariants as field
use Rattle.cell_words.specs.declared.presences.Presence.{Presence}
use Rattle.core_machine.specs.declared.events.Taken.{Taken}
use Rattle.core_machine.specs.Frames.{Knows}
use Rattle.core_machine.specs.Next.{after}
use Rattle.core_machine.specs.Run.{Runs, last}
use Rattle.core_machine.specs.Trail.{roomed}
use Rattle.core_machine.proofs.Frames.{as_large}
use Rattle.core_machine.proofs.Rooms.{last_roomed, opening_roomed, runs_roomed}
use Rattle.heap_rule.specs.declared.view.Share.{Share}
use Rattle.core_machine.specs.Own.{Own, no_own}
use Rattle.core_machine.specs.State.{State, field_in, field_of, no_presence, null_row}
use Rattle.core_machine.specs.State.{opening_collector, opening_presence, own_in}
use Rattle.core_machine.specs.State.{presence_of, room_in}
use Rattle.core_machine.specs.Table.{words_of}
use Rattle.core_machine.specs.Words.{is_raw_kind}
use Rattle.dlg_core.specs.FirstRows.{are_first_rows, is_first_row}
use Rattle.dlg_core.specs.Reachable.{Reachable}
use Rattle.dlg_core.proofs.Safety.{consistent_safe}
use Rattle.dlg_core.proofs.Starts.{back_of, front_of, in_replicate, null_behind, one_of_list}
use Rattle.dlg_core.proofs.Starts.{opening_consistent, same_everywhere, sealed_not_raw}
use Rattle.heap_rule.specs.declared.known.Known.{Known}
use Rattle.heap_rule.specs.declared.view.Place.{Place}
use Rattle.heap_rule.specs.declared.view.Place.TheVariants as places
use Rattle.heap_rule.specs.declared.view.Role.{Role}
use Rattle.heap_rule.specs.declared.view.Role.TheVariants as role
use Rattle.heap_rule.specs.declared.view.View.{View}
use Rattle.heap_rule.specs.Boxes.{Map, boxes_of}
use Rattle.heap_rule.specs.Facts.{AllKnown, Facts, IsKnown, TermFits, is_record_kind}
use Rattle.heap_rule.specs.Lore.{Terms, cells_in, cells_of, entry_of, known_in}
use Rattle.heap_rule.specs.Moves.{given_view, joined_view, spent_view, split_view}
use Rattle.heap_rule.specs.Opening.{FirstTerms, opening_lore, opening_passes, opening_rooms}
use Rattle.heap_rule.specs.Opening.{opening_view, passes_from}
use Rattle.heap_rule.specs.Rule.{CollectorFits, Kept, Ledger, MutatorFits, PlaceFits, share_of}
use Rattle.heap_rule.specs.Rule.{IsAlone, SeatFits, ShareFits, Stands, unsplit}
use Rattle.heap_rule.specs.Shape.{IsSound, Shape, start}
use Rattle.heap_rule.proofs.Carried.{term_moved}

-- no event of a run changes how many rooms there are
rooms_along : (s : State) (ts : List Taken) → (last s ts).rooms ≡ s.rooms
rooms_along s [] = refl
rooms_along s (t ∷ ts) = rooms_along (after s t.event) ts ∙ (as_large s t.event).rooms

mutators_along : (s : State) (ts : List Taken) → (last s ts).mutators ≡ s.mutators
mutators_along s [] = refl
mutators_along s (t ∷ ts) = mutators_along (after s t.event) ts ∙ (as_large s t.event).mutators

-- The opening.

-- the rows are the first ones, and null after them
first_field : (first : List (List Field)) (n x f : ℕ)
    → field_in (first ++ replicate n null_row) x f ≡ field_in first x f
first_field first n x f = elim (cases_lt x (length first)) [
  | inl lt ↦ ap (λ (row : List Field). get_or row f field.Null)
      (front_of first (replicate n null_row) x [] lt)
  | inr past ↦
      null_behind first n x f past
      ∙ sym (ap (λ (row : List Field). get_or row f field.Null) (get_or_past first x [] past))
]

no_cells : (n i : ℕ) → cells_in (own_in (replicate n no_own) i).held ≡ []
no_cells n i = ap (λ (o : Own). cells_in o.held) (same_everywhere n i no_own)

-- a cell of the first rows is sealed
first_sealed : (first : List (List Field)) (x : ℕ) → are_first_rows first ≡ true → x < length first
    → is_raw_kind (field_in first x 5) ≡ false
first_sealed first x h lt =
    let row = one_of_list (is_first_row (length first)) first x [] (and_parts _ _ h).1 lt in
    sealed_not_raw (field_in first x 5) (and_parts _ _ row).1

pub opening_facts : (fixed : ℕ → Bool) (h : Shape) (terms : Terms) → IsSound h
    → FirstTerms h.first terms
    → Facts fixed (start h (opening_rooms h.mutators)) (opening_lore terms h.mutators)
opening_facts fixed h terms sound firsts =
    let s = start h (opening_rooms h.mutators) in
    let fields : (x f : ℕ)
    → field_of s x f
    ≡ field_in h.first x f = (λ x f. first_field h.first (h.cells - length h.first) x f) in
    let many : s.mutators ≡ h.mutators = length-replicate h.mutators 1 in
    let none : (i : ℕ) → cells_of s i ≡ [] = no_cells s.mutators in
    record {
      termed = λ x r.
          term_moved (is_record_kind (field_of s x 5)) terms terms (field_in h.first x)
          (field_of s x) (terms x) (terms x) refl
          (λ f lt. ap (entry_of terms) (fields x f))
          (subst (λ (b : Bool). TermFits b terms (field_in h.first x) (terms x))
          (sym (ap is_record_kind (fields x 5))) (firsts x));
      freshed = record {
        anchor = refl;
        held = λ x i is. absurd cc;
        alone = λ x i j is there. absurd cc;
        unnamed = λ x i a f is r e. absurd cc;
        raw = λ x r is_raw. absurd (no_raw x r is_raw);
      };
      known_fit = length-replicate h.mutators [] ∙ sym many;
      known_all = λ i.
          subst (λ (cs : List ℕ). AllKnown (IsKnown fixed s (opening_lore terms h.mutators) i) cs
          (known_in (replicate h.mutators []) i)) (sym (none i))
          (subst (λ (ws : List Known). AllKnown
          (IsKnown fixed s (opening_lore terms h.mutators) i) [] ws)
          (sym (same_everywhere h.mutators i [])) tt);
    }
  where
    no_raw : (x : ℕ) → Reachable (start h (opening_rooms h.mutators)) x
        → is_raw_kind (field_of (start h (opening_rooms h.mutators)) x 5) ≡ true → ⊥
    no_raw x r is_raw = elim (cases_lt x (length h.first)) [
      | inl lt ↦ absurd (
          let sealed = first_sealed h.first x sound.first lt in
          let same = ap is_raw_kind (first_field h.first (h.cells - length h.first) x 5) in cc)
      | inr past ↦
          (consistent_safe (start h (opening_rooms h.mutators))
          (opening_consistent h.cells
          (opening_rooms h.mutators) h.first sound.fit sound.first)).reached x r
          (back_of (replicate (length h.first) colour.White)
          (replicate (h.cells - length h.first) colour.Blue) x colour.Blue colour.Blue
          (let n = length-replicate (length h.first) colour.White in omega (arith, n, past))
          (λ j. same_everywhere (h.cells - length h.first) j colour.Blue))
    ]

-- reading of lists by `get_elem?`
pub some_below : {A : Type 0} (xs : List A) (i : ℕ) (a : A) → get_elem? xs i ≡ some a
    → i < length xs
some_below [] i a h = absurd cc
some_below (x ∷ xs) zero a h = omega arith
some_below (x ∷ xs) (suc i) a h = let lt = some_below xs i a h in omega (arith, lt)

-- of a list with one element more at its end
last_or : {A : Type 0} (xs : List A) (a b : A) (j : ℕ) → get_elem? (xs ++ a ∷ []) j ≡ some b
    → (get_elem? xs j ≡ some b) ⊎ ((j ≡ length xs) × (a ≡ b))
last_or [] a b zero h = inr (refl, cc)
last_or [] a b (suc j) h = absurd cc
last_or (x ∷ xs) a b zero h = inl h
last_or (x ∷ xs) a b (suc j) h = elim (last_or xs a b j h) [
  | inl before ↦ inl before
  | inr behind ↦ inr (ap suc behind.0, behind.1)
]

replicated : {A : Type 0} (n i : ℕ) (x a : A) → get_elem? (replicate n x) i ≡ some a → x ≡ a
replicated zero i x a h = absurd cc
replicated (suc n) zero x a h = cc
replicated (suc n) (suc i) x a h = replicated n i x a h

pass_at : {P : Type 0} (opens : ℕ → ℕ → P) (setting number more i : ℕ) → i < more
    → get_elem? (passes_from opens setting number more) i ≡ some (opens (number + i) setting)
pass_at opens setting number zero i lt = absurd (omega arith)
pass_at opens setting number (suc more) zero lt =
    let same : number ≡ number + 0 = omega arith in ap (λ (n : ℕ). some (opens n setting)) same
pass_at opens setting number (suc more) (suc i) lt =
    let same : number + 1 + i ≡ number + suc i = omega arith in
    pass_at opens setting (number + 1) more i (omega arith)
    ∙ ap (λ (n : ℕ). some (opens n setting)) same

passes_long : {P : Type 0} (opens : ℕ → ℕ → P) (setting number more : ℕ)
    → length (passes_from opens setting number more) ≡ more
passes_long opens setting number zero = refl
passes_long opens setting number (suc more) = ap suc (passes_long opens setting (number + 1) more)

module _ {P : Type 0} (opens : ℕ → ℕ → P) (holds : Map → List P → Type 0) (fixed : ℕ
    → Bool) (h : Shape) where
  abbrev opened : Terms → Ledger P
  opened terms = record {
    core = start h (opening_rooms h.mutators);
    lore = opening_lore terms h.mutators;
    run = [];
    places = replicate h.mutators places.Unsplit;
    owner = λ i. 0;
    collector = 0;
    passes = opening_passes opens h;
  }

  unsplit_fits : (terms : Terms) (i : ℕ) → i < h.mutators
      → ShareFits (opened terms) i (unsplit opens h i)
  unsplit_fits terms i lt =
      let many : length (opening_rooms h.mutators) ≡ h.mutators = length-replicate h.mutators 1 in
      record {
        room = in_replicate h.mutators i 1 0 lt;
        own = same_everywhere (length (opening_rooms h.mutators)) i no_own;
        presence = subst (λ (p : Presence). Knows opening_presence p)
            (sym (in_replicate (length (opening_rooms h.mutators)) i opening_presence no_presence
            (omega (arith, lt, many))))
            record { inside = refl; over = refl; status = λ is. refl };
        known = same_everywhere h.mutators i [];
        pass = pass_at opens h.setting 0 h.mutators i lt
            ∙ ap (λ (n : ℕ). some (opens n h.setting)) (let same : 0 + i ≡ i = omega arith in same);
        trail = refl;
      }

  place_opens : (terms : Terms) (i : ℕ) (p : Place P) → i < h.mutators → places.Unsplit ≡ p
      → PlaceFits opens h (opened terms) i p
  place_opens terms i p lt is = subst (λ (q : Place P). PlaceFits opens h (opened terms) i q) is
      (unsplit_fits terms i lt)

  -- the rule holds of the table that is made
  pub opens_kept : (terms : Terms) → IsSound h → FirstTerms h.first terms
      → holds (boxes_of (start h (opening_rooms h.mutators)) (opening_lore terms h.mutators))
      (opening_passes opens h)
      → {S : Type 0} → Kept opens holds fixed h {S = S}
      (table.opening (words_of (start h (opening_rooms h.mutators))) [] (opening_view opens h))
  opens_kept terms sound firsts kept = record {
    ledger = opened terms;
    stands = record {
      sound = sound;
      cells = refl;
      mutators = length-replicate h.mutators 1;
      legal = tt;
      core_is = refl;
      facts = opening_facts fixed h terms sound firsts;
      passes_fit = passes_long opens h.setting 0 h.mutators;
      kept = kept;
    };
    words_are = refl;
    each_place = λ i p there.
        let lt : i < h.mutators = let below = some_below
        (replicate h.mutators places.Unsplit) i p there in
        let still : Place P = places.Unsplit in
        let n = length-replicate h.mutators still in omega (arith, below, n) in
        place_opens terms i p lt (replicated h.mutators i places.Unsplit p there);
    each_seat = λ j v there. one_seat terms j v there;
  }
    where
      one_seat : (terms : Terms) (j : ℕ) (v : View P)
          → get_elem? (opening_view opens h ∷ []) j ≡ some v
          → SeatFits h (opened terms) j v v.role
      one_seat terms zero v there =
          let same : opening_view opens h ≡ v = cc in
          subst (λ (u : View P). SeatFits h (opened terms) 0 u u.role) same record {
            shape = refl;
            seat_is = refl;
            places = refl;
            control = refl;
            part = ap (λ (n : ℕ). opening_collector h.cells n) (length-replicate h.mutators 1);
            over_fit = length-replicate h.mutators false;
            over_so = λ i is. let no = sym (same_everywhere h.mutators i false) ∙ is in absurd cc;
            alone = tt;
            trail = refl;
          }
      one_seat terms (suc j) v there = absurd cc

  -- where the state is known every mutator is over, and so was split off
  alone_roomed : (alone : Option State) (s : State) (rooms : List ℕ) (i : ℕ)
      → (presence_of s i).over ≡ false → IsAlone alone s → IsAlone alone (roomed s rooms)
  alone_roomed None s rooms i not_over is = tt
  alone_roomed (Some t) s rooms i not_over
      is = absurd (let no = sym not_over ∙ (is.1 i).1 in cc)

  -- Splitting mutator i off, with so many places of room: it had no event, so the run stays one
  -- with another room of it.
  roomed_else : (rooms : List ℕ) (i room j : ℕ) → j ≢ i
      → room_in (set rooms i room) j ≡ room_in rooms j
  roomed_else rooms i room j other = get_or-set_other rooms i j room 0 other

  module _ (l : Ledger P) (i room seat : ℕ) (stands : Stands holds fixed h l) (lt : i < h.mutators)
      (fits : ShareFits l i (unsplit opens h i)) where
    abbrev split : Ledger P
    split = record l {
      core = roomed l.core (set l.core.rooms i room);
      places = set l.places i places.Away;
      owner = λ k. if k == i then seat else l.owner k;
    }

    rooms_many : length l.core.rooms ≡ h.mutators
    rooms_many =
        sym (mutators_along (start h l.core.rooms) l.run)
        ∙ ap (λ (s : State). s.mutators) stands.core_is ∙ stands.mutators

    split_stands : Stands holds fixed h split
    split_stands =
        let rooms = l.core.rooms in
        let opened_is : start h (set rooms i room)
        ≡ roomed (start h rooms) (set rooms i room) = opening_roomed h.cells rooms h.first i room in
        let facts = stands.facts in
        record {
          sound = stands.sound;
          cells = stands.cells;
          mutators = stands.mutators;
          legal = subst (λ (s : State). Runs s l.run) (sym opened_is)
              (runs_roomed (start h rooms) i room l.run fits.trail stands.legal);
          core_is =
              ap (λ (s : State). last s l.run) opened_is
              ∙ last_roomed (start h rooms) (set rooms i room) l.run
              ∙ ap (λ (s : State). roomed s (set rooms i room)) stands.core_is;
          facts = record {
            termed = facts.termed;
            freshed = facts.freshed;
            known_fit = facts.known_fit;
            known_all = facts.known_all;
          };
          passes_fit = stands.passes_fit;
          kept = stands.kept;
        }

    split_share : (j : ℕ) (share : Share P) → j ≢ i → ShareFits l j share → ShareFits split j share
    split_share j share other is = record {
      room = roomed_else l.core.rooms i room j other ∙ is.room;
      own = is.own;
      presence = is.presence;
      known = is.known;
      pass = is.pass;
      trail = is.trail;
    }

    split_place : (j : ℕ) (p : Place P) → j ≢ i → PlaceFits opens h l j p
        → PlaceFits opens h split j p
    split_place j places.Unsplit other is = split_share j (unsplit opens h j) other is
    split_place j places.Away other is = tt
    split_place j (places.Joined share) other is = (split_share j share other is.0, is.1)

    split_seat : (j : ℕ) (u : View P) (r : Role) → get_elem? l.places i ≡ some places.Unsplit
        → j ≢ l.collector
        → SeatFits h l j u r → SeatFits h split j u r
    split_seat j u role.Mutator there other is =
        let apart : u.number ≢ i = (λ same. let no : some places.Away
        ≡ some places.Unsplit = sym is.place ∙ ap (get_elem? l.places) same ∙ there in cc) in
        record {
          shape = is.shape;
          number = is.number;
          place = lists.set_else l.places i u.number places.Away apart ∙ is.place;
          owner = ap (λ (b : Bool). if b then seat else l.owner u.number) (ne_eqb u.number i apart)
              ∙ is.owner;
          share = split_share u.number (share_of u) apart is.share;
        }
    split_seat j u role.Collector there other is = absurd (other (sym is.seat_is))
    split_seat j u role.Spent there other is = tt

    -- the new seat
    given_fits : (v : View P) → v.shape ≡ h → i < length l.places
        → MutatorFits h split seat (given_view opens i room v)
    given_fits v shape below = record {
      shape = shape;
      number = lt;
      place = set_here l.places i places.Away below;
      owner = ap (λ (b : Bool). if b then seat else l.owner i) (eq-eqb i i refl);
      share = record {
        room = get_or-set_same l.core.rooms i room 0 (let n = rooms_many in omega (arith, lt, n));
        own = fits.own;
        presence = fits.presence;
        known = fits.known;
        pass = fits.pass ∙ ap (λ (x : Shape). some (opens i x.setting)) (sym shape);
        trail = fits.trail;
      };
    }

  pub splits : {S : Type 0} (i room id : ℕ) (v : View P) → v.role ≡ role.Collector
      → i < v.shape.mutators
      → get_elem? v.places i ≡ some places.Unsplit
      → table.Splits (Kept opens holds fixed h {S = S}) id v (split_view i v)
      (given_view opens i room v)
  splits i room id v is lt there s k at =
      let l = k.ledger in
      let ours : CollectorFits h l id v = subst (λ (r : Role). SeatFits h l id v r) is
      (k.each_seat id v at) in
      let seat = length (set s.views id (split_view i v)) in
      let old : get_elem? l.places i
      ≡ some places.Unsplit = ap (λ (ps : List (Place P)). get_elem? ps i) ours.places
      ∙ there in
      let within : i < h.mutators = subst (λ (x : Shape). i < x.mutators) ours.shape lt in
      let fits : ShareFits l i (unsplit opens h i) = k.each_place i places.Unsplit old in
      let new = split l i room seat k.stands within fits in
      let left : SeatFits h new id (split_view i v) v.role = subst
      (λ (r : Role). SeatFits h new id (split_view i v) r) (sym is) record {
        shape = ours.shape;
        seat_is = ours.seat_is;
        places = ap (λ (ps : List (Place P)). set ps i places.Away) ours.places;
        control = ours.control;
        part = ours.part;
        over_fit = ours.over_fit;
        over_so = ours.over_so;
        alone = alone_roomed v.alone l.core (set l.core.rooms i room) i (sym fits.presence.over)
            ours.alone;
        trail = ours.trail;
      } in
      let right = given_fits l i room seat k.stands within fits v ours.shape
      (some_below l.places i places.Unsplit old) in
      record {
        ledger = new;
        stands = split_stands l i room seat k.stands within fits;
        words_are = k.words_are;
        each_place = λ j p place. elim (at_set l.places i j places.Away p place) [
          | inl here ↦ subst (λ (q : Place P). PlaceFits opens h new j q) here.1 tt
          | inr other ↦ split_place l i room seat k.stands within fits j p other.0
              (k.each_place j p other.1)
        ];
        each_seat = λ j u view.
            elim (last_or (set s.views id (split_view i v)) (given_view opens i room v) u j view) [
              | inl before ↦ elim (at_set s.views id j (split_view i v) u before) [
                | inl here ↦
                    subst (λ (n : ℕ). SeatFits h new n u u.role) (sym here.0)
                    (subst (λ (x : View P). SeatFits h new id x x.role) here.1 left)
                | inr other ↦ split_seat l i room seat k.stands within fits j u u.role old
                    (λ same. other.0 (same ∙ ours.seat_is)) (k.each_seat j u other.1)
              ]
              | inr last_one ↦
                  subst (λ (n : ℕ). SeatFits h new n u u.role) (sym last_one.0)
                  (subst (λ (x : View P). SeatFits h new seat x x.role) last_one.1 right)
            ];
      }

  -- Joining a mutator that is over.
  module _ (l : Ledger P) (u : View P) where
    abbrev joined : Ledger P
    joined = record l { places = set l.places u.number (places.Joined (share_of u)) }

    joined_share : (j : ℕ) (share : Share P) → ShareFits l j share → ShareFits joined j share
    joined_share j share is = record {
      room = is.room;
      own = is.own;
      presence = is.presence;
      known = is.known;
      pass = is.pass;
      trail = is.trail;
    }

    joined_place : (j : ℕ) (p : Place P) → PlaceFits opens h l j p → PlaceFits opens h joined j p
    joined_place j places.Unsplit is = joined_share j (unsplit opens h j) is
    joined_place j places.Away is = tt
    joined_place j (places.Joined share) is = (joined_share j share is.0, is.1)

    joined_seat : (j seat : ℕ) (w : View P) (r : Role) → l.owner u.number ≡ seat → j ≢ seat
        → j ≢ l.collector
        → SeatFits h l j w r → SeatFits h joined j w r
    joined_seat j seat w role.Mutator owner other apart is =
        let away : w.number ≢ u.number = (λ same. other (sym is.owner ∙ ap l.owner same ∙ owner)) in
        record {
          shape = is.shape;
          number = is.number;
          place = lists.set_else l.places u.number w.number (places.Joined (share_of u)) away
              ∙ is.place;
          owner = is.owner;
          share = joined_share w.number (share_of w) is.share;
        }
    joined_seat j seat w role.Collector owner other apart is = absurd (apart (sym is.seat_is))
    joined_seat j seat w role.Spent owner other apart is = tt

  pub joins : {S : Type 0} (id : ℕ) (v : View P) (seat : ℕ) (u : View P) → v.role ≡ role.Collector
      → u.role ≡ role.Mutator
      → u.presence.over ≡ true
      → table.Joins (Kept opens holds fixed h {S = S}) id v seat u (joined_view v u)
      (spent_view opens)
  joins id v seat u is joins_it over s k at apart there =
      let l = k.ledger in
      let ours : CollectorFits h l id v = subst (λ (r : Role). SeatFits h l id v r) is
      (k.each_seat id v at) in
      let before : get_elem? s.views seat
      ≡ some u = sym (lists.set_else s.views id seat (joined_view v u) apart) ∙ there in
      let mine : MutatorFits h l seat u = subst (λ (r : Role). SeatFits h l seat u r) joins_it
      (k.each_seat seat u before) in
      let new = joined l u in
      let stands = k.stands in
      let both : SeatFits h new id (joined_view v u) v.role = subst
      (λ (r : Role). SeatFits h new id (joined_view v u) r) (sym is) record {
        shape = ours.shape;
        seat_is = ours.seat_is;
        places = ap (λ (ps : List (Place P)). set ps u.number (places.Joined (share_of u)))
            ours.places;
        control = ours.control;
        part = ours.part;
        over_fit = ours.over_fit;
        over_so = ours.over_so;
        alone = ours.alone;
        trail = ours.trail;
      } in
      record {
        ledger = new;
        stands = record {
          sound = stands.sound;
          cells = stands.cells;
          mutators = stands.mutators;
          legal = stands.legal;
          core_is = stands.core_is;
          facts = stands.facts;
          passes_fit = stands.passes_fit;
          kept = stands.kept;
        };
        words_are = k.words_are;
        each_place = λ j p place.
            elim (at_set l.places u.number j (places.Joined (share_of u)) p place) [
              | inl here ↦
                  subst (λ (q : Place P). PlaceFits opens h new j q) here.1
                  (subst (λ (n : ℕ). PlaceFits opens h new n (places.Joined (share_of u)))
                  (sym here.0)
                  (joined_share l u u.number (share_of u) mine.share, over))
              | inr other ↦ joined_place l u j p (k.each_place j p other.1)
            ];
        each_seat = λ j w view.
            elim (at_set (set s.views id (joined_view v u)) seat j (spent_view opens) w view) [
              | inl here ↦ subst (λ (x : View P). SeatFits h new j x x.role) here.1 tt
              | inr other ↦ elim (at_set s.views id j (joined_view v u) w other.1) [
                | inl own ↦
                    subst (λ (n : ℕ). SeatFits h new n w w.role) (sym own.0)
                    (subst (λ (x : View P). SeatFits h new id x x.role) own.1 both)
                | inr else_one ↦ joined_seat l u j seat w w.role mine.owner other.0
                    (λ same. else_one.0 (same ∙ ours.seat_is)) (k.each_seat j w else_one.1)
              ]
            ];
      }
