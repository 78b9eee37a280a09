-- One step of a seat keeps the rule: one lemma for every event of a mutator (`mutator_step`), and
-- one for every event of the collector (`collector_step`). The operations of heap_table cite them.
--
-- Moving has the opening, splitting and joining; Owing, that what a seat knows gives what each kind
-- of event owes; Picking and Filling, the client's own condition.
use Rattle.std.proofs.Common.{◌≡◌, ◌≢◌, ◌<◌, ◌≤◌, ◌++◌, ℕ, Bool, true, List, [], ◌∷◌, length}
use Rattle.std.proofs.Common.{Option, Some, None}
use Rattle.std.proofs.Common.{inl, inr, refl, sym, ◌∙◌, ap, subst, arith, slice_index, slice_set}
use Rattle.std.proofs.Common.{length-set, false, slice_index_or}
use Rattle.std.proofs.Math.ListN.{set}
use Rattle.std.proofs.lemmas.List.{get_or-set_same, get_or-set_other}
use mathlib.Core.Option.{some}
use lib.ListN.{get_elem?}
use Rattle.atomic_table.specs.Table as table
use Rattle.atomic_table.proofs.Lists.{at_set, set_here}
use Rattle.atomic_table.proofs.Lists as lists
use Rattle.core_machine.specs.declared.events.Event.{Event}
use Rattle.core_machine.specs.declared.events.Found.{Found}
use Rattle.core_machine.specs.declared.events.Taken.{Taken}
use Rattle.core_machine.specs.Collector.{Collector, collector_after, control_after}
use Rattle.core_machine.specs.Frames.{Knows}
use Rattle.core_machine.specs.InRange.{IsShaped, HasWords}
use Rattle.core_machine.specs.Next.{after, can, found_by, maker}
use Rattle.core_machine.specs.Own.{Own, own_after, presence_after}
use Rattle.cell_words.specs.declared.controls.Control.{Control}
use Rattle.cell_words.specs.declared.presences.Presence.{Presence}
use Rattle.core_machine.specs.declared.events.Event.TheVariants as event
use Rattle.core_machine.specs.Run.{Runs, last}
use Rattle.core_machine.specs.State.{State, greatest_cells, own_in, own_of, presence_of, room_in}
use Rattle.core_machine.specs.Table.{words_of}
use Rattle.core_machine.specs.WordOperations.{IsPackedAs, left_by, operation_of}
use Rattle.core_machine.proofs.Frames.{as_large, collector_framed, knows_after, knows_else}
use Rattle.core_machine.proofs.Frames.{mutator_framed, own_else, own_mine, presence_mine}
use Rattle.core_machine.proofs.OneOperation.{one_operation}
use Rattle.core_machine.proofs.Ranges.Events.{after_shaped}
use Rattle.core_machine.proofs.Runs.{last_snoc, runs_shaped, runs_snoc}
use Rattle.core_machine.proofs.Trails.{trail_else, trail_mine}
use Rattle.dlg_core.specs.Collects.{IsOver}
use Rattle.dlg_core.specs.Consistent.{IsConsistent}
use Rattle.dlg_core.proofs.Along.{every_run_has_words, runs_consistent}
use Rattle.dlg_core.proofs.Starts.{opening_consistent}
use Rattle.dlg_core.proofs.Throughout.{rows_shaped}
use Rattle.heap_rule.specs.declared.known.Known.{Known}
use Rattle.heap_rule.specs.declared.known.Learned.{Learned}
use Rattle.heap_rule.specs.declared.view.Place.{Place}
use Rattle.heap_rule.specs.declared.view.Place.TheVariants as places
use Rattle.heap_rule.specs.declared.view.Role.{Role}
use Rattle.heap_rule.specs.declared.view.Role.TheVariants as role
use Rattle.heap_rule.specs.declared.view.Share.{Share}
use Rattle.heap_rule.specs.declared.view.View.{View}
use Rattle.heap_rule.specs.Boxes.{Map, Smaller, boxes_by, boxes_of}
use Rattle.heap_rule.specs.Facts.{Proper}
use Rattle.heap_rule.specs.Lore.{Lore, known_by, known_in, learned, lore_after}
use Rattle.heap_rule.specs.Lore as lore
use Rattle.heap_rule.specs.Rule.{Ledger, Stands, ShareFits, PlaceFits, MutatorFits, CollectorFits}
use Rattle.heap_rule.specs.Rule.{SeatFits, Kept}
use Rattle.heap_rule.specs.Rule.{behind, share_of, told, told_collector, took, unsplit}
use Rattle.heap_rule.specs.Shape.{Shape, start}
use Rattle.heap_rule.specs.Steps.{AtStep, AtCollectorStep, CollectorOwes, Mine, Ours, Owed, Owes}
use Rattle.heap_rule.specs.Steps.{Shown, StandsBy}
use Rattle.heap_rule.proofs.Alone.{all_over, alone_after_so, alone_else, over_else, over_found_long}
use Rattle.heap_rule.proofs.Alone.{over_found_so}
use Rattle.heap_rule.proofs.FactsAfter.{facts_after}
use Rattle.heap_rule.proofs.SmallerAfter.{smaller_after}

-- What is so of any state that the rule shows.
module _ {P : Type 0} (holds : Map → List P → Type 0) (fixed : ℕ → Bool) (h : Shape) (l : Ledger P)
    (stands : Stands holds fixed h l) where
  pub opening_shaped : IsShaped (start h l.core.rooms)
  opening_shaped = rows_shaped h.cells l.core.rooms h.first stands.sound.rows stands.sound.first
      stands.sound.fit

  pub core_shaped : IsShaped l.core
  core_shaped = subst IsShaped stands.core_is
      (runs_shaped (start h l.core.rooms) l.run opening_shaped stands.legal)

  pub core_consistent : IsConsistent l.core
  core_consistent =
      subst IsConsistent stands.core_is
      (runs_consistent (start h l.core.rooms) l.run opening_shaped
      (opening_consistent h.cells l.core.rooms h.first stands.sound.fit stands.sound.first)
      stands.legal)

  pub core_words : HasWords l.core
  core_words =
      subst HasWords stands.core_is
      (every_run_has_words h.cells l.core.rooms h.first l.run stands.sound.first stands.legal)

  pub core_shown : Shown fixed l.core l.lore
  core_shown = record {
    shaped = core_shaped;
    consistent = core_consistent;
    words = core_words;
    facts = stands.facts;
  }

  -- and after an event
  pub stands_behind : (e : Event) (passes : List P) → can l.core e ≡ true
      → Proper fixed l.core l.lore e
      → length passes ≡ h.mutators
      → holds (boxes_of (after l.core e) (lore_after l.core l.lore e)) passes
      → Stands holds fixed h (behind l e passes)
  stands_behind e passes happens proper fit kept =
      let large = as_large l.core e in
      let t = took e (found_by l.core e) in
      let now : can (last (start h l.core.rooms) l.run) e
      ≡ true = subst (λ (s : State). can s e ≡ true) (sym stands.core_is) happens in
      let found : found_by l.core e ≡ found_by (last (start h l.core.rooms) l.run) e =
      ap (λ (s : State). found_by s e) (sym stands.core_is) in
      record {
        sound = stands.sound;
        cells = large.cells ∙ stands.cells;
        mutators = large.mutators ∙ stands.mutators;
        legal = subst (λ (rs : List ℕ). Runs (start h rs) (l.run ++ t ∷ [])) (sym large.rooms)
            (runs_snoc (start h l.core.rooms) l.run t stands.legal now found);
        core_is = subst (λ (rs : List ℕ). last (start h rs) (l.run ++ t ∷ [])
            ≡ after l.core e) (sym large.rooms)
            (last_snoc (start h l.core.rooms) l.run t
            ∙ ap (λ (s : State). after s e) stands.core_is);
        facts = facts_after fixed l.core l.lore core_shaped core_consistent stands.facts e happens
            proper;
        passes_fit = fit;
        kept = kept;
      }

-- A share of another mutator than the maker.

own_other : (s : State) (e : Event) (j : ℕ) → maker e ≢ Some j → own_of (after s e) j ≡ own_of s j
own_other s e j other = by_maker (maker e) refl
  where
    by_maker : (who : Option ℕ) → maker e ≡ who → own_of (after s e) j ≡ own_of s j
    by_maker None made = ap (λ (os : List Own). own_in os j) (collector_framed s e made).owns
    by_maker (Some i) made = own_else s e i j made (λ is. other (made ∙ ap Some (sym is)))

known_other : (s : State) (l : Lore) (e : Event) (j : ℕ) (who : Option ℕ) → who ≢ Some j
    → known_in (known_by s l e who) j ≡ known_in l.known j
known_other s l e j None other = refl
known_other s l e j (Some i) other = get_or-set_other l.known i j _ []
    (λ is. other (ap Some (sym is)))

module _ {P : Type 0} where
  share_else : (l : Ledger P) (e : Event) (passes : List P) (j : ℕ) (share : Share P)
      → maker e ≢ Some j
      → get_elem? passes j ≡ get_elem? l.passes j → ShareFits l j share
      → ShareFits (behind l e passes) j share
  share_else l e passes j share other pass fits = record {
    room = ap (λ (rs : List ℕ). room_in rs j) (as_large l.core e).rooms ∙ fits.room;
    own = own_other l.core e j other ∙ fits.own;
    presence = knows_else l.core e j share.presence other fits.presence;
    known = known_other l.core l.lore e j (maker e) other ∙ fits.known;
    pass = pass ∙ fits.pass;
    trail = trail_else (Some j) l.run (took e (found_by l.core e)) other ∙ fits.trail;
  }

  -- the maker's own
  share_mine : (l : Ledger P) (e : Event) (v : View P) (passes : List P) (pass : P)
      → IsShaped l.core → can l.core e ≡ true
      → v.number < length l.lore.known → maker e ≡ Some v.number
      → get_elem? passes v.number ≡ some pass
      → ShareFits l v.number (share_of v)
      → ShareFits (behind l e passes) v.number
      (share_of (told v e (found_by l.core e) (learned l.core l.lore e) pass))
  share_mine l e v passes pass shaped happens below made there fits =
      let i = v.number in
      let found = found_by l.core e in
      let tells = learned l.core l.lore e in
      record {
        room = ap (λ (rs : List ℕ). room_in rs i) (as_large l.core e).rooms ∙ fits.room;
        own = own_mine l.core e i shaped happens made
            ∙ ap (λ (o : Own). own_after o e found) fits.own;
        presence = subst (λ (now : Presence). Knows (presence_after v.presence e found) now)
            (sym (presence_mine l.core e i shaped happens made))
            (knows_after v.presence (presence_of l.core i) e found fits.presence);
        known =
            ap (λ (who : Option ℕ). known_in (known_by l.core l.lore e who) i) made
            ∙ get_or-set_same l.lore.known i
            (lore.knows_after (own_of l.core i) (known_in l.lore.known i) e found tells) []
            below
            ∙ ap (λ (o : Own). lore.knows_after o (known_in l.lore.known i) e found tells) fits.own
            ∙ ap (λ (ws : List Known). lore.knows_after v.own ws e found tells) fits.known;
        pass = there;
        trail = trail_mine (Some i) l.run (took e found) made
            ∙ ap (λ (ts : List Taken). ts ++ took e found ∷ []) fits.trail;
      }

-- an event of the collector leaves the boxes
collectors_boxes : (s : State) (l : Lore) (e : Event) → maker e ≡ None
    → boxes_by s l e ≡ boxes_of s l
collectors_boxes s l (event.Begin i) made = let no = made in absurd cc
collectors_boxes s l (event.Look i) made = let no = made in absurd cc
collectors_boxes s l (event.Read i place f) made = let no = made in absurd cc
collectors_boxes s l (event.Mark i place) made = let no = made in absurd cc
collectors_boxes s l (event.Write i place f old new) made = let no = made in absurd cc
collectors_boxes s l (event.Fetch i place f) made = let no = made in absurd cc
collectors_boxes s l (event.Store i new) made = let no = made in absurd cc
collectors_boxes s l (event.Claim i c) made = let no = made in absurd cc
collectors_boxes s l (event.Fill i place f value) made = let no = made in absurd cc
collectors_boxes s l (event.Seal i place of) made = let no = made in absurd cc
collectors_boxes s l (event.Answer i) made = let no = made in absurd cc
collectors_boxes s l (event.Keep i count from copies) made = let no = made in absurd cc
collectors_boxes s l (event.End i) made = let no = made in absurd cc
collectors_boxes s l (event.Over i) made = let no = made in absurd cc
collectors_boxes s l e made = refl

-- A step of a mutator's seat.
module _ {P : Type 0} (opens : ℕ → ℕ → P) (holds : Map → List P → Type 0) (fixed : ℕ
    → Bool) (h : Shape) where
  -- what the seat knows
  mine_of : (l : Ledger P) (seat : ℕ) (v : View P) → Stands holds fixed h l → MutatorFits h l seat v
      → Mine fixed v l.core l.lore
  mine_of l seat v stands fits = record {
    shown = core_shown holds fixed h l stands;
    cells = stands.cells ∙ ap (λ (x : Shape). x.cells) (sym fits.shape);
    mutators = stands.mutators ∙ ap (λ (x : Shape). x.mutators) (sym fits.shape);
    few = subst (λ (x : Shape). x.cells ≤ greatest_cells) (sym fits.shape) stands.sound.few;
    number = subst (λ (x : Shape). v.number < x.mutators) (sym fits.shape) fits.number;
    room = fits.share.room;
    own = fits.share.own;
    presence = fits.share.presence;
    known = fits.share.known;
  }

  -- another seat's part stays
  seat_else : (l : Ledger P) (e : Event) (seat : ℕ) (v : View P) (passes : List P)
      → MutatorFits h l seat v → maker e ≡ Some v.number → can l.core e ≡ true
      → ((j : ℕ) → j ≢ v.number → get_elem? passes j ≡ get_elem? l.passes j)
      → (j : ℕ) (u : View P) (r : Role) → j ≢ seat → SeatFits h l j u r
      → SeatFits h (behind l e passes) j u r
  seat_else l e seat v passes mine made happens still j u role.Mutator other fits =
      let apart : u.number ≢ v.number = (λ is. other (sym fits.owner ∙ ap l.owner is
      ∙ mine.owner)) in
      record {
        shape = fits.shape;
        number = fits.number;
        place = fits.place;
        owner = fits.owner;
        share = share_else l e passes u.number (share_of u)
            (λ is. apart (let same : Some v.number ≡ Some u.number = sym made
            ∙ is in cc)) (still u.number apart) fits.share;
      }
  seat_else l e seat v passes mine made happens still j u role.Collector other fits =
      let framed = mutator_framed l.core e v.number made in
      record {
        shape = fits.shape;
        seat_is = fits.seat_is;
        places = fits.places;
        control = framed.control ∙ fits.control;
        part = framed.collector ∙ fits.part;
        over_fit = fits.over_fit;
        over_so = over_else l.core e u.over happens fits.over_so;
        alone = alone_else u.alone l.core e v.number made happens fits.alone;
        trail = trail_else None l.run (took e (found_by l.core e)) (λ is. let no = sym made
            ∙ is in cc) ∙ fits.trail;
      }
  seat_else l e seat v passes mine made happens still j u role.Spent other fits = tt

  place_else : (l : Ledger P) (e : Event) (seat : ℕ) (v : View P) (passes : List P)
      → MutatorFits h l seat v → maker e ≡ Some v.number
      → ((j : ℕ) → j ≢ v.number → get_elem? passes j ≡ get_elem? l.passes j)
      → (j : ℕ) (p : Place P) → get_elem? l.places j ≡ some p → PlaceFits opens h l j p
      → PlaceFits opens h (behind l e passes) j p
  place_else l e seat v passes mine made still j places.Unsplit there fits =
      let apart : j ≢ v.number = (λ is. let no : some places.Unsplit ≡ some places.Away = sym there
      ∙ ap (get_elem? l.places) is ∙ mine.place in cc) in
      share_else l e passes j (unsplit opens h j) (λ is. apart (let same : Some v.number
      ≡ Some j = sym made ∙ is in cc)) (still j apart) fits
  place_else l e seat v passes mine made still j places.Away there fits = tt
  place_else l e seat v passes mine made still j (places.Joined share) there fits =
      let apart : j ≢ v.number = (λ is. let no : some (places.Joined share)
      ≡ some places.Away = sym there ∙ ap (get_elem? l.places) is ∙ mine.place in cc) in (
        share_else l e passes j share (λ is. apart (let same : Some v.number ≡ Some j = sym made
            ∙ is in cc)) (still j apart) fits.0,
        fits.1,
      )

  -- the words after the event
  words_behind : (l : Ledger P) (e : Event) (words : List ℕ) (word : ℕ) (f g : ℕ → ℕ)
      → IsShaped l.core
      → Owed fixed l.core l.lore e word f g → words ≡ words_of l.core
      → slice_set words word (f (slice_index words word)) ≡ words_of (after l.core e)
  words_behind l e words word f g shaped owed is =
      let once = one_operation l.core e shaped owed.happens in
      let ws = words_of l.core in
      ap (λ (ns : List ℕ). slice_set ns word (f (slice_index ns word))) is
      ∙ ap (λ (n : ℕ). slice_set ws word n) (owed.left (slice_index ws word))
      ∙ ap (λ (i : ℕ). slice_set ws i (left_by (operation_of l.core e) (slice_index ws i)))
      (sym owed.index)
      ∙ sym once.left

  says_found : (l : Ledger P) (e : Event) (words : List ℕ) (word : ℕ) (f g : ℕ → ℕ)
      → IsShaped l.core
      → Owed fixed l.core l.lore e word f g → words ≡ words_of l.core
      → IsPackedAs (found_by l.core e) (g (slice_index words word))
  says_found l e words word f g shaped owed is =
      let once = one_operation l.core e shaped owed.happens in
      owed.tells (slice_index words word)
      (subst (λ (ns : List ℕ). IsPackedAs (found_by l.core e) (slice_index ns word)) (sym is)
      (subst (λ (i : ℕ). IsPackedAs (found_by l.core e) (slice_index (words_of l.core) i))
      owed.index once.found))

  pub mutator_step : {S : Type 0} (slots id : ℕ) (me : table.Me S (View P)) (e : Event) (word : ℕ)
      (f g : ℕ → ℕ)
      (next : Learned → Found → P → P) → me.0.role ≡ role.Mutator → maker e ≡ Some me.0.number
      → Owes fixed me.0 e word f g
      → StandsBy holds fixed next me.0 e
      → table.Allows (Kept opens holds fixed h) slots id me word f
      (λ n m. AtStep holds fixed me.0 e next (g n) m.0 × (m.1 ≡ me.1))
  mutator_step slots id me e word f g next is made owes rule s k fit there bound =
      let v = me.0 in
      let l = k.ledger in
      let mine : MutatorFits h l id v = subst (λ (r : Role). SeatFits h l id v r) is
      (k.each_seat id v there) in
      let knows = mine_of l id v k.stands mine in
      let owed = owes l.core l.lore knows in
      let shaped = core_shaped holds fixed h l k.stands in
      let found = found_by l.core e in
      let tells = learned l.core l.lore e in
      let pass = next tells found v.pass in
      let passes = slice_set l.passes v.number pass in
      let w = told v e found tells pass in
      let below : v.number < length
      l.passes = let lt = mine.number in let n = k.stands.passes_fit in omega (arith, lt, n) in
      let still : (j : ℕ) → j ≢ v.number → get_elem? passes j ≡ get_elem? l.passes j
      = (λ j other. lists.set_else l.passes v.number j pass other) in
      let kept = rule l.core l.lore l.passes knows owed.happens owed.proper mine.share.pass
      k.stands.kept in
      let new : MutatorFits h (behind l e passes) id w = record {
        shape = mine.shape;
        number = mine.number;
        place = mine.place;
        owner = mine.owner;
        share = share_mine l e v passes pass shaped owed.happens
            (let lt = knows.number in let fit = k.stands.facts.known_fit in
            let n = knows.mutators in omega (arith, lt, fit, n))
            made (set_here l.passes v.number pass below) mine.share;
      } in (
        w,
        table.keeps,
        tt,
        record {
          ledger = behind l e passes;
          stands = stands_behind holds fixed h l k.stands e passes owed.happens owed.proper
              (length-set l.passes v.number pass ∙ k.stands.passes_fit) kept;
          words_are = words_behind l e s.words word f g shaped owed k.words_are;
          each_place = λ j p at. place_else l e id v passes mine made still j p at
              (k.each_place j p at);
          each_seat = λ j u at. elim (at_set s.views id j w u at) [
            | inl here ↦
                let fits : SeatFits h (behind l e passes) id w w.role = subst
                (λ (r : Role). SeatFits h (behind l e passes) id w r) (sym is) new in
                subst (λ (n : ℕ). SeatFits h (behind l e passes) n u u.role) (sym here.0)
                (subst (λ (x : View P). SeatFits h (behind l e passes) id x x.role) here.1 fits)
            | inr other ↦ seat_else l e id v passes mine made owed.happens still j u u.role other.0
                (k.each_seat j u other.1)
          ];
        },
        (
          record {
            core = l.core;
            lore = l.lore;
            passes = l.passes;
            mine = knows;
            happens = owed.happens;
            kept = k.stands.kept;
            pass = mine.share.pass;
            says = says_found l e s.words word f g shaped owed k.words_are;
            new = refl;
          },
          refl,
        ),
      )

  -- A step of the collector's seat. No pass changes, and the client's rule stands by its own law.
  ours_of : (l : Ledger P) (seat : ℕ) (v : View P) → Stands holds fixed h l
      → CollectorFits h l seat v → Ours fixed v l.core l.lore
  ours_of l seat v stands fits = record {
    shown = core_shown holds fixed h l stands;
    cells = stands.cells ∙ ap (λ (x : Shape). x.cells) (sym fits.shape);
    mutators = stands.mutators ∙ ap (λ (x : Shape). x.mutators) (sym fits.shape);
    few = subst (λ (x : Shape). x.cells ≤ greatest_cells) (sym fits.shape) stands.sound.few;
    control = fits.control;
    part = fits.part;
    over = fits.over_so;
    alone = fits.alone;
  }

  seat_beside : (l : Ledger P) (e : Event) (seat : ℕ) (v : View P) → CollectorFits h l seat v
      → maker e ≡ None
      → (j : ℕ) (u : View P) (r : Role) → j ≢ seat → SeatFits h l j u r
      → SeatFits h (behind l e l.passes) j u r
  seat_beside l e seat v ours made j u role.Mutator other fits = record {
    shape = fits.shape;
    number = fits.number;
    place = fits.place;
    owner = fits.owner;
    share = share_else l e l.passes u.number (share_of u) (λ is. let no = sym made
        ∙ is in cc) refl fits.share;
  }
  seat_beside l e seat v ours made j u role.Collector other fits = absurd (other (sym fits.seat_is
      ∙ ours.seat_is))
  seat_beside l e seat v ours made j u role.Spent other fits = tt

  place_beside : (l : Ledger P) (e : Event) → maker e ≡ None → (j : ℕ) (p : Place P)
      → PlaceFits opens h l j p
      → PlaceFits opens h (behind l e l.passes) j p
  place_beside l e made j places.Unsplit fits = share_else l e l.passes j (unsplit opens h j)
      (λ is. let no = sym made ∙ is in cc) refl fits
  place_beside l e made j places.Away fits = tt
  place_beside l e made j (places.Joined share) fits =
      (share_else l e l.passes j share (λ is. let no = sym made ∙ is in cc) refl fits.0, fits.1)

  pub collector_step : ((old new : Map) (passes : List P) → Smaller old new → holds old passes
      → holds new passes)
      → {S : Type 0} (slots id : ℕ) (me : table.Me S (View P)) (e : Event) (word : ℕ) (f g : ℕ → ℕ)
      → me.0.role ≡ role.Collector → maker e ≡ None → CollectorOwes fixed me.0 e word f g
      → table.Allows (Kept opens holds fixed h) slots id me word f
      (λ n m. AtCollectorStep fixed me.0 e (g n) m.0 × (m.1 ≡ me.1))
  collector_step shrinks slots id me e word f g is made owes s k fit there bound =
      let v = me.0 in
      let l = k.ledger in
      let ours : CollectorFits h l id v = subst (λ (r : Role). SeatFits h l id v r) is
      (k.each_seat id v there) in
      let knows = ours_of l id v k.stands ours in
      let owed = owes l.core l.lore knows in
      let shaped = core_shaped holds fixed h l k.stands in
      let found = found_by l.core e in
      let now = after l.core e in
      let w = told_collector v e found now in
      let over_so : (i : ℕ) → slice_index_or w.over i false ≡ true → IsOver now i =
      over_found_so l.core e v.over knows.shown.words made ours.over_so in
      let over_fit : length w.over ≡ h.mutators = over_found_long v.over e found ∙ ours.over_fit in
      let framed = collector_framed l.core e made in
      let kept : holds (boxes_of (after l.core e) (lore_after l.core l.lore e)) l.passes =
      shrinks (boxes_of l.core l.lore)
      (boxes_of (after l.core e) (lore_after l.core l.lore e)) l.passes
      (subst (λ (m : Map). Smaller m (boxes_of (after l.core e) (lore_after l.core l.lore e)))
      (collectors_boxes l.core l.lore e made)
      (smaller_after fixed l.core l.lore shaped
      (core_consistent holds fixed h l k.stands) k.stands.facts e owed.happens owed.proper))
      k.stands.kept in
      let new : CollectorFits h (behind l e l.passes) id w = record {
        shape = ours.shape;
        seat_is = ours.seat_is;
        places = ours.places;
        control = framed.control ∙ ap (λ (c : Control). control_after c e) ours.control;
        part =
            framed.collector
            ∙ ap (λ (n : ℕ). collector_after n l.core.control l.core.collector e found) knows.cells
            ∙ ap (λ (c : Control). collector_after v.shape.cells c l.core.collector e found)
            ours.control
            ∙ ap (λ (c : Collector). collector_after v.shape.cells v.control c e found) ours.part;
        over_fit = over_fit;
        over_so = over_so;
        alone =
            let large = as_large l.core e in
            alone_after_so v.alone w.over l.core e made
            (all_over now w.over (over_fit ∙ sym (large.mutators ∙ k.stands.mutators)) over_so
            (after_shaped l.core e shaped owed.happens).mutators_fit.presences_fit) ours.alone;
        trail = trail_mine None l.run (took e found) made
            ∙ ap (λ (ts : List Taken). ts ++ took e found ∷ []) ours.trail;
      } in (
        w,
        table.keeps,
        tt,
        record {
          ledger = behind l e l.passes;
          stands = stands_behind holds fixed h l k.stands e l.passes owed.happens owed.proper
              k.stands.passes_fit kept;
          words_are = words_behind l e s.words word f g shaped owed k.words_are;
          each_place = λ j p at. place_beside l e made j p (k.each_place j p at);
          each_seat = λ j u at. elim (at_set s.views id j w u at) [
            | inl here ↦
                let fits : SeatFits h (behind l e l.passes) id w w.role = subst
                (λ (r : Role). SeatFits h (behind l e l.passes) id w r) (sym is) new in
                subst (λ (n : ℕ). SeatFits h (behind l e l.passes) n u u.role) (sym here.0)
                (subst (λ (x : View P). SeatFits h (behind l e l.passes) id x x.role) here.1 fits)
            | inr other ↦ seat_beside l e id v ours made j u u.role other.0
                (k.each_seat j u other.1)
          ];
        },
        (
          record {
            core = l.core;
            lore = l.lore;
            ours = knows;
            happens = owed.happens;
            says = says_found l e s.words word f g shaped owed k.words_are;
            new = refl;
          },
          refl,
        ),
      )
