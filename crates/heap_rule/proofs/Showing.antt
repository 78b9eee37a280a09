-- What the rule says of any moment, in words of the table alone.
use Rattle.std.proofs.Common.{◌⊎◌, ◌≡◌, ◌<◌, ◌++◌, ℕ, Bool, true, List, [], ◌∷◌, length}
use Rattle.std.proofs.Common.{Some, refl, sym, ◌∙◌, ap, subst, slice_index}
use mathlib.Core.Option.{some}
use lib.ListN.{get_elem?}
use Rattle.atomic_table.specs.Table as table
use Rattle.cell_words.specs.Colour.{pack_colour_of}
use Rattle.cell_words.specs.declared.colours.Colour.{Colour}
use Rattle.cell_words.specs.declared.colours.Colour.TheVariants as colour
use Rattle.core_machine.specs.Own.{Own, no_own}
use Rattle.core_machine.specs.InRange.{IsShaped}
use Rattle.core_machine.specs.Next.{after, found_by}
use Rattle.core_machine.specs.Places.{holds}
use Rattle.core_machine.specs.Run.{Runs, last}
use Rattle.core_machine.specs.State.{State, colour_of, own_of}
use Rattle.core_machine.specs.Table.{ColourOf, index_of, words_of}
use Rattle.core_machine.specs.Trail.{own_along, trail_of}
use Rattle.core_machine.specs.declared.events.Found.TheVariants as finds
use Rattle.core_machine.specs.declared.events.Taken.{Taken}
use Rattle.core_machine.proofs.Runs.{last_append, runs_shaped}
use Rattle.core_machine.proofs.Table.{word_read}
use Rattle.core_machine.proofs.Trails.{own_told}
use Rattle.dlg_core.specs.Collects.{IsFreedSince}
use Rattle.dlg_core.specs.Consistent.{IsConsistent}
use Rattle.dlg_core.specs.Reachable.{held}
use Rattle.dlg_core.specs.Runs.{events_of}
use Rattle.dlg_core.specs.Sums.{IsBalanced, IsClaimed}
use Rattle.dlg_core.proofs.Along.{runs_balanced, runs_collect, runs_consistent, runs_lead}
use Rattle.dlg_core.proofs.Along.{taken_again}
use Rattle.dlg_core.proofs.Claimed.{every_used_claimed}
use Rattle.dlg_core.proofs.Safety.{consistent_safe}
use Rattle.dlg_core.proofs.Starts.{opening_consistent, same_everywhere}
use Rattle.dlg_core.proofs.Sums.{opening_balanced}
use Rattle.heap_rule.specs.declared.view.Role.{Role}
use Rattle.heap_rule.specs.declared.view.Role.TheVariants as role
use Rattle.heap_rule.specs.declared.view.View.{View}
use Rattle.heap_rule.specs.Boxes.{Map}
use Rattle.heap_rule.specs.Laws.{CollectorShows, Ended, FoundUsedWasClaimed, GarbageWasFreed}
use Rattle.heap_rule.specs.Laws.{IsLastOf, NoReachableIsFree, SeatShows, ShareShows, ShowsRun}
use Rattle.heap_rule.specs.Laws.{UnsplitShows, UsedWasClaimed}
use Rattle.heap_rule.specs.Rule.{CollectorFits, Kept, Ledger, MutatorFits, PlaceFits, SeatFits}
use Rattle.heap_rule.specs.Rule.{ShareFits, Stands, unsplit}
use Rattle.heap_rule.specs.declared.view.Place.{Place}
use Rattle.heap_rule.specs.declared.view.Place.TheVariants as places
use Rattle.heap_rule.specs.declared.view.Share.{Share}
use Rattle.heap_rule.specs.Shape.{Shape, start}
use Rattle.heap_rule.proofs.Alone.{presence_over}
use Rattle.heap_rule.proofs.Stepping.{core_consistent, core_shaped, core_words, opening_shaped}

blue_word : (x : Colour) → pack_colour_of x ≡ pack_colour_of colour.Blue → x ≡ colour.Blue
blue_word colour.Blue h = refl
blue_word colour.White h = absurd cc
blue_word colour.Gray h = absurd cc
blue_word colour.Black h = absurd cc

-- a run of two parts is a run, and one from where that leads
runs_parted : (s : State) (ts us : List Taken) → Runs s (ts ++ us)
    → Runs s ts × Runs (last s ts) us
runs_parted s [] us runs = (tt, runs)
runs_parted s (t ∷ ts) us runs =
    let rest = runs_parted (after s t.event) ts us runs.2 in
    ((runs.0, runs.1, rest.0), rest.1)

module _ {P : Type 0} (opens : ℕ → ℕ → P) (holding : Map → List P → Type 0) (fixed : ℕ
    → Bool) (h : Shape) where
  -- a mutator's own part is what its events leave
  own_along_run : (l : Ledger P) (i : ℕ) → Stands holding fixed h l
      → own_of l.core i ≡ own_along no_own (trail_of (Some i) l.run)
  own_along_run l i stands =
      let rooms = l.core.rooms in
      let begins : own_of (start h rooms) i ≡ no_own = same_everywhere _ i no_own in
      ap (λ (s : State). own_of s i) (sym stands.core_is)
      ∙ own_told (start h rooms) i no_own l.run
      (opening_shaped holding fixed h l stands) stands.legal begins

  pub seat_shows : (l : Ledger P) (seat : ℕ) (v : View P) → Stands holding fixed h l
      → MutatorFits h l seat v
      → SeatShows l.core l.lore l.passes l.run v
  seat_shows l seat v stands fits =
      let told = own_along_run l v.number stands in
      record {
        room = fits.share.room;
        own = fits.share.own;
        presence = fits.share.presence;
        known = fits.share.known;
        pass = fits.share.pass;
        trail = fits.share.trail;
        told = sym fits.share.own ∙ told
            ∙ ap (λ (ts : List Taken). own_along no_own ts) fits.share.trail;
        reached = λ inside c there. held v.number (sym fits.share.presence.inside ∙ inside)
            (subst (λ (o : Own). holds o.held c ≡ true) (sym fits.share.own) there);
      }

  share_shows : (l : Ledger P) (i : ℕ) (share : Share P) → Stands holding fixed h l
      → ShareFits l i share → share.presence.over ≡ true
      → ShareShows l.core l.passes l.run i share
  share_shows l i share stands fits over = record {
    room = fits.room;
    own = fits.own;
    over = presence_over l.core (core_words holding fixed h l stands) i
        (sym fits.presence.over ∙ over);
    pass = fits.pass;
    trail = fits.trail;
    told = sym fits.own ∙ own_along_run l i stands
        ∙ ap (λ (ts : List Taken). own_along no_own ts) fits.trail;
  }

  pub last_of : (l : Ledger P) (words : List ℕ) → Stands holding fixed h l → words ≡ words_of l.core
      → IsLastOf h words l.run l.core
  last_of l words stands words_are = record {
    shown = words_are;
    legal = stands.legal;
    ends = stands.core_is;
    cells = stands.cells;
    mutators = stands.mutators;
  }

  module _ (l : Ledger P) (stands : Stands holding fixed h l) where
    abbrev from : State
    from = start h l.core.rooms

    from_shaped : IsShaped from
    from_shaped = opening_shaped holding fixed h l stands

    from_consistent : IsConsistent from
    from_consistent =
        opening_consistent h.cells l.core.rooms h.first stands.sound.fit stands.sound.first

    pub sums_agree : IsBalanced (length h.first) l.core
    sums_agree =
        subst (IsBalanced (length h.first)) stands.core_is
        (runs_balanced (length h.first) from l.run from_shaped
        from_consistent stands.legal (opening_balanced h.cells l.core.rooms h.first))

    -- after any run from the opening, what is used was claimed in it
    claimed_behind : (run : List Taken) → Runs from run → UsedWasClaimed h run (last from run)
    claimed_behind run runs c used =
        subst (λ (ts : List Taken). (c < length h.first) ⊎ IsClaimed ts c)
        (taken_again from run runs)
        (every_used_claimed h.cells l.core.rooms h.first (events_of run) stands.sound.rows
        stands.sound.first stands.sound.fit (last from run) c (runs_lead from run runs) used)

    pub used_claimed : UsedWasClaimed h l.run l.core
    used_claimed = subst (UsedWasClaimed h l.run) stands.core_is
        (claimed_behind l.run stands.legal)

    pub found_claimed : FoundUsedWasClaimed h l.run
    found_claimed before after_it t i c found is claims finds_it used =
        let parts = runs_parted from before (t ∷ after_it) (subst (Runs from) is stands.legal) in
        let here : finds.Colour (colour_of (last from before) c) ≡ finds.Colour found =
        sym (ap (found_by (last from before)) claims) ∙ sym parts.1.1 ∙ finds_it in
        let same : colour_of (last from before) c ≡ found = cc in
        claimed_behind before parts.0 c (λ blue. used (sym same ∙ blue))

    pub freed_behind : GarbageWasFreed h l.run l.core.rooms
    freed_behind before cycles after_it first between next c is are two garbage =
        let parts = runs_parted from before (cycles ++ after_it)
        (subst (Runs from) is stands.legal) in
        let inner = runs_parted (last from before) cycles after_it parts.1 in
        subst (λ (t : State). IsFreedSince (last from before) t c)
        (sym (last_append from before cycles))
        (runs_collect (last from before) cycles first between next c
        (runs_shaped from before from_shaped parts.0)
        (runs_consistent from before from_shaped from_consistent
        parts.0) inner.0 are two garbage)

    pub none_free : (words : List ℕ) → words ≡ words_of l.core → NoReachableIsFree words l.core
    none_free words words_are c lt r blue =
        let shaped = core_shaped holding fixed h l stands in
        let safe = consistent_safe l.core (core_consistent holding fixed h l stands) in
        safe.reached c r
        (blue_word (colour_of l.core c)
        (sym (word_read l.core shaped (ColourOf c) lt)
        ∙ sym (ap (λ (ws : List ℕ). slice_index ws (index_of l.core.mutators (ColourOf c)))
        words_are) ∙ blue))

  unsplit_shows : (l : Ledger P) (i : ℕ) → ShareFits l i (unsplit opens h i)
      → UnsplitShows opens h l.core l.passes l.run i
  unsplit_shows l i fits = record { own = fits.own; pass = fits.pass; trail = fits.trail }

  pub collector_shows : {S : Type 0} (s : table.State S (View P))
      (k : Kept opens holding fixed h s) (seat : ℕ) (v : View P) → CollectorFits h k.ledger seat v
      → CollectorShows opens h k.ledger.core k.ledger.passes k.ledger.run v
  collector_shows s k seat v fits =
      let l = k.ledger in
      let place : (i : ℕ) (p : Place P) → get_elem? v.places i ≡ some p
      → PlaceFits opens h l i p
      = (λ i p at. k.each_place i p
      (ap (λ (ps : List (Place P)). get_elem? ps i) fits.places ∙ at)) in
      record {
        control = fits.control;
        part = fits.part;
        trail = fits.trail;
        over = fits.over_so;
        alone = fits.alone;
        joined = λ i share at. let fit = place i (places.Joined share) at in
            share_shows l i share k.stands fit.0 fit.1;
        unsplit = λ i at. unsplit_shows l i (place i places.Unsplit at);
      }

  -- any seat of the table, by whose it is
  pub seat_of : {S : Type 0} (s : table.State S (View P)) (k : Kept opens holding fixed h s) (j : ℕ)
      (v : View P) (of : Role) → get_elem? s.views j ≡ some v → v.role ≡ of
      → SeatFits h k.ledger j v of
  seat_of s k j v of there is =
      subst (λ (r : Role). SeatFits h k.ledger j v r) is (k.each_seat j v there)

  pub shows_run : {S : Type 0} (s : table.State S (View P)) → Kept opens holding fixed h s
      → ShowsRun opens holding fixed h s
  shows_run s k =
      let l = k.ledger in
      let consistent = core_consistent holding fixed h l k.stands in
      record {
        core = l.core;
        lore = l.lore;
        passes = l.passes;
        run = l.run;
        last_of = last_of l s.words k.stands k.words_are;
        few = k.stands.sound.few;
        shaped = core_shaped holding fixed h l k.stands;
        has_words = core_words holding fixed h l k.stands;
        consistent = consistent;
        safe = consistent_safe l.core consistent;
        facts = k.stands.facts;
        kept = k.stands.kept;
        not_free = none_free l k.stands s.words k.words_are;
        balanced = sums_agree l k.stands;
        claimed = used_claimed l k.stands;
        found_claimed = found_claimed l k.stands;
        collected = freed_behind l k.stands;
        collector_seats = λ j v there is.
            collector_shows s k j v (seat_of s k j v role.Collector there is);
        seats = λ j v there is. seat_shows l j v k.stands (seat_of s k j v role.Mutator there is);
      }

  pub shows_end : {S : Type 0} (s : table.State S (View P)) (id : ℕ) (v : View P)
      → Kept opens holding fixed h s
      → get_elem? s.views id ≡ some v → v.role ≡ role.Collector → (words : List ℕ) → s.words ≡ words
      → Ended opens holding fixed h S words v
  unfolding shows_run
  shows_end s id v k there is words words_are = record {
    at = s;
    words_are = words_are;
    shows = shows_run s k;
    collector = collector_shows s k id v (seat_of s k id v role.Collector there is);
    passes_fit = k.stands.passes_fit;
  }
