-- The cut of a link: what its store needs, or the read and the exchange in its place, and what it
-- leaves.
use Rattle.std.proofs.Common.{◌≡◌, ◌<◌, ◌≤◌, ◌+◌, ◌-◌, ◌⊎◌, ℕ, Bool, false, List, [], ◌∷◌, ◌++◌}
use Rattle.std.proofs.Common.{Result, Ok, Err, OnOk, IfErr, Some, inl, inr, get_or, length, max}
use Rattle.std.proofs.Common.{refl, sym, ◌∙◌, ap, subst, arith}
use Rattle.std.proofs.lemmas.List.{append-nil, get_or_push}
use Rattle.cell_words.specs.Modes.{barrier_of}
use Rattle.cell_words.specs.declared.controls.Control.{Control}
use Rattle.cell_words.specs.declared.fields.Field.{Field}
use Rattle.cell_words.specs.declared.fields.Field.TheVariants as field
use Rattle.cell_words.specs.Term.{IsFive, Term}
use Rattle.core_machine.specs.declared.events.Event.{Event}
use Rattle.core_machine.specs.declared.events.Found.{Found}
use Rattle.core_machine.specs.declared.events.Found.TheVariants as finds
use Rattle.core_machine.specs.declared.pending.Pending.{Pending}
use Rattle.core_machine.specs.Own.{pending_or_none}
use Rattle.core_machine.specs.Words.{lets_store, same_field}
use Rattle.doc_tree.specs.Tree.{DocTree}
use Rattle.heap_rule.specs.declared.known.Known.{Known}
use Rattle.heap_rule.specs.declared.view.View.{View}
use Rattle.heap_rule.specs.Asks.{IsBox, begun_of, known_of, target}
use Rattle.heap_rule.specs.Boxes.{Map}
use Rattle.heap_rule.specs.Rule.{took}
use Rattle.heap_rule.specs.Steps.{same_pass}
use Rattle.heap_rule.proofs.Reading.{cell_there}
use Rattle.mutator_events.specs.declared.values.Moved.{Moved}
use Rattle.mutator_events.specs.declared.values.Value.TheVariants as values
use Rattle.mutator_events.specs.Values.{value_found}
use Rattle.mutator_seat.specs.Bound.{Bound, held_cells}
use Rattle.mutator_seat.specs.Stores.{Exchanged, Looks, MayOverwrite, Overwritten, PicksExchange}
use Rattle.mutator_seat.specs.Stores.{PicksOverwrite, PicksStore, Stepped, exchange_of, fetch_of}
use Rattle.mutator_seat.specs.Stores.{read_of, store_of, told_by}
use Rattle.mutator_seat.specs.Stretches.{Kept, SamePlaces}
use Rattle.trails.specs.Claims.{look_of}
use Rattle.version_rule.specs.Knowing.{HasReadLink, KnowsVersion, MayCut, link_cut, link_taken}
use Rattle.version_rule.specs.Knowing.{number_told}
use Rattle.version_rule.specs.Pass.{Pass, cutting}
use Rattle.version_rule.specs.Versions.{HoldsVersions, is_fixed}
use Rattle.version_rule.proofs.Reading.{link_cut_picks, number_known}
use Rattle.version_rule.proofs.Writing.{cut_picks, exchange_picks}
use Rattle.version_rule.specs.declared.held.HeldVersion.{HeldVersion}
use Rattle.held_places.specs.Calls.{IsIn, Overwrote, cells_found}
use Rattle.version_store.specs.Held.{IsHeld}
use Rattle.version_store.specs.Walks.{LinkTaken}
use Rattle.version_store.specs.Writes.{Chosen, EndsLink, Writes, WritesLink, is_act, is_write}
use Rattle.held_places.proofs.Going.{many_cells, target_still}
use Rattle.held_places.proofs.Overwriting.{Loaded, exchanged, fetch_begun, fetched}
use Rattle.held_places.proofs.Overwriting.{overwrote, read_here}
use Rattle.version_store.proofs.Remaining.{version_still}
use Rattle.version_store.proofs.Leaving.{chosen_then, looks_once, looks_writes, nothing_then}
use Rattle.version_store.proofs.Leaving.{rewrites}
use Rattle.version_store.proofs.Links.{ends, follows, link_is_no_number}
use Rattle.version_store.proofs.Trimming.{picks_cut, version_kept}

-- What the read of the link says to the exchange after it, and that the pass knows no more of the
-- link than it will after that.
pub record LinkRead (old new : Bound Pass) (number : ℕ) (seen : Field) : Type 0 where
  pub link : HasReadLink new.seat.me number seen
  pub pass : cutting number new.seat.me.pass ≡ cutting number old.seat.me.pass

-- marks leave it
link_kept : (a at : Bound Pass) → Kept a at → (number : ℕ) (seen : Field)
    → HasReadLink a.seat.me number seen → HasReadLink at.seat.me number seen
link_kept a at kept number field.Null noted =
    subst (λ (p : Pass). number ≤ p.cut) (sym kept.pass) noted
link_kept a at kept number (field.Num n) none = absurd none
link_kept a at kept number (field.Cell c) before = record {
  place = before.place;
  root = before.root;
  held = version_kept a at kept before.place (number - 1) before.root before.held;
  cell_is = target_still a at [] (kept.held ∙ sym (append-nil (held_cells a))) before.place
      before.held.there ∙ before.cell_is;
  later = before.later;
}

cut_twice : (number : ℕ) (p q : Pass) → q ≡ cutting number p → cutting number q ≡ cutting number p
cut_twice number p q is =
    let seen : max (max p.seen number) number ≡ max p.seen number = omega arith in
    let cut : max (max p.cut number) number ≡ max p.cut number = omega arith in
    ap (cutting number) is ∙ (λ t. record p { seen = seen t; cut = cut t })

module _ (is_tree : Term → Type 0) (tree_of : Term → DocTree)
    (is_record : (t : Term) → is_tree t → IsFive t) (a b : Bound Pass) (v : HeldVersion)
    (is : IsHeld a v) (seen : Field)
    (step : Stepped (HoldsVersions is_tree tree_of) is_fixed (read_of a v.place 2) link_cut
    (finds.Field seen) a b) where
  abbrev many : ℕ
  many = length a.seat.me.own.held

  was_null : seen ≡ field.Null → LinkRead a b v.number field.Null
  was_null word =
      let end = ends is_tree tree_of is_record link_cut a b step.heap step.table v is seen
      step.event (sym (ap (value_found many) word)) in
      let pass : b.seat.me.pass ≡ cutting v.number a.seat.me.pass =
      end.pass ∙ ap (λ (n : ℕ). cutting n a.seat.me.pass) end.told in
      record {
        link =
            let cut : b.seat.me.pass.cut ≡ max a.seat.me.pass.cut v.number =
            ap (λ (p : Pass). p.cut) pass in
            omega (arith, cut);
        pass = cut_twice v.number a.seat.me.pass b.seat.me.pass pass;
      }

  was_cell : (c : ℕ) → seen ≡ field.Cell c → LinkRead a b v.number (field.Cell c)
  was_cell c word =
      let next = follows is_tree tree_of is_record link_cut a b step.heap step.table v is seen
      step.event many (picks_cut is_tree tree_of is_record) (sym (ap (value_found many) word)) in
      let read = read_here a b v.place 2 seen is.knows.there step in
      record {
        link = record {
          place = many;
          root = next.held.root;
          held = next.held.knows;
          cell_is =
              sym (cell_there b.seat.me.own.held many)
              ∙ ap (λ (cs : List ℕ). get_or cs many 0)
              (read.held ∙ ap (λ (x : Field). held_cells a ++ cells_found x) word)
              ∙ get_or_push (held_cells a) c 0 many (many_cells a);
          later = let e = next.number_is in omega (arith, e);
        };
        pass = ap (cutting v.number) next.pass;
      }

  no_number : (n : ℕ) → seen ≡ field.Num n → ⊥
  no_number n word = link_is_no_number is_tree tree_of is_record link_cut a b step.heap step.table v
      is seen step.event n (sym (ap (value_found many) word))

  pub link_was_read : LinkRead a b v.number seen
  link_was_read = by_found seen refl
    where
      by_found : (x : Field) → seen ≡ x → LinkRead a b v.number x
      by_found field.Null word = was_null word
      by_found (field.Num n) word = absurd (no_number n word)
      by_found (field.Cell c) word = was_cell c word

module _ (a : Bound Pass) (newest oldest : HeldVersion) (is : IsIn a) (first : IsHeld a newest)
    (last : IsHeld a oldest) (room : length a.seat.me.own.held < a.seat.me.room)
    (due : oldest.number + a.seat.me.pass.keep ≤ newest.number + 1) where
  abbrev number : ℕ
  number = number_told (known_of a.seat.me oldest.place)

  number_is : number ≡ oldest.number
  number_is = number_known (known_of a.seat.me oldest.place) oldest.number last.root
      last.knows.known

  pub may_take : MayOverwrite is_fixed a.seat.me oldest.place 2 values.Null
  may_take = record {
    inside = is.inside;
    there = last.knows.there;
    payload = omega arith;
    box = subst (λ (k : Known). IsBox (target a.seat.me oldest.place) k)
        (sym last.knows.known.is) tt;
    new_named = tt;
    sealed = tt;
    spares = λ fixed. absurd cc;
    room = room;
  }

  -- after the look, the load and the marks
  held_behind : (v : HeldVersion) (looked loaded at : Bound Pass) (seen : Field)
      → (held : IsHeld a v) → Kept a looked → Loaded is_fixed looked loaded seen → Kept loaded at
      → KnowsVersion at.seat.me v.place v.number held.root
  held_behind v looked loaded at seen held look load marks =
      let now = version_kept a looked look v.place v.number held.root held.knows in
      version_kept loaded at marks v.place v.number held.root
      (version_still (length looked.seat.me.own.held) (cells_found seen) looked loaded load.known
      load.held v.place v.number held.root now.there now)

  may_cut : (looked loaded at : Bound Pass) (seen : Field) → Kept a looked
      → Loaded is_fixed looked loaded seen → Kept loaded at
      → loaded.seat.me.pass.keep ≡ looked.seat.me.pass.keep
      → MayCut at.seat.me oldest.place newest.place number newest.number last.root first.root
  may_cut looked loaded at seen look load marks same = record {
    held = subst (λ (n : ℕ). KnowsVersion at.seat.me oldest.place n last.root) (sym number_is)
        (held_behind oldest looked loaded at seen last look load marks);
    made = held_behind newest looked loaded at seen first look load marks;
    due =
        let here = ap (λ (p : Pass). p.keep) look.pass in
        let there = ap (λ (p : Pass). p.keep) marks.pass in
        omega (arith, due, number_is, here, there, same);
  }

  module _ (is_tree : Term → Type 0) (tree_of : Term → DocTree)
      (is_record : (t : Term) → is_tree t → IsFive t) where
    abbrev Rule : Map → List Pass → Type 0
    Rule = HoldsVersions is_tree tree_of

    pick_store : (looked : Bound Pass) → Kept a looked
        → looked.seat.me.presence ≡ a.seat.me.presence
        → PicksStore Rule is_fixed (link_taken number) looked oldest.place 2 values.Null
    pick_store looked look same fetch at seen step marks presence =
        let there = version_kept a looked look oldest.place oldest.number last.root last.knows in
        let begun : begun_of at.seat.me ≡ record { place = oldest.place; f = 2; found = seen } =
        ap pending_or_none marks.pending
        ∙ fetch_begun looked fetch oldest.place 2 seen step in
        cut_picks is_tree tree_of is_record at.seat.me newest.place number newest.number last.root
        first.root
        (subst (λ (w : Pending). MayCut at.seat.me w.place newest.place number newest.number
        last.root first.root) (sym begun)
        (may_cut looked fetch at seen look
        (fetched looked fetch oldest.place 2 seen there.there step) marks
        (ap (λ (u : View Pass). u.pass.keep) step.event.new)))
        (ap (λ (w : Pending). w.f) begun)

    pick_exchange : (looked : Bound Pass) → Kept a looked
        → looked.seat.me.presence ≡ a.seat.me.presence
        → PicksExchange Rule is_fixed link_cut (link_taken number) looked oldest.place 2 values.Null
    pick_exchange looked look same read at seen step marks presence =
        let now = version_kept a looked look oldest.place oldest.number last.root last.knows in
        let link = link_was_read is_tree tree_of is_record looked read oldest
        record { root = last.root; knows = now } seen step in
        exchange_picks is_tree tree_of is_record at.seat.me oldest.place newest.place number
        newest.number last.root first.root seen
        (may_cut looked read at seen look
        (read_here looked read oldest.place 2 seen now.there step) marks
        (ap (λ (p : Pass). p.keep) link.pass))
        (link_kept read at marks number seen
        (subst (λ (n : ℕ). HasReadLink read.seat.me n seen) (sym number_is) link.link))

    pub pick_taken : PicksOverwrite Rule is_fixed link_cut (link_taken number) a oldest.place 2
        values.Null
    pick_taken = record {
      store = pick_store;
      read = λ looked look same. link_cut_picks is_tree tree_of is_record looked.seat.me
          oldest.place oldest.number last.root
          (version_kept a looked look oldest.place oldest.number last.root last.knows);
      exchange = pick_exchange;
    }

    -- What it left.

    taken_by : (b : Bound Pass) → SamePlaces a b → Overwrote is_fixed a b oldest.place values.Null
        → b.seat.me.pass ≡ cutting oldest.number a.seat.me.pass
        → LinkTaken a b oldest
    taken_by b same wrote pass = record {
      goes = wrote.goes;
      held = same.held ∙ sym (append-nil (held_cells a));
      known = λ place lt apart. wrote.known place lt apart (λ fresh c is. absurd cc);
      pass = pass;
      claims = same.claims;
    }

    -- One way or the other: what was loaded is `loaded`, and the write was made at `at`.
    writes_by : (b looked loaded at : Bound Pass) (control : Control) (e : Event) (found : Found)
        → Looks control a looked → loaded.seat.me.number ≡ looked.seat.me.number → Kept loaded at
        → Writes (took e found ∷ []) looked b → Chosen is_act (took e found ∷ []) looked b
        → (at.seat.me.number ≡ a.seat.me.number
        → EndsLink (lets_store a.seat.me.presence.status (Some control)) a.seat.me.number e)
        → WritesLink a b
    writes_by b looked loaded at control e found look number_loaded marks writes acts ends = record {
      control = control;
      taken = took e found;
      ends = ends (marks.number ∙ number_loaded ∙ look.kept.number);
      acts = chosen_then is_act (look_of a.seat.me.number control ∷ []) (took e found ∷ [])
          a looked b (looks_once control a looked look) acts;
      writes = nothing_then (took e found ∷ []) a looked b (looks_writes control a looked look)
          writes;
    }

    stored_link : (b : Bound Pass)
        → Overwritten Rule is_fixed (link_taken number) a oldest.place 2 values.Null b
        → LinkTaken a b oldest × WritesLink a b
    stored_link b is =
        let looked = is.looked in
        let done = is.rewritten.replaced in
        let wanted = barrier_of a.seat.me.presence.status is.control in (
          taken_by b is.places (overwrote a b oldest.place 2 values.Null last.knows.there tt is)
              (is.pass ∙ ap (λ (n : ℕ). cutting n a.seat.me.pass) number_is),
          writes_by b looked done.loaded done.at is.control (store_of values.Null done.at)
              finds.Stored is.look (ap (λ (u : View Pass). u.number) done.load.event.new)
              done.marks.kept
              (rewrites is_write (λ i p. refl) (λ i n p k. refl) Rule wanted
              (fetch_of looked oldest.place 2) same_pass is.seen (store_of values.Null)
              (link_taken number) finds.Stored values.Null looked b is.rewritten refl refl)
              (rewrites is_act (λ i p. refl) (λ i n p k. refl) Rule wanted
              (fetch_of looked oldest.place 2) same_pass is.seen (store_of values.Null)
              (link_taken number) finds.Stored values.Null looked b is.rewritten refl refl)
              (λ same. subst (λ (lets : Bool). EndsLink lets a.seat.me.number
              (store_of values.Null done.at)) (sym is.lets) (same, refl)),
        )

    exchanged_link : (b : Bound Pass) (seen found : Field)
        → Exchanged Rule is_fixed link_cut (link_taken number) a oldest.place 2 values.Null seen
        found b
        → LinkTaken a b oldest × WritesLink a b
    exchanged_link b seen found is =
        let looked = is.looked in
        let done = is.rewritten.replaced in
        let load = done.load in
        let wanted = barrier_of a.seat.me.presence.status is.control in
        let now = version_kept a looked is.look.kept oldest.place oldest.number last.root
        last.knows in
        let link = link_was_read is_tree tree_of is_record looked done.loaded oldest
        record { root = last.root; knows = now } seen load in
        let looked_pass = is.look.kept.pass in (
          taken_by b is.places
              (exchanged a b oldest.place 2 values.Null last.knows.there tt seen found is)
              (is.pass
              ∙ ap (λ (p : Pass). cutting number (link_cut (told_by load) (finds.Field seen) p))
              (sym looked_pass)
              ∙ ap (cutting number) (sym (ap (λ (u : View Pass). u.pass) load.event.new))
              ∙ ap (λ (n : ℕ). cutting n done.loaded.seat.me.pass) number_is ∙ link.pass
              ∙ ap (cutting oldest.number) looked_pass),
          writes_by b looked done.loaded done.at is.control
              (exchange_of oldest.place 2 seen values.Null done.at) (finds.Field found) is.look
              (ap (λ (u : View Pass). u.number) load.event.new) done.marks.kept
              (rewrites is_write (λ i p. refl) (λ i n p k. refl) Rule wanted
              (read_of looked oldest.place 2) link_cut seen
              (exchange_of oldest.place 2 seen values.Null) (link_taken number)
              (finds.Field found) values.Null looked b is.rewritten refl refl)
              (rewrites is_act (λ i p. refl) (λ i n p k. refl) Rule wanted
              (read_of looked oldest.place 2) link_cut seen
              (exchange_of oldest.place 2 seen values.Null) (link_taken number)
              (finds.Field found) values.Null looked b is.rewritten refl refl)
              (λ same. subst (λ (lets : Bool). EndsLink lets a.seat.me.number
              (exchange_of oldest.place 2 seen values.Null done.at)) (sym is.lets)
              (same, refl, refl)),
        )

    pub was_taken : (b : Bound Pass) (r : Result (Unit {0}) Moved)
        → OnOk r (Overwritten Rule is_fixed (link_taken number) a oldest.place 2 values.Null b
        ⊎ ((seen : Field) × Exchanged Rule is_fixed link_cut (link_taken number) a oldest.place 2
        values.Null seen seen b))
        → IfErr r (λ moved. (seen : Field) × (same_field moved.found seen ≡ false)
        × Exchanged Rule is_fixed link_cut (link_taken number) a oldest.place 2 values.Null seen
        moved.found b)
        → LinkTaken a b oldest × WritesLink a b
    was_taken b (Ok u) (inl wrote) moved = stored_link b wrote
    was_taken b (Ok u) (inr wrote) moved = exchanged_link b wrote.0 wrote.0 wrote.1
    was_taken b (Err m) made moved = exchanged_link b moved.0 m.found moved.2
