-- Reads of the anchor, of a version's number and of its root: what the calls that make them give.
use Rattle.std.proofs.Common.{◌≡◌, ◌<◌, ◌≤◌, ℕ, [], ◌∷◌, length}
use Rattle.std.proofs.Common.{sym, ◌∙◌, ap, subst, arith, max}
use Rattle.cell_words.specs.declared.fields.Field.{Field}
use Rattle.cell_words.specs.declared.fields.Field.TheVariants as field
use Rattle.cell_words.specs.Term.{IsFive, Term}
use Rattle.run_limits.specs.declared.TheConstants.{MOST_VERSIONS}
use Rattle.core_machine.specs.declared.events.Event.TheVariants as event
use Rattle.core_machine.specs.declared.events.Found.TheVariants as finds
use Rattle.doc_tree.specs.Tree.{DocTree}
use Rattle.heap_rule.specs.declared.known.Known.TheVariants as knows
use Rattle.heap_rule.specs.declared.view.View.{View}
use Rattle.heap_rule.specs.Asks.{known_of, target}
use Rattle.heap_rule.specs.Boxes.{boxes_of}
use Rattle.heap_rule.specs.Steps.{same_pass}
use Rattle.mutator_events.specs.declared.values.Value.TheVariants as values
use Rattle.mutator_events.specs.Events.{AtEvent}
use Rattle.mutator_events.specs.Values.{value_found}
use Rattle.mutator_seat.specs.Bound.{Bound}
use Rattle.trails.specs.Asks.{gave_at}
use Rattle.version_rule.specs.Knowing.{KnowsVersion, latest_seen, tree_read}
use Rattle.version_rule.specs.Pass.{Pass, reading, seeing}
use Rattle.version_rule.specs.Versions.{HoldsVersions, is_fixed}
use Rattle.version_rule.proofs.AfterSteps.{shows_latest, shows_number, shows_root}
use Rattle.version_rule.proofs.Passing.{in_step_at}
use Rattle.version_rule.proofs.Reading.{root_known}
use Rattle.version_rule.specs.declared.held.HeldVersion.{HeldVersion}
use Rattle.held_places.specs.Calls.{Goes, IsIn}
use Rattle.version_store.specs.Calls.{WasRead}
use Rattle.version_store.specs.Held.{GivesLatest, GivesRoot, IsHeld, root_at}
use Rattle.version_store.specs.Reads.{FindsLatest, FindsNumber}
use Rattle.held_places.proofs.Going.{goes_then, holds_then}
use Rattle.version_store.proofs.Remaining.{version_still}
use Rattle.held_places.proofs.ReadValues.{found_held, found_number, last_held}
use Rattle.held_places.proofs.Steps.{as_step, same_word, was_read}

module _ (is_tree : Term → Type 0) (tree_of : Term → DocTree)
    (is_record : (t : Term) → is_tree t → IsFive t) (a b : Bound Pass)
    (heap : b.heap ≡ a.heap) (table : b.seat.table ≡ a.seat.table) where
  -- The anchor's field.

  module _ (is : IsIn a) (found : Field)
      (step : AtEvent (HoldsVersions is_tree tree_of) is_fixed a.seat.me
      (event.Read a.seat.me.number 0 0) latest_seen (finds.Field found) b.seat.me) where
    abbrev shows : Rattle.version_rule.specs.Shows.ShowsLatest is_tree a.seat.me b.seat.me 0
        (Rattle.cell_words.specs.Field.pack_field_of found)
    shows = shows_latest is_tree tree_of is_record a.seat.me b.seat.me 0
        (Rattle.cell_words.specs.Field.pack_field_of found) is.anchor
        (as_step is_fixed (HoldsVersions is_tree tree_of) latest_seen a.seat.me b.seat.me
        (event.Read a.seat.me.number 0 0) found step)

    pub anchor_cell : (cell : ℕ) × (found ≡ field.Cell cell)
    anchor_cell = (shows.cell, sym (same_word (field.Cell shows.cell) found shows.read.word_is))

    pub finds_latest : (place : ℕ)
        → values.Held place ≡ value_found (length a.seat.me.own.held) found
        → FindsLatest a b place
    finds_latest place value =
        let cell = same_word (field.Cell shows.cell) found shows.read.word_is in
        let placed = (found_held (length a.seat.me.own.held) place found value).1.1 in
        record {
          cell = shows.cell;
          read = subst (λ (x : Field). WasRead a b 0 0 x) (sym cell)
              (was_read is_fixed (HoldsVersions is_tree tree_of) latest_seen a b 0 0 found heap
              table is.some step);
          place_is = placed;
          number = shows.number;
          root = shows.root;
          known = subst (λ (p : ℕ). KnowsVersion b.seat.me p shows.number shows.root) (sym placed)
              shows.known;
          not_below = shows.not_below;
          newest = shows.newest;
          few = shows.few;
          pass = shows.pass;
        }

  -- A version's number.

  module _ (place : ℕ) (there : place < length a.seat.me.own.held) (found : Field)
      (step : AtEvent (HoldsVersions is_tree tree_of) is_fixed a.seat.me
      (event.Read a.seat.me.number place 0) same_pass (finds.Field found) b.seat.me) where
    pub number_is : (number : ℕ) (root : Term) → KnowsVersion a.seat.me place number root
        → found ≡ field.Num number
    number_is number root knows = sym (same_word (field.Num number) found
        (shows_number is_tree tree_of is_record a.seat.me b.seat.me place
        (Rattle.cell_words.specs.Field.pack_field_of found) number root knows
        (as_step is_fixed (HoldsVersions is_tree tree_of) same_pass a.seat.me b.seat.me
        (event.Read a.seat.me.number place 0) found step)).read.word_is)

    pub finds_number : (number : ℕ)
        → values.Num number ≡ value_found (length a.seat.me.own.held) found
        → FindsNumber a b place number
    finds_number number value =
        let word = found_number (length a.seat.me.own.held) number found value in
        let h = step.kept in
        let own = in_step_at is_tree tree_of (boxes_of step.core step.lore) step.passes h
        a.seat.me.number a.seat.me.pass step.pass in
        record {
          read = subst (λ (x : Field). WasRead a b place 0 x) word
              (was_read is_fixed (HoldsVersions is_tree tree_of) same_pass a b place 0 found heap
              table there step);
          is = λ known root knows.
              let e : field.Num number ≡ field.Num known = sym word
              ∙ number_is known root knows in cc;
          pass = ap (λ (v : View Pass). v.pass) step.new;
          keeps_some = subst (λ (n : ℕ). 1 ≤ n) (sym own.keeps) h.keeps_some;
          keeps_few = subst (λ (n : ℕ). n ≤ 100) (sym own.keeps) h.keeps_few;
        }

  -- The root.

  module _ (v : HeldVersion) (is : IsHeld a v) (found : Field)
      (step : AtEvent (HoldsVersions is_tree tree_of) is_fixed a.seat.me
      (event.Read a.seat.me.number v.place 1) (tree_read tree_of) (finds.Field found) b.seat.me)
    where
      abbrev root_shown : Rattle.version_rule.specs.Shows.ShowsRoot is_tree tree_of a.seat.me
          b.seat.me v.place (Rattle.cell_words.specs.Field.pack_field_of found) v.number is.root
      root_shown = shows_root is_tree tree_of is_record a.seat.me b.seat.me v.place
          (Rattle.cell_words.specs.Field.pack_field_of found) v.number is.root is.knows
          (as_step is_fixed (HoldsVersions is_tree tree_of) (tree_read tree_of) a.seat.me b.seat.me
          (event.Read a.seat.me.number v.place 1) found step)

      pub root_cell : (cell : ℕ) × (found ≡ field.Cell cell)
      root_cell = (
        root_shown.cell,
        sym (same_word (field.Cell root_shown.cell) found root_shown.read.word_is),
      )

      pub gives_root : (place : ℕ)
          → values.Held place ≡ value_found (length a.seat.me.own.held) found
          → GivesRoot is_tree tree_of a b v place
      gives_root place value =
          let cell = same_word (field.Cell root_shown.cell) found root_shown.read.word_is in
          let placed = (found_held (length a.seat.me.own.held) place found value).1.1 in
          let root : root_at a v.place ≡ is.root =
          root_known (known_of a.seat.me v.place) v.number is.root is.knows.known in
          let read = subst (λ (x : Field). WasRead a b v.place 1 x) (sym cell)
          (was_read is_fixed (HoldsVersions is_tree tree_of)
          (tree_read tree_of) a b v.place 1 found heap
          table is.knows.there step) in
          record {
            cell = root_shown.cell;
            goes = read.goes;
            holds = read.holds;
            place_is = placed;
            known = ap (λ (p : ℕ). known_of b.seat.me p) placed ∙ root_shown.known
                ∙ ap knows.Record (sym root);
            spells = subst is_tree (sym root) root_shown.spells;
            pass = root_shown.pass
                ∙ ap (λ (t : Term). reading v.number (tree_of t) a.seat.me.pass) (sym root);
            claims = read.claims;
          }

-- The two reads of the latest version.

pub gives_latest : (a b c : Bound Pass) (place number : ℕ) → IsIn a → FindsLatest a b place
    → FindsNumber b c place number → GivesLatest a c (record { number = number; place = place })
gives_latest a b c place number is first second =
    let same : number ≡ first.number = second.is first.number first.root first.known in
    let box : target b.seat.me place ≡ first.cell =
    ap (λ (p : ℕ). target b.seat.me p) first.place_is
    ∙ last_held a b first.cell first.read.holds.held in
    record {
      cell = first.cell;
      goes = subst (λ (x : ℕ). Goes (gave_at 0 0 (field.Cell first.cell) ∷ gave_at x 0
          (field.Num number) ∷ []) a c) box
          (subst (λ (x : ℕ). Goes (gave_at x 0 (field.Cell first.cell) ∷
          gave_at (target b.seat.me place) 0 (field.Num number) ∷ []) a c) is.anchor
          (goes_then first.read.goes second.read.goes));
      holds = holds_then is_fixed (first.cell ∷ []) [] a b c first.read.holds second.read.holds;
      place_is = first.place_is;
      held = record {
        root = first.root;
        knows = subst (λ (n : ℕ). KnowsVersion c.seat.me place n first.root) (sym same)
            (version_still (length b.seat.me.own.held) [] b c second.read.holds.known
            second.read.holds.held place first.number first.root
            first.known.there first.known);
      };
      not_below = subst (λ (n : ℕ). a.seat.me.pass.seen ≤ n) (sym same) first.not_below;
      newest = λ other its root knows. subst (λ (n : ℕ). its ≤ n) (sym same)
          (first.newest other its root knows);
      few = subst (λ (n : ℕ). n ≤ MOST_VERSIONS) (sym same) first.few;
      pass = second.pass ∙ first.pass
          ∙ ap (λ (n : ℕ). seeing n a.seat.me.pass) (sym same);
      claims = second.read.claims ∙ first.read.claims;
    }

pub seen_is : (a c : Bound Pass) (v : HeldVersion) → GivesLatest a c v
    → c.seat.me.pass.seen ≡ v.number
seen_is a c v gives =
    ap (λ (p : Pass). p.seen) gives.pass
    ∙ (let le = gives.not_below in let e : max a.seat.me.pass.seen v.number ≡ v.number =
    omega (arith, le) in e)
