-- Reads of a version's link: the version before it, or null.
use Rattle.std.proofs.Common.{◌≡◌, ◌≤◌, ◌-◌, ℕ, length}
use Rattle.std.proofs.Common.{inl, inr, sym, ◌∙◌, ap, subst, arith}
use Rattle.cell_words.specs.declared.fields.Field.{Field}
use Rattle.cell_words.specs.declared.fields.Field.TheVariants as field
use Rattle.cell_words.specs.Term.{IsFive, Term}
use Rattle.core_machine.specs.declared.events.Event.TheVariants as event
use Rattle.core_machine.specs.declared.events.Found.{Found}
use Rattle.core_machine.specs.declared.events.Found.TheVariants as finds
use Rattle.doc_tree.specs.Tree.{DocTree}
use Rattle.heap_rule.specs.declared.known.Learned.{Learned}
use Rattle.heap_rule.specs.declared.view.View.{View}
use Rattle.heap_rule.specs.Lore.{learned}
use Rattle.mutator_events.specs.declared.values.Value.TheVariants as values
use Rattle.mutator_events.specs.Events.{AtEvent}
use Rattle.mutator_events.specs.Values.{value_found}
use Rattle.mutator_seat.specs.Bound.{Bound}
use Rattle.version_rule.specs.Knowing.{KnowsVersion}
use Rattle.version_rule.specs.Pass.{Pass}
use Rattle.version_rule.specs.Told.{TellsLink, TellsOlder}
use Rattle.version_rule.specs.Versions.{HoldsVersions, is_fixed}
use Rattle.version_rule.proofs.AfterSteps.{found_version}
use Rattle.version_rule.proofs.Reading.{here_known, number_known, tells_link}
use Rattle.version_rule.specs.declared.held.HeldVersion.{HeldVersion}
use Rattle.version_store.specs.Calls.{WasRead}
use Rattle.version_store.specs.Held.{IsHeld}
use Rattle.version_store.specs.Walks.{EndsThere, FollowsLink, PicksLink}
use Rattle.held_places.proofs.Going.{goes_none, goes_on}
use Rattle.held_places.proofs.ReadValues.{found_held, found_null}
use Rattle.held_places.proofs.Steps.{same_value, was_read}

module _ (is_tree : Term → Type 0) (tree_of : Term → DocTree)
    (is_record : (t : Term) → is_tree t → IsFive t) (next : Learned → Found → Pass → Pass)
    (a b : Bound Pass) (heap : b.heap ≡ a.heap) (table : b.seat.table ≡ a.seat.table)
    (v : HeldVersion) (is : IsHeld a v) (found : Field)
    (step : AtEvent (HoldsVersions is_tree tree_of) is_fixed a.seat.me
    (event.Read a.seat.me.number v.place 2) next (finds.Field found) b.seat.me) where
  abbrev tells : Learned
  tells = learned step.core step.lore (event.Read a.seat.me.number v.place 2)

  link : TellsLink is_tree v.number tells (finds.Field found)
  link = subst (λ (x : Found). TellsLink is_tree v.number tells x) step.found_is
      (tells_link is_tree tree_of is_record a.seat.me step.core step.lore step.passes step.mine
      step.kept step.pass v.place v.number is.root is.knows)

  read : WasRead a b v.place 2 found
  read = was_read is_fixed (HoldsVersions is_tree tree_of) next a b v.place 2 found heap table
      is.knows.there step

  pub link_is_no_number : (n : ℕ) → values.Num n ≡ value_found (length a.seat.me.own.held) found
      → ⊥
  link_is_no_number n value = by_link link
    where
      by_link : TellsLink is_tree v.number tells (finds.Field found) → ⊥
      by_link (inl none) =
          let word = same_value found field.Null none in
          let e : values.Num n ≡ values.Null = value
          ∙ ap (value_found (length a.seat.me.own.held)) word in cc
      by_link (inr older) =
          let word = same_value found (field.Cell older.cell) older.found_is in
          let e : values.Num n ≡ values.Held (length a.seat.me.own.held) = value
          ∙ ap (value_found (length a.seat.me.own.held)) word in cc

  link_there : (cell : ℕ) → found ≡ field.Cell cell
      → TellsOlder is_tree v.number tells (finds.Field found)
  link_there cell word = by_link link
    where
      by_link : TellsLink is_tree v.number tells (finds.Field found)
          → TellsOlder is_tree v.number tells (finds.Field found)
      by_link (inl none) =
          let e : field.Cell cell ≡ field.Null = sym word ∙ same_value found field.Null none in
          absurd cc
      by_link (inr older) = older

  -- the version before has a number that is one less
  pub link_later : (place : ℕ) → values.Held place ≡ value_found (length a.seat.me.own.held) found
      → 1 ≤ v.number
  link_later place value =
      let older = link_there (found_held (length a.seat.me.own.held) place found value).0
      (found_held (length a.seat.me.own.held) place found value).1.0 in
      let before = older.before in omega (arith, before)

  pub follows : (place : ℕ) → PicksLink (HoldsVersions is_tree tree_of) next
      → values.Held place ≡ value_found (length a.seat.me.own.held) found
      → FollowsLink a b v (record { number = v.number - 1; place = place })
  follows place picks value =
      let placed = found_held (length a.seat.me.own.held) place found value in
      let older = link_there placed.0 placed.1.0 in
      let word = same_value found (field.Cell older.cell) older.found_is in
      let at = subst (λ (x : Field). WasRead a b v.place 2 x) word read in
      let less : older.older ≡ v.number - 1 = (let e = older.before in omega (arith, e)) in
      record {
        cell = older.cell;
        goes = goes_on (goes_none a) at.goes;
        holds = at.holds;
        place_is = placed.1.1;
        number_is = let e = older.before in omega (arith, e);
        held = record {
          root = older.root;
          knows = subst (λ (p : ℕ). KnowsVersion b.seat.me p (v.number - 1) older.root)
              (sym placed.1.1)
              (subst (λ (n : ℕ). KnowsVersion b.seat.me (length a.seat.me.own.held) n older.root)
              less
              (found_version a.seat.me b.seat.me step.core step.lore step.mine v.place 2
              (finds.Field found) tells (next tells (finds.Field found) a.seat.me.pass) step.new
              older.cell older.older older.root older.found_is older.known));
        };
        pass = ap (λ (u : View Pass). u.pass) step.new
            ∙ ap (λ (x : Field). next tells (finds.Field x) a.seat.me.pass) word
            ∙ picks.stays tells older.cell a.seat.me.pass;
        claims = at.claims;
        coherent = at.coherent;
        many = at.many;
      }

  pub ends : values.Null ≡ value_found (length a.seat.me.own.held) found → EndsThere next a b v
  ends value =
      let word = found_null (length a.seat.me.own.held) found value in
      let at = subst (λ (x : Field). WasRead a b v.place 2 x) word read in
      record {
        goes = goes_on (goes_none a) at.goes;
        holds = at.holds;
        tells = tells;
        told = number_known tells.here v.number is.root
            (here_known is_tree tree_of is_record a.seat.me step.core step.lore step.passes
            step.mine step.kept step.pass v.place v.number is.root is.knows 2);
        pass = ap (λ (u : View Pass). u.pass) step.new
            ∙ ap (λ (x : Field). next tells (finds.Field x) a.seat.me.pass) word;
        claims = at.claims;
      }
