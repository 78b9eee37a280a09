-- Writes: of the anchor's field by a commit, and of a version's link by a trim, which is a store or
-- an exchange. The rule stands with the pass that is picked, whether an exchange was made or not.
use Rattle.std.proofs.Common.{◌≡◌, ◌≢◌, ◌<◌, ◌≤◌, ◌+◌, ◌-◌, ℕ, Bool, true, false, List}
use Rattle.std.proofs.Common.{[], ◌∷◌, length, Option, Some, None, slice_set, inl, inr}
use Rattle.std.proofs.Common.{max, refl, sym, ◌∙◌, ap, subst, arith}
use Rattle.std.proofs.lemmas.Bool.{cases_eq}
use mathlib.Core.Option.{some}
use lib.ListN.{get_elem?}
use Rattle.atomic_table.proofs.Lists.{set_again}
use Rattle.cell_words.specs.declared.fields.Field.{Field}
use Rattle.cell_words.specs.declared.fields.Field.TheVariants as field
use Rattle.cell_words.specs.Term.{IsFive, Term, null}
use Rattle.core_machine.specs.declared.events.Event.TheVariants as event
use Rattle.core_machine.specs.Own.{Own, pending_or_none}
use Rattle.core_machine.specs.State.{State, field_of, target_of}
use Rattle.core_machine.specs.Words.{same_field}
use Rattle.dlg_core.specs.Reachable.{Reachable}
use Rattle.dlg_core.proofs.Events.Write.{same_field_is}
use Rattle.doc_model.specs.Store.{tree_at}
use Rattle.doc_tree.specs.Tree.{DocTree}
use Rattle.heap_rule.specs.Asks.{begun_of, target}
use Rattle.heap_rule.specs.Boxes.{Map, boxes_of, payload_of, revealing}
use Rattle.heap_rule.specs.Boxes.{written_if, written_map}
use Rattle.heap_rule.specs.Facts.{Facts, IsKnown}
use Rattle.heap_rule.specs.Lore.{Entry, Lore, Named, Plain, entry_of, named_or, put}
use Rattle.heap_rule.specs.Numbered.{HasNumber}
use Rattle.heap_rule.specs.Steps.{Mine, Picks}
use Rattle.heap_rule.specs.declared.known.Known.{Known}
use Rattle.heap_rule.specs.declared.known.Known.TheVariants as knows
use Rattle.heap_rule.specs.declared.view.View.{View}
use Rattle.heap_rule.proofs.Entries.{num_inj, written_here}
use Rattle.heap_rule.proofs.EntryWords.{no_term}
use Rattle.heap_rule.proofs.Maps.{entry_names, in_map}
use Rattle.heap_rule.proofs.Numbered.{anchor_entry, anchor_names, named_number}
use Rattle.heap_rule.proofs.Revealed.{fresh_absent, shown_is}
use Rattle.heap_rule.proofs.SameFields.{same_cell, same_value}
use Rattle.version_rule.specs.Knowing.{HasReadLink, HoldsBefore, MayCommit, MayCut, link_taken}
use Rattle.version_rule.specs.Knowing.{made_or_seen, next_made}
use Rattle.version_rule.specs.Pass.{Pass, committed, cutting, seeing}
use Rattle.version_rule.specs.Versions.{HoldsVersions, IsNext, is_fixed}
use Rattle.version_rule.proofs.Committing.{commits}
use Rattle.version_rule.proofs.Cutting.{cuts}
use Rattle.version_rule.proofs.Passing.{cut_stands, fits_at, in_step_at, made_of, seen_stands}
use Rattle.version_rule.proofs.Reading.{Version, version_at, version_held, whole}
use Rattle.heap_rule.proofs.Seats.{knows_place, reached_place, target_now}
use Rattle.version_rule.proofs.States.{Seen, number_seen}
use Rattle.version_rule.proofs.States.{version_seen}

module _ (is_tree : Term → Type 0) (tree_of : Term → DocTree)
    (is_record : (t : Term) → is_tree t → IsFive t) (v : View Pass) (s : State) (l : Lore)
    (passes : List Pass) (mine : Mine is_fixed v s l)
    (h : HoldsVersions is_tree tree_of (boxes_of s l) passes)
    (at : get_elem? passes v.number ≡ some v.pass) where
  -- A commit.

  module _ (place latest box root number : ℕ) (before made : Term)
      (may : MayCommit is_tree v place latest box root number before made) where
    abbrev z : ℕ
    z = target v box

    abbrev c : ℕ
    c = target v latest

    fresh_known : IsKnown is_fixed s l v.number z (knows.Fresh (field.Num number ∷
        field.Cell (target v root) ∷ field.Cell c ∷ field.Null ∷ field.Null ∷ []))
    fresh_known = subst (λ (k : Known). IsKnown is_fixed s l v.number z k) may.box_is
        (knows_place v s l mine box may.box_there)

    root_term : l.terms (target v root) ≡ Some made
    root_term =
        let is : IsKnown is_fixed s l v.number (target v root) (knows.Record made) =
        subst (λ (k : Known). IsKnown is_fixed s l v.number (target v root) k) may.root_is
        (knows_place v s l mine root may.root_there) in
        is.1

    old_seen : Seen s l c (number - 1) before
    old_seen = version_seen v s l mine latest (number - 1) before may.held

    abbrev facts : Facts is_fixed s l
    facts = mine.shown.facts

    new_reached : Reachable s z
    new_reached = reached_place v s l mine box may.box_there

    field_is : (f : ℕ) (value : Field) → field_of s z f ≡ value
        → payload_of s l z f ≡ entry_of l.terms value
    field_is f value is = ap (entry_of l.terms) is

    cell_is : (x f : ℕ) (o : Option Term) → field_of s z f ≡ field.Cell x → l.terms x ≡ o
        → payload_of s l z f ≡ named_or x o
    cell_is x f o is term = field_is f (field.Cell x) is ∙ ap (named_or x) term

    next : IsNext is_tree number made c (payload_of s l z)
    next =
        let row = fresh_known.2 in
        record {
          number_is = field_is 0 (field.Num number) (row.each 0 (omega arith));
          root_is = cell_is (target v root) 1 (Some made) (row.each 1 (omega arith)) root_term;
          spells = may.spells;
          link_is = cell_is c 2 None (row.each 2 (omega arith))
              (no_term is_fixed s l facts c old_seen.in_is.reached old_seen.in_is.box);
          fourth = field_is 3 field.Null (row.each 3 (omega arith));
          fifth = field_is 4 field.Null (row.each 4 (omega arith));
        }

    old_number : HasNumber (boxes_of s l) c (number - 1)
    old_number = number_seen s l c (number - 1) before old_seen

    -- the tree that the version had
    tree_was : tree_at h.trees (number - 1) ≡ tree_of before
    tree_was =
        let version = version_at is_tree tree_of is_record v s l passes mine h at c (number - 1)
        old_number in
        let same : version.root ≡ before =
        (let e : Plain version.root ≡ Plain before =
        sym version.seen.root_is ∙ old_seen.root_is in cc) in
        version.has.is ∙ ap tree_of same

    names_now : field_of s 0 0 ≡ field.Cell c → h.latest.anchor 0 ≡ Named c
    names_now = anchor_names s l (length h.trees - 1) h.latest is_fixed facts c
        old_seen.in_is.reached old_seen.in_is.box

    -- where the anchor names the version's box, none is newer
    pub low_now : field_of s 0 0 ≡ field.Cell c → v.pass.seen ≤ number
    low_now named =
        let latest_is = named_number (boxes_of s l) (length h.trees - 1) c (number - 1) h.latest
        (names_now named) old_number in
        let fits = fits_at is_tree tree_of (boxes_of s l) passes h v.number v.pass at in
        let lt = fits.seen in let later = may.later in omega (arith, lt, latest_is, later)

    -- the write was made: the anchor named the version's box
    made_stands : field_of s 0 0 ≡ field.Cell c
        → HoldsVersions is_tree tree_of
        (written_map (boxes_of s (revealing l (field.Cell z))) 0 0
        (entry_of l.terms (field.Cell z)))
        (slice_set passes v.number (committed number (tree_of before) (tree_of made) v.pass))
    made_stands named =
        let entry : entry_of l.terms (field.Cell z) ≡ Named z =
        ap (named_or z) (no_term is_fixed s l facts z new_reached fresh_known.0) in
        let names = names_now named in
        let follows : number ≡ (number - 1) + 1 = (let le = may.later in omega (arith, le)) in
        subst (λ (m : Map). HoldsVersions is_tree tree_of
        (written_map m 0 0 (entry_of l.terms (field.Cell z)))
        (slice_set passes v.number (committed number (tree_of before) (tree_of made) v.pass)))
        (sym (shown_is s l z v.number fresh_known.1 new_reached fresh_known.0))
        (subst (λ (e : Entry). HoldsVersions is_tree tree_of
        (written_map (put (boxes_of s l) z (Some (payload_of s l z))) 0 0 e)
        (slice_set passes v.number (committed number (tree_of before) (tree_of made) v.pass)))
        (sym entry)
        (commits is_tree tree_of (boxes_of s l) passes h z c number (number - 1) made
        (payload_of s l z) (fresh_absent s l z v.number fresh_known.1) next follows old_number
        names v.number v.pass at may.few (tree_of before) tree_was))

    -- it was not: another version is the latest, and its number is greater
    moved_stands : (field_of s 0 0 ≡ field.Cell c → ⊥)
        → HoldsVersions is_tree tree_of (boxes_of s l)
        (slice_set passes v.number (seeing number v.pass))
    moved_stands other =
        let below = made_of is_tree tree_of (boxes_of s l) passes h c old_number.box (number - 1)
        old_number.there old_number.number_is in
        let apart : length h.trees - 1 ≢ number - 1 = (λ e.
        let same : h.latest.cell ≡ c = h.apart h.latest.cell c (number - 1)
        (subst (λ (n : ℕ). HasNumber (boxes_of s l) h.latest.cell n) e h.latest.numbered)
        old_number in
        other (entry_names l.terms (field_of s 0 0) c
        (anchor_entry s l (length h.trees - 1) h.latest ∙ h.latest.names ∙ ap Named same))) in
        let later = may.later in
        seen_stands is_tree tree_of (boxes_of s l) passes h v.number v.pass at number
        (less (length h.trees) number later below apart)
      where
        less : (count number : ℕ) → 1 ≤ number → number - 1 < count → count - 1 ≢ number - 1
            → number < count
        less count number later below apart = elim (cases_eq count number) [
          | inl same ↦ absurd (apart (ap (λ (n : ℕ). n - 1) same))
          | inr other ↦ omega (arith, later, below, other)
        ]

    abbrev goal : Bool → ℕ → Type 0
    goal b x = HoldsVersions is_tree tree_of
        (written_if b s l x 0 (field.Cell z))
        (slice_set passes v.number
        (made_or_seen b number (tree_of before) (tree_of made) v.pass))

    commit_by : (b : Bool) → same_field (field_of s 0 0) (field.Cell c) ≡ b → goal b 0
    commit_by true is = made_stands (same_field_is (field_of s 0 0) (field.Cell c) is)
    commit_by false is = moved_stands (λ e.
        let clash : true ≡ false = sym (same_cell (field_of s 0 0) c e) ∙ is in cc)

    pub commit_stands : (x : ℕ) → x ≡ 0
        → goal (same_field (field_of s x 0) (field.Cell c)) x
    commit_stands x is = subst (λ (y : ℕ). goal (same_field (field_of s y 0) (field.Cell c)) y)
        (sym is) (commit_by (same_field (field_of s 0 0) (field.Cell c)) refl)

  -- The cut of a link.

  module _ (place newer number newest : ℕ) (root top : Term)
      (may : MayCut v place newer number newest root top) where
    abbrev x : ℕ
    x = target_of s v.number place

    version : Version is_tree tree_of h.trees s l x number
    version = version_held is_tree tree_of is_record v s l passes mine h at place number root
        may.held

    there : boxes_of s l x ≡ Some (payload_of s l x)
    there = in_map s l x version.seen.in_is

    due_now : number + h.keep ≤ length h.trees
    due_now =
        let step = in_step_at is_tree tree_of (boxes_of s l) passes h v.number v.pass at in
        let top_number = number_seen s l (target v newer) newest top
        (version_seen v s l mine newer newest top may.made) in
        let made = made_of is_tree tree_of (boxes_of s l) passes h (target v newer)
        top_number.box newest top_number.there top_number.number_is in
        let keep = step.keeps in let due = may.due in
        omega (arith, keep, made, due)

    -- the link becomes null, whatever it was
    pub cut_stands_here : HoldsVersions is_tree tree_of
        (written_map (boxes_of s l) x 2 (Plain null))
        (slice_set passes v.number (cutting number v.pass))
    cut_stands_here =
        cut_stands is_tree tree_of (written_map (boxes_of s l) x 2 (Plain null)) passes
        (cuts (boxes_of s l) x number (payload_of s l x) there version.seen.number_is is_tree
        tree_of passes h due_now) v.number v.pass at x (put (payload_of s l x) 2 (Plain null))
        number (written_here (boxes_of s l) x 2 (Plain null) (payload_of s l x) there)
        version.seen.number_is refl

    -- The exchange was not made. Either the version before was there, so the link was cut since.
    cut_since : (c : ℕ) (before : HoldsBefore v number c) → (field_of s x 2 ≡ field.Cell c → ⊥)
        → HoldsVersions is_tree tree_of (boxes_of s l)
        (slice_set passes v.number (cutting number v.pass))
    cut_since c before other =
        let all = whole is_tree tree_of is_record v s l passes mine h at place number root
        may.held in
        let same : all.number ≡ number =
        num_inj all.number number (sym all.number_is ∙ version.seen.number_is) in
        elim all.link [
          | inl cut ↦ cut_stands is_tree tree_of (boxes_of s l) passes h v.number v.pass at x
              (payload_of s l x) number there version.seen.number_is cut.none
          | inr link ↦ absurd (
              let before_is = link.before in let later = before.later in
              let number_is : link.older ≡ number - 1 = omega (arith, before_is, same, later) in
              let older = target v before.place in
              let older_number : HasNumber (boxes_of s l) older (number - 1) =
              number_seen s l older (number - 1) before.root
              (version_seen v s l mine before.place (number - 1) before.root before.held) in
              let one : link.cell ≡ older =
              h.apart link.cell older (number - 1)
              (subst (λ (n : ℕ). HasNumber (boxes_of s l) link.cell n) number_is link.version)
              older_number in
              other (entry_names l.terms (field_of s x 2) c
              (link.names ∙ ap Named (one ∙ before.cell_is))))
        ]

    -- or it was null, which the pass has noted
    cut_noted : number ≤ v.pass.cut
        → HoldsVersions is_tree tree_of (boxes_of s l)
        (slice_set passes v.number (cutting number v.pass))
    cut_noted noted =
        let seen = (in_step_at is_tree tree_of (boxes_of s l) passes h v.number v.pass at).cut_seen
        in
        let same_seen : max v.pass.seen number ≡ v.pass.seen = omega (arith, noted, seen) in
        let same_cut : max v.pass.cut number ≡ v.pass.cut = omega (arith, noted) in
        let same : cutting number v.pass ≡ v.pass =
        (λ t. record v.pass { seen = same_seen t; cut = same_cut t }) in
        subst (λ (ps : List Pass). HoldsVersions is_tree tree_of (boxes_of s l) ps)
        (sym (ap (λ (p : Pass). slice_set passes v.number p) same
        ∙ set_again passes v.number v.pass at)) h

    not_exchanged : (found : Field) → HasReadLink v number found
        → (field_of s x 2 ≡ found → ⊥)
        → HoldsVersions is_tree tree_of (boxes_of s l)
        (slice_set passes v.number (cutting number v.pass))
    not_exchanged field.Null read other = cut_noted read
    not_exchanged (field.Num n) read other = absurd read
    not_exchanged (field.Cell c) read other = cut_since c read other

    abbrev cut_goal : Bool → Type 0
    cut_goal b = HoldsVersions is_tree tree_of (written_if b s l x 2 field.Null)
        (slice_set passes v.number (cutting number v.pass))

    cut_by : (found : Field) → HasReadLink v number found → (b : Bool)
        → same_field (field_of s x 2) found ≡ b
        → cut_goal b
    cut_by found read true is = cut_stands_here
    cut_by found read false is = not_exchanged found read (λ e.
        let clash : true ≡ false = sym (same_value (field_of s x 2) found e) ∙ is in cc)

    pub exchange_stands : (found : Field) → HasReadLink v number found
        → cut_goal (same_field (field_of s x 2) found)
    exchange_stands found read = cut_by found read (same_field (field_of s x 2) found) refl

-- In the shape that a call of a seat asks for.

module _ (is_tree : Term → Type 0) (tree_of : Term → DocTree)
    (is_record : (t : Term) → is_tree t → IsFive t) (v : View Pass) where
  pub commit_picks : (place latest box root number : ℕ) (before made : Term)
      → MayCommit is_tree v place latest box root number before made
      → Picks (HoldsVersions is_tree tree_of) is_fixed
      (next_made (field.Cell (target v latest)) number (tree_of before) (tree_of made)) v
      (event.Write v.number place 0 (field.Cell (target v latest)) (field.Cell (target v box)))
  commit_picks place latest box root number before made may s l passes mine happens proper at h =
      commit_stands is_tree tree_of is_record v s l passes mine h at place latest box root number
      before made may (target_of s v.number place) (target_now v s l mine place ∙ may.anchor)

  -- an ordinary store, of the write that is pending
  pub cut_picks : (newer number newest : ℕ) (root top : Term)
      → MayCut v (begun_of v).place newer number newest root top → (begun_of v).f ≡ 2
      → Picks (HoldsVersions is_tree tree_of) is_fixed (link_taken number) v
      (event.Store v.number field.Null)
  cut_picks newer number newest root top may link s l passes mine happens proper at h =
      let begun = begun_of v in
      let stored : (f : ℕ) → Map = (λ f. written_map (boxes_of s l)
      (target_of s v.number begun.place) f (Plain null)) in
      subst (λ (o : Own). HoldsVersions is_tree tree_of (written_map (boxes_of s l)
      (target_of s v.number (pending_or_none o.pending).place) (pending_or_none o.pending).f
      (Plain null)) (slice_set passes v.number (cutting number v.pass))) (sym mine.own)
      (subst (λ (f : ℕ). HoldsVersions is_tree tree_of (stored f)
      (slice_set passes v.number (cutting number v.pass))) (sym link)
      (cut_stands_here is_tree tree_of is_record v s l passes mine h at begun.place newer number
      newest root top may))

  pub exchange_picks : (place newer number newest : ℕ) (root top : Term) (found : Field)
      → MayCut v place newer number newest root top → HasReadLink v number found
      → Picks (HoldsVersions is_tree tree_of) is_fixed (link_taken number) v
      (event.Write v.number place 2 found field.Null)
  exchange_picks place newer number newest root top found may read s l passes mine happens proper
      at h = exchange_stands is_tree tree_of is_record v s l passes mine h at place newer number
      newest root top may found read
