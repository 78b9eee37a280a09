-- Reads of the anchor and of versions: what they tell, and that the rule stands with the pass that
-- is picked.
use Rattle.std.proofs.Common.{◌≡◌, ◌<◌, ◌≤◌, ◌+◌, ◌-◌, ◌⊎◌, ℕ, List, length, Option, Some}
use Rattle.std.proofs.Common.{slice_set, inl, inr, refl, sym, ◌∙◌, ap, subst, arith}
use mathlib.Core.Option.{some}
use lib.ListN.{get_elem?}
use Rattle.atomic_table.proofs.Lists.{set_again}
use Rattle.cell_words.specs.declared.fields.Field.{Field}
use Rattle.cell_words.specs.declared.fields.Field.TheVariants as field
use Rattle.cell_words.specs.Term.{IsFive, Term, null, num, number}
use Rattle.core_machine.specs.declared.events.Event.TheVariants as event
use Rattle.core_machine.specs.declared.events.Found.TheVariants as finds
use Rattle.core_machine.specs.Next.{found_by}
use Rattle.core_machine.specs.State.{State, field_of, target_of}
use Rattle.doc_model.specs.Store.{tree_at}
use Rattle.doc_tree.specs.Tree.{DocTree}
use Rattle.heap_rule.specs.Asks.{target}
use Rattle.heap_rule.specs.Boxes.{boxes_of, payload_of}
use Rattle.heap_rule.specs.Lore.{Lore, Named, Plain, entry_of, five_plain, learned}
use Rattle.heap_rule.specs.Lore.{learned_from, learned_of, plain}
use Rattle.heap_rule.specs.Numbered.{HasNumber}
use Rattle.heap_rule.specs.Steps.{Mine, Picks}
use Rattle.heap_rule.specs.declared.known.Known.{Known}
use Rattle.heap_rule.specs.declared.known.Learned.{Learned}
use Rattle.heap_rule.specs.declared.view.View.{View}
use Rattle.heap_rule.proofs.BoxWords.{box_there, entry_there, told_there}
use Rattle.heap_rule.proofs.Maps.{entry_names, in_map}
use Rattle.heap_rule.proofs.Numbered.{anchor_word, not_anchor}
use Rattle.version_rule.specs.Fits.{HasTree}
use Rattle.version_rule.specs.Knowing.{IsVersionKnown, KnowsVersion, latest_seen, link_cut}
use Rattle.version_rule.specs.Knowing.{link_seen, number_told, root_told, term_or_null, tree_read}
use Rattle.version_rule.specs.Pass.{Pass}
use Rattle.heap_rule.proofs.Entries.{num_inj}
use Rattle.heap_rule.proofs.EntryWords.{learned_record, null_word, number_word, record_word}
use Rattle.version_rule.specs.Told.{TellsLatest, TellsLink, TellsOlder, TellsRoot}
use Rattle.version_rule.specs.Versions.{HoldsVersions, IsLinked, IsVersion, is_fixed}
use Rattle.version_rule.proofs.Passing.{cut_stands, fits_at, in_step_at, numbers_few}
use Rattle.version_rule.proofs.Passing.{read_stands, seen_stands, version_of}
use Rattle.version_rule.proofs.States.{Seen, number_seen}
use Rattle.heap_rule.proofs.Seats.{target_now}
use Rattle.version_rule.proofs.States.{version_seen}

-- what is known of a version is the number and the root that are told

pub number_known : (k : Known) (n : ℕ) (root : Term) → IsVersionKnown k n root → number_told k ≡ n
number_known k n root is =
    ap number_told is.is ∙ ap (λ (o : Option Term). number (term_or_null o)) is.number_is

pub root_known : (k : Known) (n : ℕ) (root : Term) → IsVersionKnown k n root → root_told k ≡ root
root_known k n root is = ap root_told is.is ∙ ap term_or_null is.root_is

-- the box of a version at a state, as the rule and the words have it
pub record Version (is_tree : Term → Type 0) (tree_of : Term → DocTree) (trees : List DocTree)
    (s : State) (l : Lore) (x n : ℕ) : Type 0 where
  pub root : Term
  pub seen : Seen s l x n root
  pub told : IsVersionKnown (learned_of s l x) n root
  pub spells : is_tree root
  pub has : HasTree trees n (tree_of root)

module _ (is_tree : Term → Type 0) (tree_of : Term → DocTree)
    (is_record : (t : Term) → is_tree t → IsFive t) (v : View Pass) (s : State) (l : Lore)
    (passes : List Pass) (mine : Mine is_fixed v s l)
    (h : HoldsVersions is_tree tree_of (boxes_of s l) passes)
    (at : get_elem? passes v.number ≡ some v.pass) where
  pub version_at : (x n : ℕ) → HasNumber (boxes_of s l) x n
      → Version is_tree tree_of h.trees s l x n
  version_at x n has =
      let version = version_of is_tree tree_of (boxes_of s l) passes h x has.box n has.there
      has.number_is in
      let in_is = box_there s l x has.box has.there in
      let other = not_anchor (boxes_of s l) (length h.trees - 1) x n h.latest has in
      let entry = entry_there s l x has.box has.there in
      let same : version.number ≡ n =
      num_inj version.number n (sym version.number_is ∙ has.number_is) in
      let number_is : payload_of s l x 0 ≡ Plain (num n) = entry 0 ∙ has.number_is in
      let root_is : payload_of s l x 1 ≡ Plain version.root = entry 1 ∙ version.root_is in
      record {
        root = version.root;
        seen = record { other = other; in_is = in_is; number_is = number_is; root_is = root_is };
        told = record {
          told = five_plain (payload_of s l x);
          is = told_there s l x has.box has.there is_fixed mine.shown.facts other;
          number_is = ap plain number_is;
          root_is = ap plain root_is;
        };
        spells = version.spells;
        has = record {
          there = subst (λ (m : ℕ). m < length h.trees) same version.made;
          is = sym (version.tree ∙ ap (tree_at h.trees) same);
        };
      }

  -- one that the mutator knows
  pub version_held : (place n : ℕ) (root : Term) → KnowsVersion v place n root
      → Version is_tree tree_of h.trees s l (target_of s v.number place) n
  version_held place n root knows =
      subst (λ (x : ℕ). Version is_tree tree_of h.trees s l x n)
      (sym (target_now v s l mine place))
      (version_at (target v place) n (number_seen s l (target v place) n root
      (version_seen v s l mine place n root knows)))

  -- its root is the one that it knows
  root_held : (place n : ℕ) (root : Term) (knows : KnowsVersion v place n root)
      → (version_held place n root knows).root ≡ root
  root_held place n root knows =
      let seen = version_seen v s l mine place n root knows in
      let version = version_held place n root knows in
      let e : Plain version.root ≡ Plain root = sym version.seen.root_is
      ∙ ap (λ (x : ℕ). payload_of s l x 1) (target_now v s l mine place) ∙ seen.root_is in cc

  -- The anchor.

  module _ (place : ℕ) (anchor : target v place ≡ 0) where
    anchor_field : field_of s (target_of s v.number place) 0 ≡ field.Cell h.latest.cell
    anchor_field = ap (λ (x : ℕ). field_of s x 0) (target_now v s l mine place ∙ anchor)
        ∙ anchor_word s l (length h.trees - 1) h.latest

    latest_version : Version is_tree tree_of h.trees s l h.latest.cell (length h.trees - 1)
    latest_version = version_at h.latest.cell (length h.trees - 1) h.latest.numbered

    latest_known : IsVersionKnown (learned s l (event.Read v.number place 0)).found
        (length h.trees - 1) latest_version.root
    latest_known =
        subst (λ (k : Known). IsVersionKnown k (length h.trees - 1) latest_version.root)
        (sym (ap (learned_from s l) anchor_field)) latest_version.told

    pub tells_latest : TellsLatest is_tree v (learned s l (event.Read v.number place 0))
        (found_by s (event.Read v.number place 0))
    tells_latest = record {
      cell = h.latest.cell;
      found_is = ap finds.Field anchor_field;
      number = length h.trees - 1;
      root = latest_version.root;
      known = latest_known;
      spells = latest_version.spells;
      not_below =
          let fits = fits_at is_tree tree_of (boxes_of s l) passes h v.number v.pass at in
          let lt = fits.seen in omega (arith, lt);
      newest = λ other n root knows.
          let lt = (version_held other n root knows).has.there in omega (arith, lt);
      few =
          let made = h.versions.made in let fewer = h.few in
          let numbers = numbers_few h.keep (boxes_of s l) passes h.in_step in
          omega (arith, made, fewer, numbers);
    }

    latest_stands : HoldsVersions is_tree tree_of (boxes_of s l)
        (slice_set passes v.number
        (latest_seen (learned s l (event.Read v.number place 0))
        (found_by s (event.Read v.number place 0)) v.pass))
    latest_stands =
        let is = number_known (learned s l (event.Read v.number place 0)).found
        (length h.trees - 1) latest_version.root latest_known in
        let made = h.versions.made in
        let lt : length h.trees - 1 < length h.trees = omega (arith, made) in
        seen_stands is_tree tree_of (boxes_of s l) passes h v.number v.pass at _
        (subst (λ (n : ℕ). n < length h.trees) (sym is) lt)

  -- A version that the mutator knows.

  module _ (place n : ℕ) (root : Term) (knows : KnowsVersion v place n root) where
    abbrev pub version : Version is_tree tree_of h.trees s l (target_of s v.number place) n
    version = version_held place n root knows

    pub tells_number : found_by s (event.Read v.number place 0) ≡ finds.Field (field.Num n)
    tells_number = ap finds.Field (number_word is_fixed s l mine.shown.facts
        (target_of s v.number place) 0 n version.seen.in_is.reached version.seen.number_is)

    pub here_known : (f : ℕ)
        → IsVersionKnown (learned s l (event.Read v.number place f)).here n root
    here_known f = subst (λ (t : Term). IsVersionKnown
        (learned_of s l (target_of s v.number place)) n t) (root_held place n root knows)
        version.told

    pub tells_root : TellsRoot is_tree n root (learned s l (event.Read v.number place 1))
        (found_by s (event.Read v.number place 1))
    tells_root =
        let same = root_held place n root knows in
        let spells = subst is_tree same version.spells in
        let word = record_word is_fixed s l mine.shown.facts (target_of s v.number place) 1 root
        (is_record root spells) (version.seen.root_is ∙ ap Plain same) in
        record {
          cell = word.0;
          found_is = ap finds.Field word.1.0;
          known = ap (learned_from s l) word.1.0
              ∙ learned_record is_fixed s l mine.shown.facts word.0 root word.1.1;
          here = here_known 1;
          spells = spells;
        }

    tree_stands : (f : ℕ) → HoldsVersions is_tree tree_of (boxes_of s l)
        (slice_set passes v.number
        (tree_read tree_of (learned s l (event.Read v.number place f))
        (found_by s (event.Read v.number place f)) v.pass))
    tree_stands f =
        let known = here_known f in
        let here = (learned s l (event.Read v.number place f)).here in
        let has : HasTree h.trees n (tree_of root) = subst (λ (t : Term). HasTree h.trees n
        (tree_of t)) (root_held place n root knows) version.has in
        read_stands is_tree tree_of (boxes_of s l) passes h v.number v.pass at (number_told here)
        (tree_of (root_told here))
        (subst (λ (m : ℕ). HasTree h.trees m (tree_of (root_told here)))
        (sym (number_known here n root known))
        (subst (λ (t : Term). HasTree h.trees n (tree_of t)) (sym (root_known here n root known))
        has))

    -- its link

    abbrev x : ℕ
    x = target_of s v.number place

    there : boxes_of s l x ≡ Some (payload_of s l x)
    there = in_map s l x version.seen.in_is

    pub whole : IsVersion is_tree tree_of h.keep h.trees (boxes_of s l) (payload_of s l x)
    whole = version_of is_tree tree_of (boxes_of s l) passes h x (payload_of s l x) n there
        version.seen.number_is

    pub whole_number : whole.number ≡ n
    whole_number = num_inj whole.number n (sym whole.number_is ∙ version.seen.number_is)

    linked_tells : IsLinked (boxes_of s l) whole.number (payload_of s l x 2)
        → TellsOlder is_tree n (learned s l (event.Read v.number place 2))
        (found_by s (event.Read v.number place 2))
    linked_tells link =
        let word : field_of s x 2 ≡ field.Cell link.cell =
        entry_names l.terms (field_of s x 2) link.cell link.names in
        let older = version_at link.cell link.older link.version in
        record {
          cell = link.cell;
          found_is = ap finds.Field word;
          older = link.older;
          before = sym whole_number ∙ link.before;
          root = older.root;
          known = subst (λ (k : Known). IsVersionKnown k link.older older.root)
              (sym (ap (learned_from s l) word)) older.told;
          spells = older.spells;
        }

    pub tells_link : TellsLink is_tree n (learned s l (event.Read v.number place 2))
        (found_by s (event.Read v.number place 2))
    tells_link = elim whole.link [
      | inl cut ↦ inl (ap finds.Field (null_word is_fixed s l mine.shown.facts x 2
          version.seen.in_is.reached cut.none))
      | inr link ↦ inr (linked_tells link)
    ]

    -- where the link is null, it was due
    pub due : payload_of s l x 2 ≡ Plain null → (n ≡ 0) ⊎ (n + h.keep ≤ length h.trees)
    due none = elim whole.link [
      | inl cut ↦ elim cut.due [
        | inl first ↦ inl (sym whole_number ∙ first)
        | inr le ↦ inr (subst (λ (m : ℕ). m + h.keep ≤ length h.trees) whole_number le)
      ]
      | inr link ↦ absurd (let e : Named link.cell ≡ Plain null = sym link.names ∙ none in cc)
    ]

    same_stands : HoldsVersions is_tree tree_of (boxes_of s l)
        (slice_set passes v.number v.pass)
    same_stands = subst (λ (ps : List Pass). HoldsVersions is_tree tree_of (boxes_of s l) ps)
        (sym (set_again passes v.number v.pass at)) h

    cut_newer : 1 ≤ n → (m : ℕ) → m ≡ n → (n ≡ 0) ⊎ (n + h.keep ≤ length h.trees)
        → m + v.pass.keep - 1 < length h.trees
    cut_newer later m is (inl first) = absurd (omega (arith, later, first))
    cut_newer later m is (inr le) =
        let step = in_step_at is_tree tree_of (boxes_of s l) passes h v.number v.pass at in
        let keep = step.keeps in let least = h.keeps_some in
        omega (arith, is, le, keep, later, least)

    link_seen_stands : 1 ≤ n → (tells : Learned) → IsVersionKnown tells.here n root
        → (value : Field) → field_of s x 2 ≡ value
        → HoldsVersions is_tree tree_of (boxes_of s l)
        (slice_set passes v.number (link_seen tells (finds.Field value) v.pass))
    link_seen_stands later tells known field.Null is =
        seen_stands is_tree tree_of (boxes_of s l) passes h v.number v.pass at
        (number_told tells.here + v.pass.keep - 1)
        (cut_newer later (number_told tells.here) (number_known tells.here n root known)
        (due (ap (entry_of l.terms) is)))
    link_seen_stands later tells known (field.Num m) is = same_stands
    link_seen_stands later tells known (field.Cell c) is = same_stands

    link_cut_stands : (tells : Learned) → IsVersionKnown tells.here n root
        → (value : Field) → field_of s x 2 ≡ value
        → HoldsVersions is_tree tree_of (boxes_of s l)
        (slice_set passes v.number (link_cut tells (finds.Field value) v.pass))
    link_cut_stands tells known field.Null is =
        cut_stands is_tree tree_of (boxes_of s l) passes h v.number v.pass at x
        (payload_of s l x) (number_told tells.here) there
        (version.seen.number_is ∙ ap (λ (m : ℕ). Plain (num m))
        (sym (number_known tells.here n root known)))
        (ap (entry_of l.terms) is)
    link_cut_stands tells known (field.Num m) is = same_stands
    link_cut_stands tells known (field.Cell c) is = same_stands

-- In the shape that a call of a seat asks for.

module _ (is_tree : Term → Type 0) (tree_of : Term → DocTree)
    (is_record : (t : Term) → is_tree t → IsFive t) (v : View Pass) (place : ℕ) where
  pub latest_picks : target v place ≡ 0
      → Picks (HoldsVersions is_tree tree_of) is_fixed latest_seen v (event.Read v.number place 0)
  latest_picks anchor s l passes mine happens proper at h =
      latest_stands is_tree tree_of is_record v s l passes mine h at place anchor

  module _ (n : ℕ) (root : Term) (knows : KnowsVersion v place n root) where
    pub tree_picks : (f : ℕ)
        → Picks (HoldsVersions is_tree tree_of) is_fixed (tree_read tree_of) v
        (event.Read v.number place f)
    tree_picks f s l passes mine happens proper at h =
        tree_stands is_tree tree_of is_record v s l passes mine h at place n root knows f

    pub link_seen_picks : 1 ≤ n
        → Picks (HoldsVersions is_tree tree_of) is_fixed link_seen v (event.Read v.number place 2)
    link_seen_picks later s l passes mine happens proper at h =
        link_seen_stands is_tree tree_of is_record v s l passes mine h at place n root knows later
        (learned s l (event.Read v.number place 2))
        (here_known is_tree tree_of is_record v s l passes mine h at place n root knows 2)
        (field_of s (target_of s v.number place) 2) refl

    pub link_cut_picks :
        Picks (HoldsVersions is_tree tree_of) is_fixed link_cut v (event.Read v.number place 2)
    link_cut_picks s l passes mine happens proper at h =
        link_cut_stands is_tree tree_of is_record v s l passes mine h at place n root knows
        (learned s l (event.Read v.number place 2))
        (here_known is_tree tree_of is_record v s l passes mine h at place n root knows 2)
        (field_of s (target_of s v.number place) 2) refl
