-- The commit after its claim: the look at the latest version, the box, and the write.
use Rattle.std.proofs.Common.{◌≡◌, ◌≢◌, ◌<◌, ◌≤◌, ◌+◌, ◌-◌, ◌==◌, ℕ, Bool, true, false, List, []}
use Rattle.std.proofs.Common.{◌∷◌, ◌++◌, length, max, refl, sym, ◌∙◌, ap, subst, arith}
use Rattle.std.proofs.lemmas.Bool.{eq-eqb}
use Rattle.std.proofs.lemmas.List.{append_assoc, append-nil, get_or_push, length_push}
use Rattle.cell_words.specs.declared.fields.Field.{Field}
use Rattle.cell_words.specs.declared.fields.Field.TheVariants as field
use Rattle.cell_words.specs.Term.{IsFive, Term}
use Rattle.run_limits.specs.declared.TheConstants.{MOST_COMMANDS}
use Rattle.core_machine.specs.declared.events.Found.{Found}
use Rattle.core_machine.specs.declared.events.Found.TheVariants as finds
use Rattle.core_machine.specs.Words.{same_field}
use Rattle.doc_tree.specs.Tree.{DocTree}
use Rattle.dlg_core.proofs.Truths.{or_later}
use Rattle.heap_rule.specs.declared.known.Known.{Known}
use Rattle.heap_rule.specs.declared.known.Known.TheVariants as knows
use Rattle.heap_rule.specs.declared.known.Learned.{Learned}
use Rattle.heap_rule.specs.Asks.{IsBox, is_sealed, known_of, knows_sealed, target}
use Rattle.heap_rule.specs.Lore.{five_nulls, known_at, was_made}
use Rattle.heap_rule.specs.Steps.{Picks}
use Rattle.heap_rule.proofs.Reading.{cell_there}
use Rattle.mutator_events.specs.declared.values.Value.TheVariants as values
use Rattle.mutator_events.specs.Events.{AtEvent}
use Rattle.mutator_events.specs.Values.{field_at}
use Rattle.mutator_seat.specs.Bound.{Bound, held_cells}
use Rattle.mutator_seat.specs.Stretches.{Kept}
use Rattle.mutator_seat.specs.Writes.{LookAndMarks, MayUpdate, PicksUpdate, Updated, write_of}
use Rattle.mutator_seat.proofs.Writes.{cell_same, many_same}
use Rattle.version_rule.specs.Knowing.{IsVersionKnown, KnowsVersion, MayCommit, made_or_seen}
use Rattle.version_rule.specs.Knowing.{next_made, number_told}
use Rattle.version_rule.specs.Pass.{Pass, committed, seeing}
use Rattle.version_rule.specs.Versions.{HoldsVersions, is_fixed}
use Rattle.version_rule.proofs.Reading.{number_known, root_known}
use Rattle.version_rule.proofs.Writing.{commit_picks}
use Rattle.version_rule.specs.declared.held.HeldVersion.{HeldVersion}
use Rattle.held_places.specs.Calls.{Goes, IsCoherent, IsIn}
use Rattle.version_store.specs.Calls.{StaysKnown, StillKnown}
use Rattle.held_places.specs.Calls.{known_fresh, settled}
use Rattle.version_store.specs.Commits.{Committed, FindsNewer, write_over}
use Rattle.version_store.specs.Held.{GivesLatest, IsHeld, root_at, term_at, term_told}
use Rattle.version_store.specs.Makes.{Behind, IsClaimed, IsSpared, Makes, MayMake}
use Rattle.held_places.proofs.Going.{calm_goes, goes_late, goes_none, goes_on, goes_then}
use Rattle.held_places.proofs.Going.{in_still}
use Rattle.held_places.proofs.Going.{known_below, known_then, many_cells, many_held}
use Rattle.held_places.proofs.Going.{settled_lasts, still_on, target_still}
use Rattle.version_store.proofs.Remaining.{version_known}
use Rattle.held_places.proofs.Knowns.{fresh_apart, sealed_at}
use Rattle.held_places.proofs.Writing.{wrote_goes, wrote_known}

-- what a record is known to be stays known
pub record_still : (j k : Known) (t : Term) → j ≡ knows.Record t → StillKnown j k
    → k ≡ knows.Record t
record_still j k t is still = subst (λ (x : Known). StillKnown x k) is still

-- a claimed cell is raw, where as much is known as is held
pub claimed_raw : (a : Bound Pass) (fresh latest tree : ℕ) → IsClaimed a fresh latest tree
    → IsCoherent a.seat.me → known_of a.seat.me fresh ≡ knows.Raw five_nulls
claimed_raw a fresh latest tree is coherent =
    let many = coherent.many in
    let last = is.last in
    let longer = ap (λ (ks : List Known). length ks) is.known_is
    ∙ length_push is.others (knows.Raw five_nulls) in
    ap (λ (ks : List Known). known_at ks fresh) is.known_is
    ∙ get_or_push is.others (knows.Raw five_nulls) knows.Nothing fresh
    (let e : length is.others ≡ fresh = omega (arith, many, last, longer) in e)

pub boxed_settled : (k : Known) (number : ℕ) (root : Term) → IsVersionKnown k number root
    → settled k ≡ true
boxed_settled k number root is = ap settled is.is

module _ (a b : Bound Pass) (v newest : HeldVersion) (fresh tree : ℕ)
    (claimed : IsClaimed a fresh v.place tree) (held : IsHeld a v)
    (latest : GivesLatest a b newest) (coherent : IsCoherent a.seat.me) where
  first_known : StaysKnown (fresh + 1) a b
  first_known = subst (λ (n : ℕ). StaysKnown n a b) claimed.last latest.holds.known

  first_target : (place : ℕ) → place < fresh + 1
      → target b.seat.me place ≡ target a.seat.me place
  first_target place lt = target_still a b (latest.cell ∷ []) latest.holds.held place
      (let last = claimed.last in omega (arith, lt, last))

  pub apart : (place : ℕ) → place < fresh → target b.seat.me place ≢ target b.seat.me fresh
  apart place lt same =
      claimed.apart place lt
      (sym (first_target place (omega (arith, lt))) ∙ same ∙ first_target fresh (omega arith))

  -- a fresh cell is another than a settled one
  pub fresh_not : (place other : ℕ) → place < fresh → other < fresh
      → known_fresh (known_of a.seat.me place) ≡ true
      → settled (known_of a.seat.me other) ≡ true → target a.seat.me place ≢ target a.seat.me other
  fresh_not place other lt before is other_is same =
      let last = claimed.last in
      fresh_apart (known_of a.seat.me place) (known_of a.seat.me other) is other_is
      (coherent.kinds place other (omega (arith, lt, last)) (omega (arith, before, last)) same)

  -- making the box spares what is known at every place before it
  pub spared : (place : ℕ) → place < fresh → settled (known_of a.seat.me v.place) ≡ true
      → settled (known_of a.seat.me tree) ≡ true
      → known_fresh (known_of b.seat.me place) ≡ known_fresh (known_of a.seat.me place)
      → IsSpared b fresh v.place tree place
  spared place lt version_is tree_is same = record {
    not_claimed = apart place lt;
    not_latest = λ is on.
        fresh_not place v.place lt claimed.latest_before (sym same ∙ is) version_is
        (sym (first_target place (omega (arith, lt))) ∙ on
        ∙ first_target v.place (let before = claimed.latest_before in omega (arith, before)));
    not_tree = λ is on.
        fresh_not place tree lt claimed.tree_before (sym same ∙ is) tree_is
        (sym (first_target place (omega (arith, lt))) ∙ on
        ∙ first_target tree (let before = claimed.tree_before in omega (arith, before)));
  }

  pub behind_first : Behind fresh a b
  behind_first = record {
    cells = latest.cell ∷ [];
    held = latest.holds.held;
    known = known_below is_fixed (fresh + 1) fresh a b (omega arith) first_known;
    claims = latest.claims;
  }

  pub newer_first : newest.number ≢ v.number → FindsNewer a b v newest.number
  newer_first other = record {
    cell = latest.cell;
    goes = latest.goes;
    is_newer =
        let le = latest.newest v.place v.number held.root held.knows in omega (arith, le, other);
    not_below = latest.not_below;
    pass = latest.pass;
  }

  pub may_make : IsIn a → known_of a.seat.me tree ≡ knows.Record (term_at a tree)
      → length b.seat.me.known ≡ length b.seat.me.own.held → MayMake b fresh v.place tree
  may_make is record_is many =
      let first : settled (known_of a.seat.me v.place) ≡ true =
      boxed_settled (known_of a.seat.me v.place) v.number held.root held.knows.known in
      let second : settled (known_of a.seat.me tree) ≡ true = ap settled record_is in
      let before = claimed.latest_before in
      let other = claimed.tree_before in
      record {
        inside = latest.goes.inside ∙ is.inside;
        there =
            let longer = many_held a b (latest.cell ∷ []) latest.holds.held in
            let last = claimed.last in omega (arith, longer, last);
        latest_before = before;
        tree_before = other;
        many = many;
        raw = subst (λ (k : Known). StillKnown k (known_of b.seat.me fresh))
            (claimed_raw a fresh v.place tree claimed coherent)
            (first_known fresh (omega arith));
        latest_is = settled_lasts is_fixed (known_of a.seat.me v.place)
            (known_of b.seat.me v.place) first
            (first_known v.place (omega (arith, before)));
        tree_is = settled_lasts is_fixed (known_of a.seat.me tree) (known_of b.seat.me tree) second
            (first_known tree (omega (arith, other)));
        latest_apart = apart v.place before;
        tree_apart = apart tree other;
      }

-- The pass that is picked at the write.
abbrev pub picks_made : (Term → DocTree) → Bound Pass → ℕ → ℕ → Learned → Found → Pass → Pass
picks_made tree_of m latest tree =
    next_made (field.Cell (target m.seat.me latest)) (number_told (known_of m.seat.me latest) + 1)
    (tree_of (root_at m latest)) (tree_of (term_at m tree))

box_at_zero : (c : ℕ) (k : Known) → c ≡ 0 → IsBox c k
box_at_zero c knows.Nothing is = is
box_at_zero c (knows.Raw fields) is = is
box_at_zero c (knows.Fresh fields) is = tt
box_at_zero c (knows.Record t) is = is
box_at_zero c (knows.Boxed told) is = tt

-- After the box.
module _ (is_tree : Term → Type 0) (tree_of : Term → DocTree)
    (is_record : (t : Term) → is_tree t → IsFive t) (a b c : Bound Pass) (v newest : HeldVersion)
    (fresh tree : ℕ) (is : IsIn a) (claimed : IsClaimed a fresh v.place tree) (held : IsHeld a v)
    (latest : GivesLatest a b newest) (coherent : IsCoherent a.seat.me)
    (record_is : known_of a.seat.me tree ≡ knows.Record (term_at a tree))
    (made : Makes b c fresh (v.number + 1) v.place tree) where
  long : length c.seat.me.own.held ≡ fresh + 2
  long =
      let same = many_same c.seat.me.own.held b.seat.me.own.held made.held in
      let longer = many_held a b (latest.cell ∷ []) latest.holds.held in
      let last = claimed.last in omega (arith, same, longer, last)

  in_first : IsIn b
  in_first = in_still a b (latest.cell ∷ []) _ is latest.goes latest.holds.held

  made_held : held_cells c ≡ held_cells b ++ []
  made_held = made.held ∙ sym (append-nil (held_cells b))

  pub in_made : IsIn c
  in_made = in_still b c [] [] in_first made.goes made_held

  pub made_target : (place : ℕ) → target c.seat.me place ≡ target b.seat.me place
  made_target place = cell_same c.seat.me.own.held b.seat.me.own.held made.held place

  pub known_made : StaysKnown fresh a c
  known_made place lt =
      still_on is_fixed (known_of a.seat.me place) (known_of b.seat.me place)
      (known_of c.seat.me place)
      (first_known a b v newest fresh tree claimed held latest coherent place (omega (arith, lt)))
      (λ same. made.known place lt
      (spared a b v newest fresh tree claimed held latest coherent place lt
      (boxed_settled (known_of a.seat.me v.place) v.number held.root held.knows.known)
      (ap settled record_is) same))

  pub still_version : KnowsVersion c.seat.me v.place v.number held.root
  still_version = record {
    there = let before = claimed.latest_before in omega (arith, before, long);
    known = version_known (known_of a.seat.me v.place) (known_of c.seat.me v.place) v.number
        held.root
        (known_made v.place claimed.latest_before)
        held.knows.known;
  }

  pub still_record : known_of c.seat.me tree ≡ knows.Record (term_at a tree)
  still_record = record_still (known_of a.seat.me tree) (known_of c.seat.me tree)
      (term_at a tree) record_is
      (known_made tree claimed.tree_before)

  abbrev from : ℕ
  from = target c.seat.me v.place

  abbrev box : ℕ
  box = target c.seat.me fresh

  pub may_publish : MayUpdate is_fixed c.seat.me 0 0 (values.Held v.place) (values.Held fresh)
  may_publish = record {
    inside = in_made.inside;
    there = in_made.some;
    payload = omega arith;
    box = box_at_zero (target c.seat.me 0) (known_of c.seat.me 0) in_made.anchor;
    old_named = let before = claimed.latest_before in omega (arith, before, long);
    new_named = omega (arith, long);
    sealed = or_later (box == 0) (knows_sealed (held_cells c) c.seat.me.known box)
        (sealed_at (held_cells c) c.seat.me.known fresh box
        (let many = many_cells c in omega (arith, many, long))
        (cell_there c.seat.me.own.held fresh) (ap is_sealed made.box));
    spares = λ fixed. in_made.anchor;
  }

  number_is : number_told (known_of c.seat.me v.place) ≡ v.number
  number_is = number_known (known_of c.seat.me v.place) v.number held.root still_version.known

  root_is : root_at c v.place ≡ root_at a v.place
  root_is =
      root_known (known_of c.seat.me v.place) v.number held.root still_version.known
      ∙ sym (root_known (known_of a.seat.me v.place) v.number held.root held.knows.known)

  term_is : term_at c tree ≡ term_at a tree
  term_is = ap term_told still_record

  pub may_commit : is_tree (term_at a tree) → length c.seat.me.pass.commits < MOST_COMMANDS
      → (at : Bound Pass) → Kept c at
      → MayCommit is_tree at.seat.me 0 v.place fresh tree
      (number_told (known_of c.seat.me v.place) + 1) (root_at c v.place) (term_at c tree)
  may_commit spells few at kept =
      let same = cell_same at.seat.me.own.held c.seat.me.own.held kept.held in
      let many = many_same at.seat.me.own.held c.seat.me.own.held kept.held in
      let known : (place : ℕ) → known_of at.seat.me place ≡ known_of c.seat.me place =
      (λ place. ap (λ (ks : List Known). known_at ks place) kept.known) in
      let moved : (place : ℕ) → target b.seat.me place ≡ target at.seat.me place =
      (λ place. sym (made_target place) ∙ sym (same place)) in
      record {
        anchor = same 0 ∙ in_made.anchor;
        held = record {
          there = let before = claimed.latest_before in omega (arith, before, long, many);
          known = subst (λ (k : Known). IsVersionKnown k
              (number_told (known_of c.seat.me v.place) + 1 - 1) (root_at c v.place))
              (sym (known v.place))
              (subst (λ (n : ℕ). IsVersionKnown (known_of c.seat.me v.place) n (root_at c v.place))
              (let e : v.number ≡ number_told (known_of c.seat.me v.place) + 1 - 1 =
              omega (arith, number_is) in e)
              (subst (λ (t : Term). IsVersionKnown (known_of c.seat.me v.place) v.number t)
              (sym (root_known (known_of c.seat.me v.place) v.number held.root
              still_version.known)) still_version.known));
        };
        later = omega arith;
        box_there = omega (arith, long, many);
        box_is = known fresh ∙ made.box
            ∙ ap (λ (n : ℕ). knows.Fresh (field.Num n ∷ field.Cell (target b.seat.me tree) ∷
            field.Cell (target b.seat.me v.place) ∷ field.Null ∷ field.Null ∷ []))
            (ap (λ (n : ℕ). n + 1) (sym number_is))
            ∙ ap (λ (x : ℕ). knows.Fresh (field.Num (number_told (known_of c.seat.me v.place) + 1) ∷
            field.Cell x ∷ field.Cell (target b.seat.me v.place) ∷ field.Null ∷ field.Null ∷ []))
            (moved tree)
            ∙ ap (λ (x : ℕ). knows.Fresh (field.Num (number_told (known_of c.seat.me v.place) + 1) ∷
            field.Cell (target at.seat.me tree) ∷ field.Cell x ∷ field.Null ∷ field.Null ∷ []))
            (moved v.place);
        root_there = let before = claimed.tree_before in omega (arith, before, long, many);
        root_is = known tree ∙ still_record ∙ ap knows.Record (sym term_is);
        spells = subst is_tree (sym term_is) spells;
        few = subst (λ (p : Pass). length p.commits < MOST_COMMANDS) (sym kept.pass) few;
      }

  pub may_pick : is_tree (term_at a tree) → length c.seat.me.pass.commits < MOST_COMMANDS
      → PicksUpdate (HoldsVersions is_tree tree_of) is_fixed (picks_made tree_of c v.place tree) c 0
      0 (values.Held v.place) (values.Held fresh)
  may_pick spells few at kept same =
      subst (λ (x : ℕ). Picks (HoldsVersions is_tree tree_of) is_fixed
      (next_made (field.Cell x) (number_told (known_of c.seat.me v.place) + 1)
      (tree_of (root_at c v.place)) (tree_of (term_at c tree))) at.seat.me
      (write_of at 0 0 (values.Held v.place) (values.Held fresh)))
      (cell_same at.seat.me.own.held c.seat.me.own.held kept.held v.place)
      (commit_picks is_tree tree_of is_record at.seat.me 0 v.place fresh tree
      (number_told (known_of c.seat.me v.place) + 1) (root_at c v.place) (term_at c tree)
      (may_commit spells few at kept))

  same_target : (place : ℕ) → place < fresh + 1 → target c.seat.me place ≡ target a.seat.me place
  same_target place lt = made_target place
      ∙ first_target a b v newest fresh tree claimed held latest coherent place lt

  -- a fresh cell is not the anchor
  not_anchor : (place : ℕ) → place < fresh → known_fresh (known_of a.seat.me place) ≡ true
      → target c.seat.me place ≢ target c.seat.me 0
  not_anchor place lt is on =
      let last = claimed.last in
      let none : false ≡ true =
      sym (coherent.anchor place (omega (arith, lt, last))
      (sym (same_target place (omega (arith, lt))) ∙ on ∙ in_made.anchor)) ∙ is in absurd cc

  -- nor is a cell before it the new box
  not_box : (place : ℕ) → place < fresh → (other : ℕ)
      → field_at c.seat.me.own.held (values.Held fresh) ≡ field.Cell other
      → target c.seat.me place ≢ other
  not_box place lt other named on =
      let e : box ≡ other = cc in
      claimed.apart place lt
      (sym (same_target place (omega (arith, lt))) ∙ on ∙ sym e ∙ same_target fresh (omega arith))

  -- After the write.
  module _ (d : Bound Pass) (same : newest.number ≡ v.number) (found : Field)
      (wrote : Updated (HoldsVersions is_tree tree_of) is_fixed
      (picks_made tree_of c v.place tree) c 0 0 (values.Held v.place) (values.Held fresh) found d)
    where
      pub behind_write : Behind fresh a d
      behind_write = record {
        cells = latest.cell ∷ [];
        held = wrote.held ∙ made.held ∙ latest.holds.held;
        known = λ place lt.
            still_on is_fixed (known_of a.seat.me place) (known_of c.seat.me place)
            (known_of d.seat.me place) (known_made place lt)
            (λ alike. wrote_known is_fixed (HoldsVersions is_tree tree_of)
            (picks_made tree_of c v.place tree) c d 0 0 (values.Held v.place) (values.Held fresh)
            found wrote made.many place
            (omega (arith, lt, long)) (λ is. not_anchor place lt (sym alike ∙ is))
            (λ is other named on. not_box place lt other named on));
        claims = wrote.places.claims ∙ made.claims ∙ latest.claims;
      }

      goes_all : Goes [] a d
      goes_all = goes_on (goes_none a) (goes_then latest.goes (goes_then made.goes
          (wrote_goes is_fixed (HoldsVersions is_tree tree_of)
          (picks_made tree_of c v.place tree) c d 0 0
          (values.Held v.place) (values.Held fresh) found wrote)))

      pub in_write : IsIn d
      unfolding behind_write
      in_write = in_still a d (latest.cell ∷ []) [] is goes_all behind_write.held

      pub room_write : length a.seat.me.own.held + 8 ≤ a.seat.me.room
          → length d.seat.me.own.held + 1 < d.seat.me.room
      unfolding behind_write
      room_write room =
          let more = many_held a d (latest.cell ∷ []) behind_write.held in
          let same_room = goes_all.room in omega (arith, more, same_room, room)

      seen_pass : c.seat.me.pass ≡ seeing v.number a.seat.me.pass
      seen_pass = made.pass ∙ latest.pass ∙ ap (λ (n : ℕ). seeing n a.seat.me.pass) same

      -- The write was not made: another mutator has made the next version.
      module _ (other : same_field found (field.Cell from) ≡ false) where
        lost_pass : d.seat.me.pass ≡ seeing (v.number + 1) (seeing v.number a.seat.me.pass)
        lost_pass =
            wrote.pass
            ∙ ap (λ (is : Bool). made_or_seen is (number_told (known_of c.seat.me v.place) + 1)
            (tree_of (root_at c v.place)) (tree_of (term_at c tree)) c.seat.me.pass) other
            ∙ ap (λ (n : ℕ). seeing (n + 1) c.seat.me.pass) number_is
            ∙ ap (λ (p : Pass). seeing (v.number + 1) p) seen_pass

        module _ (e : Bound Pass) (newer : HeldVersion) (last : GivesLatest d e newer) where
          above : v.number + 1 ≤ newer.number
          above =
              let le = last.not_below in
              let is = ap (λ (p : Pass). p.seen) lost_pass in omega (arith, le, is)

          pub newer_last : FindsNewer a e v newer.number
          newer_last = record {
            cell = last.cell;
            goes = goes_late goes_all last.goes;
            is_newer = let up = above in omega (arith, up);
            not_below =
                let le = last.not_below in
                let is = ap (λ (p : Pass). p.seen) lost_pass in omega (arith, le, is);
            pass = last.pass ∙ ap (λ (p : Pass). seeing newer.number p) lost_pass
                ∙ ap (λ (n : ℕ). record a.seat.me.pass { seen = n })
                (let up = above in
                let e : max (max (max a.seat.me.pass.seen v.number) (v.number + 1)) newer.number
                ≡ max a.seat.me.pass.seen newer.number = omega (arith, up) in e);
          }

          pub behind_last : Behind fresh a e
          unfolding behind_write
          behind_last = record {
            cells = latest.cell ∷ last.cell ∷ [];
            held = last.holds.held ∙ ap (λ (cs : List ℕ). cs ++ last.cell ∷ []) behind_write.held
                ∙ append_assoc (held_cells a) (latest.cell ∷ []) (last.cell ∷ []);
            known = known_then is_fixed fresh a d e behind_write.known
                (known_below is_fixed (length d.seat.me.own.held) fresh d e
                (let more = many_held a d (latest.cell ∷ []) behind_write.held in
                let all = claimed.last in omega (arith, more, all)) last.holds.known);
            claims = last.claims ∙ behind_write.claims;
          }

  -- The write was made.
  module _ (d : Bound Pass) (same : newest.number ≡ v.number)
      (wrote : Updated (HoldsVersions is_tree tree_of) is_fixed
      (picks_made tree_of c v.place tree) c 0 0 (values.Held v.place) (values.Held fresh)
      (field.Cell from) d) where
    abbrev at : Bound Pass
    at = wrote.at

    goes_at : Goes [] a at
    goes_at = goes_on (goes_none a) (goes_then latest.goes (goes_then made.goes
        (calm_goes (LookAndMarks c.seat.me.number c.seat.me.presence.status (values.Held v.place)
        (values.Held fresh)) c at wrote.calm)))

    from_is : target at.seat.me v.place ≡ from
    from_is = cell_same at.seat.me.own.held c.seat.me.own.held wrote.calm.kept.held v.place

    picked_is : picks_made tree_of c v.place tree
        ≡ next_made (field.Cell (target at.seat.me v.place)) (v.number + 1)
        (tree_of (root_at a v.place)) (tree_of (term_at a tree))
    picked_is =
        ap (λ (x : ℕ). next_made (field.Cell x) (number_told (known_of c.seat.me v.place) + 1)
        (tree_of (root_at c v.place)) (tree_of (term_at c tree))) (sym from_is)
        ∙ ap (λ (n : ℕ). next_made (field.Cell (target at.seat.me v.place)) (n + 1)
        (tree_of (root_at c v.place)) (tree_of (term_at c tree))) number_is
        ∙ ap (λ (t : Term). next_made (field.Cell (target at.seat.me v.place)) (v.number + 1)
        (tree_of t) (tree_of (term_at c tree))) root_is
        ∙ ap (λ (t : Term). next_made (field.Cell (target at.seat.me v.place)) (v.number + 1)
        (tree_of (root_at a v.place)) (tree_of t)) term_is

    made_pass : c.seat.me.pass ≡ seeing v.number a.seat.me.pass
    made_pass = made.pass ∙ latest.pass ∙ ap (λ (n : ℕ). seeing n a.seat.me.pass) same

    pub committed_is : Committed is_tree tree_of a d v tree
    committed_is = record {
      goes = goes_then goes_at (Rattle.held_places.proofs.Going.goes_told at d []
          (write_of at 0 0 (values.Held v.place) (values.Held fresh))
          (finds.Field (field.Cell from))
          (Rattle.heap_rule.specs.Lore.learned wrote.event.core wrote.event.lore
          (write_of at 0 0 (values.Held v.place) (values.Held fresh)))
          (picks_made tree_of c v.place tree
          (Rattle.heap_rule.specs.Lore.learned wrote.event.core wrote.event.lore
          (write_of at 0 0 (values.Held v.place) (values.Held fresh)))
          (finds.Field (field.Cell from)) at.seat.me.pass)
          (wrote.heap ∙ sym wrote.calm.kept.heap) (wrote.table ∙ sym wrote.calm.kept.table)
          wrote.event.new refl Rattle.trails.specs.Asks.nothing);
      not_below = let le = latest.not_below in omega (arith, le, same);
      box = target at.seat.me fresh;
      at = at.seat.me;
      before = goes_at.added;
      trail_before = goes_at.trail;
      pass_before = wrote.calm.kept.pass ∙ made_pass;
      latest_is = from_is ∙ made_target v.place
          ∙ first_target a b v newest fresh tree claimed held latest coherent v.place
          (let lt = claimed.latest_before in omega (arith, lt));
      behind = d.seat.me;
      step = subst (λ (x : ℕ). AtEvent (HoldsVersions is_tree tree_of) is_fixed at.seat.me
          (write_over at.seat.me v.place (target at.seat.me fresh))
          (next_made (field.Cell (target at.seat.me v.place)) (v.number + 1)
          (tree_of (root_at a v.place)) (tree_of (term_at a tree)))
          (finds.Field (field.Cell x)) d.seat.me) (sym from_is)
          (subst (λ (next : Learned → Found → Pass → Pass).
          AtEvent (HoldsVersions is_tree tree_of) is_fixed at.seat.me
          (write_over at.seat.me v.place (target at.seat.me fresh)) next
          (finds.Field (field.Cell from)) d.seat.me) picked_is wrote.event);
      after = [];
      trail_after = sym (append-nil d.seat.me.trail);
      pass = wrote.pass
          ∙ ap (λ (is : Bool). made_or_seen is (number_told (known_of c.seat.me v.place) + 1)
          (tree_of (root_at c v.place)) (tree_of (term_at c tree)) c.seat.me.pass)
          (eq-eqb from from refl)
          ∙ ap (λ (n : ℕ). committed (n + 1) (tree_of (root_at c v.place))
          (tree_of (term_at c tree)) c.seat.me.pass) number_is
          ∙ ap (λ (t : Term). committed (v.number + 1) (tree_of t) (tree_of (term_at c tree))
          c.seat.me.pass) root_is
          ∙ ap (λ (t : Term). committed (v.number + 1) (tree_of (root_at a v.place)) (tree_of t)
          c.seat.me.pass) term_is
          ∙ ap (λ (p : Pass). committed (v.number + 1) (tree_of (root_at a v.place))
          (tree_of (term_at a tree)) p) made_pass;
    }
