-- The commit with its claim before it and the cut of its places after it.
use Rattle.std.proofs.Common.{◌≡◌, ◌≤◌, ◌+◌, ℕ, List, [], ◌∷◌, ◌++◌}
use Rattle.std.proofs.Common.{length}
use Rattle.std.proofs.Common.{sym, ◌∙◌, ap, subst, arith}
use Rattle.std.proofs.lemmas.List.{append_assoc}
use Rattle.cell_words.specs.declared.fields.Field.TheVariants as field
use Rattle.cell_words.specs.Term.{Term}
use Rattle.core_machine.specs.declared.events.Event.TheVariants as event
use Rattle.core_machine.specs.declared.events.Found.{Found}
use Rattle.core_machine.specs.declared.events.Found.TheVariants as finds
use Rattle.core_machine.specs.declared.events.Taken.{Taken}
use Rattle.doc_tree.specs.Tree.{DocTree}
use Rattle.heap_rule.specs.declared.known.Known.TheVariants as knows
use Rattle.heap_rule.specs.Asks.{known_of, target}
use Rattle.mutator_events.specs.Events.{AtEvent}
use Rattle.mutator_seat.specs.Bound.{Bound, held_cells, takes}
use Rattle.mutator_seat.specs.Claims.{Claimed}
use Rattle.version_rule.specs.Knowing.{next_made}
use Rattle.version_rule.specs.Pass.{Pass, committed, seeing}
use Rattle.version_rule.specs.Versions.{HoldsVersions, is_fixed}
use Rattle.version_rule.proofs.Reading.{root_known}
use Rattle.version_rule.specs.declared.held.HeldVersion.{HeldVersion}
use Rattle.version_store.specs.Calls.{Holds, StaysKnown}
use Rattle.version_store.specs.Commits.{Committed, FindsNewer, write_over}
use Rattle.version_store.specs.Held.{IsHeld, IsRecord, root_at, term_at, term_told}
use Rattle.version_store.specs.Makes.{Behind, IsClaimed}
use Rattle.held_places.proofs.Claiming.{claimed_apart, claimed_claims, claimed_goes, claimed_known}
use Rattle.held_places.proofs.Claiming.{claimed_longer, claimed_pass}
use Rattle.held_places.proofs.Going.{cut_claims, cut_goes, cut_held, cut_known}
use Rattle.held_places.proofs.Going.{cut_pass, goes_late, goes_on, goes_then}
use Rattle.held_places.proofs.Going.{known_then, many_held, target_still}
use Rattle.version_store.proofs.Remaining.{version_still}
use Rattle.version_store.proofs.Putting.{record_still}

module _ (a b : Bound Pass) (fresh : ℕ) (got : Claimed a fresh b) where
  pub claimed_held : (v : HeldVersion) → IsHeld a v → IsHeld b v
  claimed_held v is = record {
    root = is.root;
    knows = version_still (length a.seat.me.own.held) (got.cell ∷ []) a b
        (claimed_known a b fresh got is_fixed) got.held v.place v.number is.root is.knows.there
        is.knows;
  }

  known_record : (tree : ℕ) → IsRecord a tree
      → known_of b.seat.me tree ≡ knows.Record (term_at a tree)
  known_record tree is =
      record_still (known_of a.seat.me tree) (known_of b.seat.me tree) (term_at a tree) is.known
      (claimed_known a b fresh got is_fixed tree is.there)

  pub claimed_term : (tree : ℕ) → IsRecord a tree → term_at b tree ≡ term_at a tree
  claimed_term tree is = ap term_told (known_record tree is)

  pub claimed_record : (tree : ℕ) → IsRecord a tree → IsRecord b tree
  claimed_record tree is = record {
    there =
        let longer = claimed_longer a b fresh got in
        let there = is.there in omega (arith, longer, there);
    known = known_record tree is ∙ ap knows.Record (sym (claimed_term tree is));
  }

  pub claimed_root : (v : HeldVersion) → IsHeld a v → root_at b v.place ≡ root_at a v.place
  claimed_root v is =
      root_known (known_of b.seat.me v.place) v.number is.root
      (version_still (length a.seat.me.own.held) (got.cell ∷ []) a b
      (claimed_known a b fresh got is_fixed) got.held v.place v.number is.root is.knows.there
      is.knows).known
      ∙ sym (root_known (known_of a.seat.me v.place) v.number is.root is.knows.known)

  pub claimed_is : (v : HeldVersion) (tree : ℕ) → IsHeld a v → IsRecord a tree
      → IsClaimed b fresh v.place tree
  claimed_is v tree is root = record {
    others = a.seat.me.known;
    known_is = got.known;
    last =
        let longer = claimed_longer a b fresh got in
        let placed = got.place_is in omega (arith, longer, placed);
    latest_before =
        let there = is.knows.there in
        let placed = got.place_is in omega (arith, there, placed);
    tree_before =
        let there = root.there in
        let placed = got.place_is in omega (arith, there, placed);
    apart = λ place lt. claimed_apart a b fresh got place
        (let placed = got.place_is in omega (arith, lt, placed));
  }

  pub claimed_room : (more : ℕ) → length a.seat.me.own.held + 128 ≤ a.seat.me.room → more ≤ 100
      → length b.seat.me.own.held + more ≤ b.seat.me.room
  claimed_room more room few =
      let longer = claimed_longer a b fresh got in
      let same = (claimed_goes a b fresh got).room in omega (arith, longer, same, room, few)

  -- After the write and the cut.

  pub kept_some : (c : Bound Pass) (n : ℕ) → n ≡ length a.seat.me.own.held → Behind fresh b c
      → n ≤ length c.seat.me.own.held
  kept_some c n is behind =
      let first = claimed_longer a b fresh got in
      let more = many_held b c behind.cells behind.held in omega (arith, first, more, is)

  module _ (c d : Bound Pass) (n : ℕ) (p : Found) (is : n ≡ length a.seat.me.own.held)
      (told : d ≡ takes c (event.Keep c.seat.me.number n 0 0) p) (behind : Behind fresh b c) where
    all_held : held_cells c ≡ held_cells a ++ ((got.cell ∷ []) ++ behind.cells)
    all_held = behind.held ∙ ap (λ (cs : List ℕ). cs ++ behind.cells) got.held
        ∙ append_assoc (held_cells a) (got.cell ∷ []) behind.cells

    pub holds_all : Holds [] a d
    holds_all = record {
      held = cut_held c d n p told a ((got.cell ∷ []) ++ behind.cells) is all_held;
      known = known_then is_fixed (length a.seat.me.own.held) a b d
          (claimed_known a b fresh got is_fixed)
          (known_then is_fixed (length a.seat.me.own.held) b c d
          (subst (λ (k : ℕ). StaysKnown k b c) got.place_is behind.known)
          (subst (λ (k : ℕ). StaysKnown k c d) is (cut_known is_fixed c d n p told)));
    }

    pub claims_all : d.seat.me.own.claims ≡ a.seat.me.own.claims + 1
    claims_all = cut_claims c d n p told ∙ behind.claims ∙ claimed_claims a b fresh got

    pub newer_all : (v : HeldVersion) (newer : ℕ) → FindsNewer b c v newer
        → FindsNewer a d v newer
    newer_all v newer finds = record {
      cell = finds.cell;
      goes = goes_on (goes_late (claimed_goes a b fresh got) finds.goes) (cut_goes c d n p told);
      is_newer = finds.is_newer;
      not_below = subst (λ (q : Pass). q.seen ≤ newer) (claimed_pass a b fresh got)
          finds.not_below;
      pass = cut_pass c d n p told ∙ finds.pass
          ∙ ap (λ (q : Pass). seeing newer q) (claimed_pass a b fresh got);
    }

    pub committed_all : (is_tree : Term → Type 0) (tree_of : Term → DocTree) (v : HeldVersion)
        (tree : ℕ) → IsHeld a v → IsRecord a tree → Committed is_tree tree_of b c v tree
        → Committed is_tree tree_of a d v tree
    committed_all is_tree tree_of v tree held root made =
        let cut = cut_goes c d n p told in
        let from = claimed_goes a b fresh got in
        record {
          goes = goes_then (goes_then from made.goes) cut;
          not_below = subst (λ (q : Pass). q.seen ≤ v.number) (claimed_pass a b fresh got)
              made.not_below;
          box = made.box;
          at = made.at;
          before = from.added ++ made.before;
          trail_before = made.trail_before ∙ ap (λ (ts : List Taken). ts ++ made.before) from.trail
              ∙ append_assoc a.seat.me.trail from.added made.before;
          pass_before = made.pass_before ∙ ap (λ (q : Pass). seeing v.number q)
              (claimed_pass a b fresh got);
          latest_is = made.latest_is
              ∙ target_still a b (got.cell ∷ []) got.held v.place held.knows.there;
          behind = made.behind;
          step = subst (λ (t : Term). AtEvent (HoldsVersions is_tree tree_of) is_fixed made.at
              (write_over made.at v.place made.box)
              (next_made (field.Cell (target made.at v.place)) (v.number + 1) (tree_of t)
              (tree_of (term_at a tree))) (finds.Field (field.Cell (target made.at v.place)))
              made.behind) (claimed_root v held)
              (subst (λ (t : Term). AtEvent (HoldsVersions is_tree tree_of) is_fixed made.at
              (write_over made.at v.place made.box)
              (next_made (field.Cell (target made.at v.place)) (v.number + 1)
              (tree_of (root_at b v.place)) (tree_of t))
              (finds.Field (field.Cell (target made.at v.place))) made.behind)
              (claimed_term tree root) made.step);
          after = made.after ++ cut.added;
          trail_after = cut.trail ∙ ap (λ (ts : List Taken). ts ++ cut.added) made.trail_after
              ∙ append_assoc made.behind.trail made.after cut.added;
          pass = cut_pass c d n p told ∙ made.pass
              ∙ ap (λ (t : Term). committed (v.number + 1) (tree_of t) (tree_of (term_at b tree))
              b.seat.me.pass) (claimed_root v held)
              ∙ ap (λ (t : Term). committed (v.number + 1) (tree_of (root_at a v.place))
              (tree_of t) b.seat.me.pass) (claimed_term tree root)
              ∙ ap (λ (q : Pass). committed (v.number + 1) (tree_of (root_at a v.place))
              (tree_of (term_at a tree)) q) (claimed_pass a b fresh got);
        }
