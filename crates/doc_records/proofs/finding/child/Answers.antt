use Rattle.std.proofs.Common.{◌≡◌, ◌∙◌, ◌+◌, ◌<◌, ◌≤◌, Bool, Some, ap, arith, refl, subst}
use Rattle.std.proofs.Common.{sym, true, ℕ}
use Rattle.cell_words.specs.Term.{Term}
use Rattle.doc_records.specs.declared.bounds.TheConstants.{CHILD_PLACES}
use Rattle.doc_records.specs.Pool.{Kept, own_place}
use Rattle.doc_records.specs.Trees.{IsNode, IsNodeAt, tree_of}
use Rattle.doc_records.proofs.Spellings.{kept_back}
use Rattle.doc_records.proofs.Steps.{some_is}
use Rattle.doc_records.proofs.finding.child.Goals as goal

kept_low : (n h0 h1 : ℕ) → n ≡ h0 → h0 ≤ h1 → n ≤ h1
kept_low n h0 h1 same longer = omega (arith, same, longer)

found_held : (n h0 h2 : ℕ) (x y : Bool) → n ≡ h0 → h2 ≡ n + own_place x → y ≡ x
    → h2 ≡ h0 + own_place y
found_held n h0 h2 x y same held shared = held ∙ rw (same, shared) refl

none_held : (n h0 h2 : ℕ) → n ≡ h0 → h2 ≡ n → h2 ≡ h0 + 0
none_held n h0 h2 same held = omega (arith, same, held)

kept_place : (n h0 m0 m1 : ℕ) → n ≡ h0 → h0 + CHILD_PLACES ≤ m0 → m1 ≡ m0 → n < m1
kept_place n h0 m0 m1 same fits room = omega (arith, same, fits, room)

pub find_child-requires-clause-stands : goal.find_child-requires-clause-stands
find_child-requires-clause-stands g c = c.requires.stands

pub find_child-requires-clause-node : goal.find_child-requires-clause-node
find_child-requires-clause-node g c = c.requires.node

pub find_child-requires-clause-places : goal.find_child-requires-clause-places
find_child-requires-clause-places g c = c.requires.places

pub keep-requires : goal.keep-requires
keep-requires g c =
    record {
      some = c.held-held.ensures.some;
      held = kept_low _ _ _ c.held-held.ensures.held c.find_child.ensures.later.longer;
      room = kept_place _ _ _ _ c.held-held.ensures.held c.requires.places
          c.find_child.ensures.later.room;
      stands =
          let node = c.in-Some.ensures.stands c.in-Some.child refl in
          node.stands;
      on =
          let s0 = g.R.RecordPool.shown c.args.records.now in
          c.in-Some.ensures.on c.held-held.result (kept_low _ _ _ c.held-held.ensures.held
          (omega arith))
          (λ private. subst (λ (n : ℕ). s0.stands n c.args.at) (sym c.held-held.ensures.held)
          c.requires.stands) c.in-Some.child refl;
    }

pub cut-requires-clause-some : goal.cut-requires-clause-some
cut-requires-clause-some g c = c.held-held.ensures.some

pub cut-requires-clause-held : goal.cut-requires-clause-held
cut-requires-clause-held g c =
    kept_low _ _ _ c.held-held.ensures.held c.find_child.ensures.later.longer

pub returns-in-Some : goal.returns-in-Some
returns-in-Some g c =
    let s0 = g.R.RecordPool.shown c.args.records.now in
    record {
      child = ap (λ (u : Term). Some (tree_of u)) c.keep.ensures.term ∙ c.in-Some.ensures.child;
      stands =
          let node = c.in-Some.ensures.stands c.in-Some.child refl in
          some_is (IsNodeAt (g.R.RecordPool.shown c.keep.new.self)) _
          record {
            stands = c.keep.ensures.stands;
            node = subst IsNode (sym c.keep.ensures.term) node.node;
          };
      shared = λ own.
          some_is (λ a. g.R.RecordPool.shared a ≡ true) _
          (c.keep.ensures.shared ∙ c.in-Some.ensures.shared own c.in-Some.child refl);
      last =
          let s2 = g.R.RecordPool.shown c.keep.new.self in
          some_is (λ a. g.R.RecordPool.shared a ≡ true → (n : ℕ) → s2.stands n a → s0.held < n) _
          (λ own n stands. subst (λ (places : ℕ). places < n) c.held-held.ensures.held
          (c.keep.ensures.last own n stands));
      later = kept_back _ _ _ c.find_child.ensures.later
          (subst (λ (n : ℕ). Kept n (g.R.RecordPool.shown c.find_child.new.records)
          (g.R.RecordPool.shown c.keep.new.self)) c.held-held.ensures.held c.keep.ensures.kept);
      held =
          found_held _ _ _ _ _ c.held-held.ensures.held c.keep.ensures.held c.keep.ensures.shared;
      records = c.keep.ensures.records ∙ c.find_child.ensures.records;
    }

pub returns-in-None-clause-held : goal.returns-in-None-clause-held
returns-in-None-clause-held g c = none_held _ _ _ c.held-held.ensures.held c.cut.ensures.held

pub returns-in-None-clause-later : goal.returns-in-None-clause-later
returns-in-None-clause-later g c =
    let s0 = g.R.RecordPool.shown c.args.records.now in
    kept_back _ _ _ c.find_child.ensures.later
    (subst (λ (n : ℕ). Kept n (g.R.RecordPool.shown c.find_child.new.records)
    (g.R.RecordPool.shown c.cut.new.self)) c.held-held.ensures.held c.cut.ensures.kept)

pub returns-in-None-clause-child : goal.returns-in-None-clause-child
returns-in-None-clause-child g c = c.in-None.ensures.child

pub returns-in-None-clause-records : goal.returns-in-None-clause-records
returns-in-None-clause-records g c = c.cut.ensures.records ∙ c.find_child.ensures.records
