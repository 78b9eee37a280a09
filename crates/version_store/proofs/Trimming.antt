-- The trim, which walks to a link and cuts it.
use Rattle.std.proofs.Common.{◌≡◌, ◌<◌, ◌-◌, ℕ, List, [], ◌∷◌, ◌++◌, length}
use Rattle.std.proofs.Common.{refl, sym, ◌∙◌, ap, subst, arith}
use Rattle.std.proofs.lemmas.List.{append_assoc}
use Rattle.cell_words.specs.Term.{IsFive, Term}
use Rattle.core_machine.specs.declared.events.Event.TheVariants as event
use Rattle.core_machine.specs.declared.events.Found.{Found}
use Rattle.doc_tree.specs.Tree.{DocTree}
use Rattle.heap_rule.specs.declared.known.Known.{Known}
use Rattle.heap_rule.specs.Asks.{known_of}
use Rattle.heap_rule.specs.Lore.{known_at}
use Rattle.mutator_seat.specs.Bound.{Bound, held_cells, takes}
use Rattle.mutator_seat.specs.Stretches.{Kept}
use Rattle.mutator_seat.proofs.Writes.{many_same}
use Rattle.version_rule.specs.Knowing.{IsVersionKnown, KnowsVersion, link_cut, link_seen}
use Rattle.version_rule.specs.Pass.{Pass, cutting}
use Rattle.version_rule.specs.Versions.{is_fixed, HoldsVersions}
use Rattle.version_rule.proofs.Reading.{link_cut_picks, link_seen_picks}
use Rattle.version_rule.specs.declared.held.HeldVersion.{HeldVersion}
use Rattle.version_store.specs.Calls.{StaysKnown}
use Rattle.held_places.specs.Calls.{settled}
use Rattle.version_store.specs.Held.{IsHeld}
use Rattle.version_store.specs.Older.{Trims}
use Rattle.version_store.specs.Walks.{CutsOff, EndsThere, FollowsLink, LinkIsNull, LinkTaken}
use Rattle.version_store.specs.Walks.{PicksLink, Stopped, Walked}
use Rattle.held_places.proofs.Going.{cut_claims, cut_goes, cut_held, cut_known, cut_pass}
use Rattle.held_places.proofs.Going.{goes_then, known_below, known_then, many_held, still_on}
use Rattle.held_places.proofs.Going.{target_still}
use Rattle.held_places.proofs.Knowns.{fresh_apart}

-- the passes that are picked at reads of links

pub picks_seen : (is_tree : Term → Type 0) (tree_of : Term → DocTree)
    → ((t : Term) → is_tree t → IsFive t)
    → PicksLink (HoldsVersions is_tree tree_of) link_seen
picks_seen is_tree tree_of is_record = record {
  picks = λ v place number root knows later.
      link_seen_picks is_tree tree_of is_record v place number root knows later;
  stays = λ tells cell pass. refl;
}

pub picks_cut : (is_tree : Term → Type 0) (tree_of : Term → DocTree)
    → ((t : Term) → is_tree t → IsFive t)
    → PicksLink (HoldsVersions is_tree tree_of) link_cut
picks_cut is_tree tree_of is_record = record {
  picks = λ v place number root knows later.
      link_cut_picks is_tree tree_of is_record v place number root knows;
  stays = λ tells cell pass. refl;
}

pub version_kept : (a at : Bound Pass) → Kept a at → (place number : ℕ) (root : Term)
    → KnowsVersion a.seat.me place number root → KnowsVersion at.seat.me place number root
version_kept a at kept place number root knows = record {
  there = subst (λ (n : ℕ). place < n)
      (sym (many_same at.seat.me.own.held a.seat.me.own.held kept.held)) knows.there;
  known = subst (λ (k : Known). IsVersionKnown k number root)
      (sym (ap (λ (ks : List Known). known_at ks place) kept.known)) knows.known;
}

-- The link, read and cut.

pub link_taken_on : (a b c : Bound Pass) (v before : HeldVersion) → IsHeld a v
    → FollowsLink a b v before → LinkTaken b c v → LinkIsNull a c v
link_taken_on a b c v before is step cut =
    let many = many_held a b (step.cell ∷ []) step.holds.held in
    let same = target_still a b (step.cell ∷ []) step.holds.held in
    record {
      goes = goes_then step.goes cut.goes;
      cells = (step.cell ∷ []) ++ [];
      held = cut.held ∙ ap (λ (cs : List ℕ). cs ++ []) step.holds.held
          ∙ append_assoc (held_cells a) (step.cell ∷ []) [];
      known = λ place lt.
          still_on is_fixed (known_of a.seat.me place) (known_of b.seat.me place)
          (known_of c.seat.me place)
          (step.holds.known place lt)
          (λ alike. cut.known place (omega (arith, many, lt))
          (λ fresh on. fresh_apart (known_of a.seat.me place) (known_of a.seat.me v.place)
          (sym alike ∙ fresh) (ap settled is.knows.known.is)
          (step.coherent.kinds place v.place lt is.knows.there
          (sym (same place lt) ∙ on ∙ same v.place is.knows.there))));
      pass = cut.pass ∙ ap (λ (p : Pass). cutting v.number p) step.pass;
      claims = cut.claims ∙ step.claims;
    }

pub link_was_null : (a b : Bound Pass) (v : HeldVersion) → EndsThere link_cut a b v
    → LinkIsNull a b v
link_was_null a b v end = record {
  goes = end.goes;
  cells = [];
  held = end.holds.held;
  known = end.holds.known;
  pass = end.pass ∙ ap (λ (n : ℕ). cutting n a.seat.me.pass) end.told;
  claims = end.claims;
}

-- The trim.

pub cuts_walked : (a b c : Bound Pass) (v oldest : HeldVersion) (keep : ℕ)
    → keep ≡ a.seat.me.pass.keep → Walked a b v oldest (keep - 1) → LinkIsNull b c oldest
    → CutsOff a c v keep
cuts_walked a b c v oldest keep is walked cut = record {
  goes = goes_then walked.goes cut.goes;
  cells = walked.cells ++ cut.cells;
  held = cut.held ∙ ap (λ (cs : List ℕ). cs ++ cut.cells) walked.held
      ∙ append_assoc (held_cells a) walked.cells cut.cells;
  known = known_then is_fixed (length a.seat.me.own.held) a b c walked.known
      (known_below is_fixed (length b.seat.me.own.held) (length a.seat.me.own.held) b c
      (let many = many_held a b walked.cells walked.held in omega (arith, many)) cut.known);
  cut = oldest.number;
  within = let at = walked.number_is in omega (arith, at);
  due =
      let at = walked.number_is in
      let some = walked.keeps_some in omega (arith, at, some, is);
  pass = cut.pass ∙ ap (λ (p : Pass). cutting oldest.number p) walked.pass;
  claims = cut.claims ∙ walked.claims;
}

pub cuts_stopped : (a b : Bound Pass) (v : HeldVersion) (keep : ℕ)
    → Stopped link_cut a b v (keep - 1) → CutsOff a b v keep
cuts_stopped a b v keep stopped = record {
  goes = stopped.goes;
  cells = stopped.cells;
  held = stopped.held;
  known = stopped.known;
  cut = stopped.number;
  within = stopped.within;
  due = let near = stopped.near in omega (arith, near);
  pass = stopped.pass ∙ ap (λ (n : ℕ). cutting n a.seat.me.pass) stopped.told;
  claims = stopped.claims;
}

pub trims : (a b c : Bound Pass) (v : HeldVersion) (keep n : ℕ) (p : Found)
    → n ≡ length a.seat.me.own.held → CutsOff a b v keep
    → c ≡ takes b (event.Keep b.seat.me.number n 0 0) p → Trims a c v keep
trims a b c v keep n p is cuts told = record {
  goes = goes_then cuts.goes (cut_goes b c n p told);
  holds = record {
    held = cut_held b c n p told a cuts.cells is cuts.held;
    known = known_then is_fixed (length a.seat.me.own.held) a b c cuts.known
        (subst (λ (k : ℕ). StaysKnown k b c) is (cut_known is_fixed b c n p told));
  };
  cut = cuts.cut;
  within = cuts.within;
  due = cuts.due;
  pass = cut_pass b c n p told ∙ cuts.pass;
  claims = cut_claims b c n p told ∙ cuts.claims;
}
