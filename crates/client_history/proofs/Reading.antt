-- What was read: a version's number and tree, and then what a reply shows.
use Rattle.std.proofs.Common.{◌≡◌, ℕ, ◌≤◌, List, [], ◌∷◌, ◌++◌, length, All, sym, ap}
use Rattle.std.proofs.Common.{max, subst, arith, drop}
use Rattle.std.proofs.Math.Seq.{drop-append_seam}
use Rattle.std.proofs.lemmas.List.Elements.{All-drop, All-head, All-same}
use Rattle.doc_tree.specs.Tree.{DocTree}
use Rattle.trails.specs.Asks.{Ask, Shows}
use Rattle.trails.proofs.Orders.{shows_late, shows_on, shows_then}
use Rattle.version_rule.specs.Fits.{Fits, Grows, HasTree, IsMade}
use Rattle.version_rule.specs.Pass.{Commit, Pass, Reading, committed, reading, seeing}
use Rattle.version_rule.specs.Shows.{version_asks}
use Rattle.client_history.specs.Progress.{HasRead, KnowsTree, MakesNone}
use Rattle.client_history.specs.State.{ClientState}
use Rattle.client_history.proofs.States.{none_then}

-- Trees.

module _ {A : Type 0} (P : A → Type 0) where
  all_last : (xs : List A) (x : A) → All P (xs ++ x ∷ []) → P x
  all_last xs x all =
      All-head P x [] (All-same P (x ∷ []) (drop (length xs) (xs ++ x ∷ []))
      (sym (drop-append_seam xs (x ∷ []))) (All-drop P (length xs) (xs ++ x ∷ []) all))

module _ (p q : Pass) where
  -- a version's tree was read
  pub tree_known : (n : ℕ) (t : DocTree) → q ≡ reading n t p → KnowsTree q n t
  tree_known n t is trees fits =
      let r : Reading = record { number = n; tree = t } in
      let read : Fits trees (reading n t p) = subst (λ (x : Pass). Fits trees x) is fits in
      let has : HasTree trees n t =
      all_last (λ (x : Reading). HasTree trees x.number x.tree) p.reads r read.reads in
      has.is

  -- or it was made with it
  pub tree_made : (n : ℕ) (before made : DocTree) → q ≡ committed n before made p
      → KnowsTree q n made
  tree_made n before made is trees fits =
      let c : Commit = record { number = n; before = before; made = made } in
      let read : Fits trees (committed n before made p) =
      subst (λ (x : Pass). Fits trees x) is fits in
      let now : IsMade trees c = all_last (IsMade trees) p.commits c read.commits in
      now.made.is

  pub known_on : (n : ℕ) (t : DocTree) → Grows p q → KnowsTree p n t → KnowsTree q n t
  known_on n t grows knows trees fits = knows trees (grows.narrows trees fits)

pub known_none : {s t : ClientState} (n : ℕ) (d : DocTree) → KnowsTree s.pass n d → MakesNone s t
    → KnowsTree t.pass n d
known_none {s = s} {t = t} n d knows none = known_on s.pass t.pass n d none.lasts.passes knows

-- Reads.

-- the latest version was read
pub read_current : {s t : ClientState} (v cell : ℕ) → Shows (version_asks cell v) s.marks t.marks
    → t.pass ≡ seeing v s.pass → s.pass.seen ≤ v → MakesNone s t → HasRead v [] s t
read_current {s = s} {t = t} v cell shows pass low none = record {
  none = none;
  cell = cell;
  shows = shows;
  not_below = low;
  seen = let is : t.pass.seen ≡ max s.pass.seen v = ap (λ (x : Pass). x.seen) pass in
      omega (arith, is);
}

-- a later call that is not asked about
pub read_on : {v : ℕ} {asks : List Ask} {s t u : ClientState} → HasRead v asks s t → MakesNone t u
    → HasRead v asks s u
read_on read none = record {
  none = none_then read.none none;
  cell = read.cell;
  shows = shows_on read.shows none.lasts.grown;
  not_below = read.not_below;
  seen = let x = read.seen in let y = none.lasts.passes.seen in omega (arith, x, y);
}

-- a call that is
pub read_more : {v : ℕ} {asks : List Ask} {s t u : ClientState} → HasRead v [] s t → MakesNone t u
    → Shows asks t.marks u.marks → HasRead v asks s u
read_more read none shows = record {
  none = none_then read.none none;
  cell = read.cell;
  shows = shows_then read.shows shows;
  not_below = read.not_below;
  seen = let x = read.seen in let y = none.lasts.passes.seen in omega (arith, x, y);
}

-- a call before
pub read_late : {v : ℕ} {asks : List Ask} {s t u : ClientState} → MakesNone s t → HasRead v asks t u
    → HasRead v asks s u
read_late none read = record {
  none = none_then none read.none;
  cell = read.cell;
  shows = shows_late none.lasts.grown read.shows;
  not_below = let x = read.not_below in let y = none.lasts.passes.seen in omega (arith, x, y);
  seen = read.seen;
}
