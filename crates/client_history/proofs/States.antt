-- What a call leaves of a client's state, several calls one after another leave too.
use Rattle.std.proofs.Common.{◌≡◌, ℕ, ◌+◌, ◌≤◌, [], ◌∷◌, ◌++◌, refl, sym, ◌∙◌, ap, subst}
use Rattle.std.proofs.Common.{arith}
use Rattle.std.proofs.lemmas.List.{map-append}
use Rattle.doc_model.specs.declared.answer.Account.{Account}
use Rattle.doc_records.specs.Trees.{tree_of}
use Rattle.doc_tree.specs.Tree.{DocTree}
use Rattle.trails.proofs.Orders.{grown_same, grown_then}
use Rattle.version_rule.specs.Fits.{Grows}
use Rattle.version_rule.specs.Pass.{Commit, Pass, commit_numbers, committed, cutting, reading}
use Rattle.version_rule.specs.Pass.{seeing}
use Rattle.version_rule.proofs.Trees.{committed_grows, cutting_grows, grows_on, grows_still}
use Rattle.version_rule.proofs.Trees.{reading_grows, seeing_grows}
use Rattle.client_history.specs.Progress.{IsAccount, MakesNone}
use Rattle.client_history.specs.State.{ClientState, IsReady, Lasts, OnlyReads, Rests, StaysSmall}
use Rattle.client_history.specs.Turns.{Lost}

-- What lasts.

pub lasts_still : (s : ClientState) → Lasts s s
lasts_still s = record {
  cells = refl;
  passes = grows_still s.pass;
  grown = grown_same;
  claims = omega arith;
}

pub lasts_then : {s t u : ClientState} → Lasts s t → Lasts t u → Lasts s u
lasts_then {s = s} {t = t} {u = u} one two = record {
  cells = two.cells ∙ one.cells;
  passes = grows_on s.pass t.pass u.pass one.passes two.passes;
  grown = grown_then one.grown two.grown;
  claims = let x = one.claims in let y = two.claims in omega (arith, x, y);
}

pub small_still : (s : ClientState) → StaysSmall s s
small_still s = omega arith

pub small_then : (s t u : ClientState) → StaysSmall s t → StaysSmall t u → StaysSmall s u
small_then s t u one two = omega (arith, one, two)

-- Calls that rest.

pub rests_still : (s : ClientState) → Rests 0 s s
rests_still s = record {
  lasts = lasts_still s;
  claims = refl;
  commits = refl;
  draft = refl;
  base = refl;
  room = omega arith;
  spare = refl;
}

pub rests_then : {a b : ℕ} {s t u : ClientState} → Rests a s t → Rests b t u → Rests (a + b) s u
rests_then one two = record {
  lasts = lasts_then one.lasts two.lasts;
  claims = two.claims ∙ one.claims;
  commits = two.commits ∙ one.commits;
  draft = two.draft ∙ one.draft;
  base = two.base ∙ one.base;
  room = let x = one.room in let y = two.room in omega (arith, x, y);
  spare = two.spare ∙ one.spare;
}

-- more places may be gone
pub rests_within : {a : ℕ} (b : ℕ) {s t : ClientState} → a ≤ b → Rests a s t → Rests b s t
rests_within b few rests = record {
  lasts = rests.lasts;
  claims = rests.claims;
  commits = rests.commits;
  draft = rests.draft;
  base = rests.base;
  room = let x = rests.room in omega (arith, x, few);
  spare = rests.spare;
}

-- what is left of the room, after the readings and edits of one command
pub room_left : {a : ℕ} {s t : ClientState} → IsReady s → Rests a s t → a ≤ 808 → 8_192 ≤ t.room
room_left ready rests few = let x = rests.room in omega (arith, ready, x, few)

pub rests_none : {a : ℕ} {s t : ClientState} → Rests a s t → MakesNone s t
rests_none rests = record {
  lasts = rests.lasts;
  commits = rests.commits;
  draft = rests.draft;
  small = let is = rests.base in omega (arith, is);
}

-- Readings.

pub reads_still : (s : ClientState) → OnlyReads s s
reads_still s = record { claims = refl; base = refl; spare = omega arith }

pub reads_then : {s t u : ClientState} → OnlyReads s t → OnlyReads t u → OnlyReads s u
reads_then one two = record {
  claims = two.claims ∙ one.claims;
  base = two.base ∙ one.base;
  spare = let x = one.spare in let y = two.spare in omega (arith, x, y);
}

pub rests_reads : {a : ℕ} {s t : ClientState} → Rests a s t → OnlyReads s t
rests_reads rests = record {
  claims = rests.claims;
  base = rests.base;
  spare = let is = rests.spare in omega (arith, is);
}

-- Calls that make neither a version nor a draft.

pub none_still : (s : ClientState) → MakesNone s s
none_still s =
    record { lasts = lasts_still s; commits = refl; draft = refl; small = small_still s }

pub none_then : {s t u : ClientState} → MakesNone s t → MakesNone t u → MakesNone s u
none_then {s = s} {t = t} {u = u} one two = record {
  lasts = lasts_then one.lasts two.lasts;
  commits = two.commits ∙ one.commits;
  draft = two.draft ∙ one.draft;
  small = small_then s t u one.small two.small;
}

-- A lost turn is no more than that.

pub none_lost : {s t : ClientState} → IsReady t → MakesNone s t → Lost s t
none_lost ready none = record {
  lasts = none.lasts;
  ready = ready;
  commits = none.commits;
  draft = none.draft;
  small = none.small;
}

pub lost_none : {s t : ClientState} → Lost s t → MakesNone s t
lost_none lost = record {
  lasts = lost.lasts;
  commits = lost.commits;
  draft = lost.draft;
  small = lost.small;
}

pub lost_still : (s : ClientState) → IsReady s → Lost s s
lost_still s ready = none_lost ready (none_still s)

pub lost_then : {s t u : ClientState} → Lost s t → Lost t u → Lost s u
lost_then one two = none_lost two.ready (none_then (lost_none one) (lost_none two))

-- calls before a lost turn, or within it
pub lost_late : {s t u : ClientState} → MakesNone s t → Lost t u → Lost s u
lost_late none lost = none_lost lost.ready (none_then none (lost_none lost))

pub account_on : {m : Account} {s t : ClientState} → IsAccount m s → MakesNone s t → IsAccount m t
account_on account none = record {
  draft = account.draft ∙ sym (ap tree_of none.draft);
  last = let x = account.last in let y = none.lasts.passes.seen in omega (arith, x, y);
}

-- From the equation of a pass to what follows from it.

module _ (p q : Pass) where
  pub seeing_passes : (n : ℕ) → q ≡ seeing n p → Grows p q
  seeing_passes n is = subst (λ (x : Pass). Grows p x) (sym is) (seeing_grows n p)

  pub seeing_commits : (n : ℕ) → q ≡ seeing n p → commit_numbers q ≡ commit_numbers p
  seeing_commits n is = ap commit_numbers is

  pub reading_passes : (n : ℕ) (t : DocTree) → q ≡ reading n t p → Grows p q
  reading_passes n t is = subst (λ (x : Pass). Grows p x) (sym is) (reading_grows n t p)

  pub reading_commits : (n : ℕ) (t : DocTree) → q ≡ reading n t p
      → commit_numbers q ≡ commit_numbers p
  reading_commits n t is = ap commit_numbers is

  pub cutting_passes : (n : ℕ) → q ≡ cutting n p → Grows p q
  cutting_passes n is = subst (λ (x : Pass). Grows p x) (sym is) (cutting_grows n p)

  pub cutting_commits : (n : ℕ) → q ≡ cutting n p → commit_numbers q ≡ commit_numbers p
  cutting_commits n is = ap commit_numbers is

  pub committed_passes : (n : ℕ) (before made : DocTree) → p.seen ≤ n
      → q ≡ committed n before made p → Grows p q
  committed_passes n before made low is =
      subst (λ (x : Pass). Grows p x) (sym is) (committed_grows n before made p low)

  pub committed_commits : (n : ℕ) (before made : DocTree) → q ≡ committed n before made p
      → commit_numbers q ≡ commit_numbers p ++ n ∷ []
  committed_commits n before made is =
      let c : Commit = record { number = n; before = before; made = made } in
      ap commit_numbers is ∙ map-append (λ (d : Commit). d.number) p.commits (c ∷ [])
