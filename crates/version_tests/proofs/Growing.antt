-- What each call adds to what a test knows.
use Rattle.std.proofs.Common.{◌≡◌, ◌≤◌, ◌<◌, ◌+◌, ℕ, true, List, [], ◌∷◌, length, Result, Ok, Err}
use Rattle.std.proofs.Common.{◌++◌, take, drop, inl, inr, OnOk, IfErr, refl, sym, ◌∙◌, ap, subst}
use Rattle.std.proofs.Common.{arith}
use Rattle.std.proofs.lemmas.Bool.{cases_lt}
use Rattle.std.proofs.lemmas.List.{length_push}
use Rattle.cell_words.specs.Term.{Term}
use Rattle.core_machine.specs.declared.events.Event.TheVariants as event
use Rattle.core_machine.specs.declared.events.Found.{Found}
use Rattle.core_machine.specs.declared.events.Taken.{Taken}
use Rattle.core_machine.specs.declared.places.Held.{Held}
use Rattle.doc_tree.specs.Tree.{DocTree}
use Rattle.heap_table.specs.Seats.{HeapId, SeatView}
use Rattle.mutator_events.specs.Events.{tells}
use Rattle.mutator_seat.specs.Bound.{Bound, takes}
use Rattle.mutator_seat.specs.Stretches.{Calm}
use Rattle.mutator_seat.proofs.Writes.{many_same}
use Rattle.version_rule.specs.Pass.{Pass}
use Rattle.version_store.specs.declared.fault.CommitFault.{CommitFault}
use Rattle.version_store.specs.declared.fault.CommitFault.TheVariants as faults
use Rattle.version_rule.specs.declared.held.HeldVersion.{HeldVersion}
use Rattle.version_store.specs.Calls.{Holds}
use Rattle.version_store.specs.Commits.{Committed, Refused}
use Rattle.version_store.specs.Held.{GivesLatest, GivesRoot, IsHeld, root_at, term_at}
use Rattle.version_store.specs.Lasts.{IsSameMutator, LastsAcross}
use Rattle.version_store.specs.Older.{Trims}
use Rattle.held_places.proofs.Going.{calm_goes, cut_goes, many_held}
use Rattle.version_store.proofs.Remaining.{version_still}
use Rattle.version_store.proofs.Lasting.{goes_same, same_still, same_then}
use Rattle.version_tests.specs.Grows.{Grows, IsOf, IsOver, Works}

-- A call, by what lasts across it and by its places.
pub grows_by : (cells : List ℕ) (commits : ℕ) (a b : Bound Pass) → IsSameMutator a b
    → LastsAcross a b → Holds cells a b
    → length b.seat.me.pass.commits ≤ length a.seat.me.pass.commits + commits
    → Grows (length cells) commits a b
grows_by cells commits a b same lasts holds made = record {
  same = same;
  longer = let many = many_held a b cells holds.held in omega (arith, many);
  held = let many = many_held a b cells holds.held in omega (arith, many);
  keep = lasts.keep;
  made = made;
  versions = λ v held. record {
    root = held.root;
    knows = version_still (length a.seat.me.own.held) cells a b holds.known holds.held v.place
        v.number held.root held.knows.there held.knows;
  };
}

pub grows_then : (p q r s : ℕ) (a b c : Bound Pass) → Grows p q a b → Grows r s b c
    → Grows (p + r) (q + s) a c
grows_then p q r s a b c first second =
    let one = first.held in
    let two = second.held in
    let three = first.made in
    let four = second.made in
    record {
      same = same_then a b c first.same second.same;
      longer = let more = first.longer in let most = second.longer in omega (arith, more, most);
      held = omega (arith, one, two);
      keep = second.keep ∙ first.keep;
      made = omega (arith, three, four);
      versions = λ v held. second.versions v (first.versions v held);
    }

same_commits : (a b : Bound Pass) (p : Pass) → b.seat.me.pass ≡ p
    → length p.commits ≡ length a.seat.me.pass.commits
    → length b.seat.me.pass.commits ≤ length a.seat.me.pass.commits + 0
same_commits a b p is same =
    let e = ap (λ (q : Pass). length q.commits) is in omega (arith, e, same)

pub grows_latest : (a b : Bound Pass) (v : HeldVersion) → GivesLatest a b v → IsSameMutator a b
    → LastsAcross a b → Grows 1 0 a b
grows_latest a b v gives same lasts = grows_by (gives.cell ∷ []) 0 a b same lasts gives.holds
    (same_commits a b _ gives.pass refl)

pub grows_root : (is_tree : Term → Type 0) (tree_of : Term → DocTree) (a b : Bound Pass)
    (v : HeldVersion) (place : ℕ) → GivesRoot is_tree tree_of a b v place → IsSameMutator a b
    → LastsAcross a b → Grows 1 0 a b
grows_root is_tree tree_of a b v place gives same lasts =
    grows_by (gives.cell ∷ []) 0 a b same lasts gives.holds (same_commits a b _ gives.pass refl)

-- a commit, made or refused
commit_made : (is_tree : Term → Type 0) (tree_of : Term → DocTree) (a b : Bound Pass)
    (v : HeldVersion) (tree : ℕ) (r : Result ℕ CommitFault)
    → OnOk r (Committed is_tree tree_of a b v tree) → IfErr r (λ fault. Refused a b v fault)
    → length b.seat.me.pass.commits ≤ length a.seat.me.pass.commits + 1
commit_made is_tree tree_of a b v tree (Ok n) made refused =
    let e = ap (λ (p : Pass). length p.commits) made.pass in
    let more = length_push a.seat.me.pass.commits (record {
      number = v.number + 1;
      before = tree_of (root_at a v.place);
      made = tree_of (term_at a tree);
    }) in omega (arith, e, more)
commit_made is_tree tree_of a b v tree (Err (faults.Moved newer)) made refused =
    let e = same_commits a b _ refused.pass refl in omega (arith, e)
commit_made is_tree tree_of a b v tree (Err (faults.Full full)) made refused =
    let e = same_commits a b _ refused.kept.pass refl in omega (arith, e)
commit_made is_tree tree_of a b v tree (Err faults.Worn) made refused =
    let e = ap (λ (m : Bound Pass). length m.seat.me.pass.commits) refused in omega (arith, e)

pub grows_commit : (is_tree : Term → Type 0) (tree_of : Term → DocTree) (a b : Bound Pass)
    (v : HeldVersion) (tree : ℕ) (r : Result ℕ CommitFault) → Holds [] a b
    → OnOk r (Committed is_tree tree_of a b v tree) → IfErr r (λ fault. Refused a b v fault)
    → IsSameMutator a b → LastsAcross a b → Grows 0 1 a b
grows_commit is_tree tree_of a b v tree r holds made refused same lasts =
    grows_by [] 1 a b same lasts holds (commit_made is_tree tree_of a b v tree r made refused)

pub grows_pruned : (a b : Bound Pass) (v : HeldVersion) (keep : ℕ)
    → (keep ≤ v.number → Trims a b v keep) → (v.number < keep → b ≡ a) → Holds [] a b
    → IsSameMutator a b → LastsAcross a b → Grows 0 0 a b
grows_pruned a b v keep trims nothing holds same lasts = grows_by [] 0 a b same lasts holds
    (elim (cases_lt v.number keep) [
      | inl lt ↦ let e = ap (λ (m : Bound Pass). length m.seat.me.pass.commits) (nothing lt) in
          omega (arith, e)
      | inr le ↦ let trimmed = trims le in same_commits a b _ trimmed.pass refl
    ])

-- What a test works with.

pub works_grown : (p q commits more keep : ℕ) (a b : Bound Pass) → Works p commits keep a
    → Grows q more a b → Works (p + q) (commits + more) keep b
works_grown p q commits more keep a b works grows =
    let one = works.held in
    let two = grows.held in
    let three = works.made in
    let four = grows.made in
    record {
      inside = grows.same.inside ∙ works.inside;
      some = let least = works.some in let more = grows.longer in omega (arith, least, more);
      held = omega (arith, one, two);
      room = subst (λ (n : ℕ). 300 ≤ n) (sym grows.same.room) works.room;
      keep_is = grows.keep ∙ works.keep_is;
      made = omega (arith, three, four);
    }

pub cut_same : (a b : Bound Pass) (n : ℕ) (p : Found)
    → b ≡ takes a (event.Keep a.seat.me.number n 0 0) p → IsSameMutator a b
cut_same a b n p told = goes_same a b (cut_goes a b n p told)

-- only the first place
one_left : (held : List Held) → 1 ≤ length held → length (take 1 held ++ take 0 (drop 0 held)) ≡ 1
one_left [] some = absurd (omega (arith, some))
one_left (p ∷ held) some = refl

pub works_cut : (places commits most keep : ℕ) (a b : Bound Pass) (p : Found) → commits ≤ most
    → Works places commits keep a → b ≡ takes a (event.Keep a.seat.me.number 1 0 0) p
    → Works 1 most keep b
works_cut places commits most keep a b p few works told =
    let same = cut_same a b 1 p told in
    let one = ap (λ (m : Bound Pass). length m.seat.me.own.held) told
    ∙ one_left a.seat.me.own.held works.some in
    record {
      inside = same.inside ∙ works.inside;
      some = omega (arith, one);
      held = omega (arith, one);
      room = subst (λ (n : ℕ). 300 ≤ n) (sym same.room) works.room;
      keep_is = ap (λ (m : Bound Pass). m.seat.me.pass.keep) told ∙ works.keep_is;
      made =
          let alike = ap (λ (m : Bound Pass). length m.seat.me.pass.commits) told in
          let made = works.made in omega (arith, alike, made, few);
    }

pub calm_same : (F : List Taken → Type 0) (a b : Bound Pass) → Calm F a b → IsSameMutator a b
calm_same F a b calm = goes_same a b (calm_goes F a b calm)

-- what a stretch keeps that picks no pass
pub works_calm : (F : List Taken → Type 0) (p commits keep : ℕ) (a b : Bound Pass)
    → Works p commits keep a → Calm F a b → Works p commits keep b
works_calm F p commits keep a b works calm = record {
  inside = calm.kept.inside ∙ works.inside;
  some = let same = many_same b.seat.me.own.held a.seat.me.own.held calm.kept.held in
      let least = works.some in omega (arith, same, least);
  held = let same = many_same b.seat.me.own.held a.seat.me.own.held calm.kept.held in
      let held = works.held in omega (arith, same, held);
  room = subst (λ (n : ℕ). 300 ≤ n) (sym calm.kept.room) works.room;
  keep_is = ap (λ (q : Pass). q.keep) calm.kept.pass ∙ works.keep_is;
  made = subst (λ (q : Pass). length q.commits ≤ commits) (sym calm.kept.pass) works.made;
}

pub of_still : (heap : HeapId) (a b : Bound Pass) → IsOf heap a → IsSameMutator a b → IsOf heap b
of_still heap a b is same = record {
  heap_is = same.heap ∙ is.heap_is;
  seat_is = (same.table ∙ is.seat_is.0, same.shape ∙ is.seat_is.1);
}

-- out, and over
pub ends_over : (heap : HeapId) (a b : Bound Pass) (c : SeatView Pass) (p q : Found) → IsOf heap a
    → b ≡ takes a (event.End a.seat.me.number) p
    → c ≡ tells b.seat (event.Over b.seat.me.number) q → c.me.presence.over ≡ true
    → IsOver heap c
ends_over heap a b c p q is out told over = record {
  seat_is = (
    ap (λ (s : SeatView Pass). s.table) told ∙ ap (λ (m : Bound Pass). m.seat.table) out
        ∙ is.seat_is.0,
    ap (λ (s : SeatView Pass). s.me.shape) told ∙ ap (λ (m : Bound Pass). m.seat.me.shape) out
        ∙ is.seat_is.1,
  );
  over = over;
}
