-- One more entry leaves the trees of the older ones as they were.
use Rattle.std.proofs.Common.{◌≡◌, ◌⊎◌, ℕ, zero, suc, ◌+◌, ◌<◌, ◌≤◌, List, [], ◌∷◌, ◌++◌, length}
use Rattle.std.proofs.Common.{Option, None, Some, refl, sym, ap, subst, ◌∙◌, arith, inl, inr}
use Rattle.std.proofs.Common.{length-append}
use Rattle.std.specs.Prelude.{slice_index_or}
use Rattle.kids_avl.specs.Entries.{Entries, entry, height_of, IsEntry}
use Rattle.kids_avl.specs.Pool.{under, Stand, Later}
use Rattle.kids_tests.specs.Memory.{Holding, blank, tree_at, HasEntry, tree_over, trees_after}
use Rattle.kids_tests.specs.Memory.{trees_of, leaf, Tells, IsSound, says, IsNumber, grown}

-- where an entry is, there is one
pub within : (trees : List Entries) (a : ℕ) → HasEntry trees a → a < length trees
within [] a has = absurd has
within (t ∷ trees) zero has = omega arith
within (t ∷ trees) (suc a) has = omega (arith, within trees a has)

-- an older tree
pub kept : (trees : List Entries) (t : Entries) (a : ℕ) → HasEntry trees a
    → tree_at (trees ++ t ∷ []) a ≡ tree_at trees a
kept [] t a has = absurd has
kept (s ∷ trees) t zero has = refl
kept (s ∷ trees) t (suc a) has = kept trees t a has

pub kept_under : (trees : List Entries) (t : Entries) (o : Option ℕ) → Stand HasEntry trees o
    → under tree_at (trees ++ t ∷ []) o ≡ under tree_at trees o
kept_under trees t None has = refl
kept_under trees t (Some a) has = kept trees t a has

pub still : (trees : List Entries) (t : Entries) (a : ℕ) → HasEntry trees a
    → HasEntry (trees ++ t ∷ []) a
still trees t a has = subst (λ (e : Entries). IsEntry e) (sym (kept trees t a has)) has

pub still_under : (trees : List Entries) (t : Entries) (o : Option ℕ) → Stand HasEntry trees o
    → Stand HasEntry (trees ++ t ∷ []) o
still_under trees t None has = tt
still_under trees t (Some a) has = still trees t a has

pub later_more : (trees : List Entries) (t : Entries)
    → Later HasEntry tree_at IsNumber says grown trees (trees ++ t ∷ [])
later_more trees t = record {
  still = still trees t;
  same = kept trees t;
  still_under = still_under trees t;
  same_under = kept_under trees t;
  child_still = λ c is. is;
  child_same = λ c is. refl;
  still_kept = λ start were. omega (arith, were, length-append trees (t ∷ []));
}

-- the newest tree
pub newest : (trees : List Entries) (t : Entries) (k : ℕ) → k ≡ length trees
    → tree_at (trees ++ t ∷ []) k ≡ t
newest [] t zero e = refl
newest [] t (suc k) e = absurd (omega (arith, e))
newest (s ∷ trees) t zero e = absurd (omega (arith, e))
newest (s ∷ trees) t (suc k) e = newest trees t k (omega (arith, e))

pub trees_snoc : (older : List Entries) (held : List Holding) (h : Holding)
    → trees_after older (held ++ h ∷ [])
    ≡ trees_after older held ++ tree_over (trees_after older held) h ∷ []
trees_snoc older [] h = refl
trees_snoc older (g ∷ held) h = trees_snoc (older ++ tree_over older g ∷ []) held h

trees_count : (older : List Entries) (held : List Holding)
    → length (trees_after older held) ≡ length older + length held
trees_count older [] = omega arith
trees_count older (h ∷ held) =
    omega (
      arith,
      trees_count (older ++ tree_over older h ∷ []) held,
      length-append older (tree_over older h ∷ []),
    )

pub as_many : (held : List Holding) → length (trees_of held) ≡ length held
as_many held = omega (arith, trees_count [] held)

-- what an entry tells, once there is one more
over_more : (trees : List Entries) (t : Entries) (h : Holding) → Stand HasEntry trees h.left
    → Stand HasEntry trees h.right → tree_over (trees ++ t ∷ []) h ≡ tree_over trees h
over_more trees t h left right =
    λ i. entry h.name (leaf h.child) (kept_under trees t h.left left i)
    (kept_under trees t h.right right i)

has_told : (trees : List Entries) (k : ℕ) (h : Holding) → Tells trees k h → HasEntry trees k
has_told trees k h told = subst (λ (e : Entries). IsEntry e) (sym told.tree) tt

tells_more : (trees : List Entries) (t : Entries) (k : ℕ) (h : Holding) → Tells trees k h
    → Tells (trees ++ t ∷ []) k h
tells_more trees t k h told =
    let same = kept trees t k (has_told trees k h told) in
    record {
      tree = same ∙ told.tree ∙ sym (over_more trees t h told.left told.right);
      left = still_under trees t h.left told.left;
      right = still_under trees t h.right told.right;
      height = told.height ∙ ap height_of (sym same);
      low = told.low;
      stands = omega (arith, told.stands, length-append trees (t ∷ []));
    }

-- what the newest tells
tells_newest : (trees : List Entries) (k : ℕ) (h : Holding) → k ≡ length trees
    → Stand HasEntry trees h.left → Stand HasEntry trees h.right
    → h.height ≡ height_of (tree_over trees h) → h.height ≤ length trees + 1
    → Tells (trees ++ tree_over trees h ∷ []) k h
tells_newest trees k h last left right height low =
    let t = tree_over trees h in
    let here = newest trees t k last in
    record {
      tree = here ∙ sym (over_more trees t h left right);
      left = still_under trees t h.left left;
      right = still_under trees t h.right right;
      height = height ∙ ap height_of (sym here);
      low = omega (arith, low, last);
      stands = omega (arith, last, length-append trees (t ∷ []));
    }

held_before : (held : List Holding) (h : Holding) (k : ℕ) → k < length held
    → slice_index_or (held ++ h ∷ []) k blank ≡ slice_index_or held k blank
held_before [] h k lt = absurd (omega (arith, lt))
held_before (g ∷ held) h zero lt = refl
held_before (g ∷ held) h (suc k) lt = held_before held h k (omega (arith, lt))

held_last : (held : List Holding) (h : Holding) (k : ℕ) → k ≡ length held
    → slice_index_or (held ++ h ∷ []) k blank ≡ h
held_last [] h zero e = refl
held_last [] h (suc k) e = absurd (omega (arith, e))
held_last (g ∷ held) h zero e = absurd (omega (arith, e))
held_last (g ∷ held) h (suc k) e = held_last held h k (omega (arith, e))

-- one more entry leaves the entries sound
pub sound_more : (held : List Holding) (h : Holding) (capacity more : ℕ) → IsSound held capacity
    → length held < 4000 → capacity ≤ more → Stand HasEntry (trees_of held) h.left
    → Stand HasEntry (trees_of held) h.right → h.height ≡ height_of (tree_over (trees_of held) h)
    → h.height ≤ length (trees_of held) + 1 → IsSound (held ++ h ∷ []) more
sound_more held h capacity more sound room larger left right height low =
    let trees = trees_of held in
    let t = tree_over trees h in
    let count = length-append held (h ∷ []) in
    let now = sym (trees_snoc [] held h) in
    record {
      told = λ k lt.
          let side : (k < length held) ⊎ (k ≡ length held) = grind (arith, lt, count) in
          subst (λ (ts : List Entries). Tells ts k (slice_index_or (held ++ h ∷ []) k blank)) now
          (elim side [
            | inl less ↦ subst (λ (g : Holding). Tells (trees ++ t ∷ []) k g)
                (sym (held_before held h k less))
                (tells_more trees t k (slice_index_or held k blank) (sound.told k less))
            | inr last ↦ subst (λ (g : Holding). Tells (trees ++ t ∷ []) k g)
                (sym (held_last held h k last))
                (tells_newest trees k h (omega (arith, last, as_many held)) left right height low)
          ]);
      count = omega (arith, room, count);
      taken = omega (arith, sound.taken, larger);
    }

-- .. where the trees go by another name
pub pushed : (held : List Holding) (h : Holding) (trees : List Entries) (capacity more : ℕ)
    → trees_of held ≡ trees → IsSound held capacity → length held < 4000 → capacity ≤ more
    → Stand HasEntry trees h.left → Stand HasEntry trees h.right
    → h.height ≡ height_of (tree_over trees h) → h.height ≤ length trees + 1
    → IsSound (held ++ h ∷ []) more
pushed held h trees capacity more is sound room larger =
    subst
    (λ (ts : List Entries). Stand HasEntry ts h.left → Stand HasEntry ts h.right
    → h.height ≡ height_of (tree_over ts h) → h.height ≤ length ts + 1
    → IsSound (held ++ h ∷ []) more) is
    (sound_more held h capacity more sound room larger)
