-- What kinds of change leave the rule: one pass and the queue change, or one more pass comes.
use Rattle.std.proofs.Common.{◌≡◌, ◌≢◌, ◌⊎◌, ℕ, ◌<◌, ◌++◌, List, [], ◌∷◌, set, inl, inr}
use Rattle.std.proofs.Common.{sym, ap, ◌∙◌, ⊎_elim, arith}
use Rattle.std.specs.Prelude.{Some, None, All}
use mathlib.Core.Option.{some}
use lib.ListN.{get_elem?}
use Rattle.crossbeam_queue.proofs.Lists.{at_set, at_snoc}
use Rattle.free_cells.specs.declared.counts.Counts.{Counts}
use Rattle.free_cells.specs.Counts.{unused}
use Rattle.free_cells.specs.Below.{IsBelowAt}

-- a pass that knows of a cell is in use
pub in_use : (cells : ℕ) (p : Counts) → 0 < p.cells → (p.cells ≡ cells) ⊎ (p ≡ unused) → p.cells
    ≡ cells
in_use cells p used (inl same) = same
in_use cells p used (inr none) = absurd (omega (arith, used, ap (λ (q : Counts). q.cells) none))

-- where a pass is in use, no other pass knows what the queue holds
pub none_known : (cells : ℕ) (items : List ℕ) (passes : List Counts) (port : ℕ) (v : Counts)
    → IsBelowAt cells items passes → get_elem? passes port ≡ some v → 0 < v.cells
    → (i : ℕ) (p : Counts) (known : List ℕ) → i ≢ port → get_elem? passes i ≡ some p → p.content
    ≡ Some known → ⊥
none_known cells items passes port v rule here used i p known apart there knows =
    let idle = rule.only i p known there knows port v (λ same. apart (sym same)) here in
    omega (arith, used, ap (λ (q : Counts). q.cells) idle)

-- what a changed pass knows now: the queue exactly, and it knew it before
abbrev pub Knows : Counts → Counts → List ℕ → Type 0
Knows v w items = (known : List ℕ) → w.content ≡ Some known → (items ≡ known)
    × ((before : List ℕ) × (v.content ≡ Some before))

pub changed : (cells : ℕ) (items after : List ℕ) (passes : List Counts) (port : ℕ) (v w : Counts)
    → IsBelowAt cells items passes → get_elem? passes port ≡ some v → 0 < v.cells → w.cells
    ≡ v.cells
    → All (λ cell. cell < cells) after → Knows v w after → IsBelowAt cells after (set passes port w)
changed cells items after passes port v w rule here used same below knows =
    let mine : v.cells ≡ cells = in_use cells v used (rule.sized port v here) in
    record {
      below = below;
      sized = λ i p at. ⊎_elim
          (λ (x : (i ≡ port) × (w ≡ p)). inl (ap (λ (q : Counts). q.cells) (sym x.1) ∙ same ∙ mine))
          (λ (x : (i ≢ port) × (get_elem? passes i ≡ some p)). rule.sized i p x.1)
          (at_set passes port i w p at);
      exact = λ i p known at content. ⊎_elim
          (λ (x : (i ≡ port) × (w ≡ p)).
          (knows known (ap (λ (q : Counts). q.content) x.1 ∙ content)).0)
          (λ (x : (i ≢ port) × (get_elem? passes i ≡ some p)).
          absurd
          (none_known cells items passes port v rule here used i p known x.0 x.1 content))
          (at_set passes port i w p at);
      only = λ i p known at content j q apart at_j. ⊎_elim
          (λ (x : (i ≡ port) × (w ≡ p)). let before =
          (knows known (ap (λ (r : Counts). r.content) x.1 ∙ content)).1 in ⊎_elim
          (λ (y : (j ≡ port) × (w ≡ q)). absurd (apart (y.0 ∙ sym x.0)))
          (λ (y : (j ≢ port) × (get_elem? passes j ≡ some q)).
          rule.only port v before.0 here before.1 j q y.0 y.1)
          (at_set passes port j w q at_j))
          (λ (x : (i ≢ port) × (get_elem? passes i ≡ some p)).
          absurd
          (none_known cells items passes port v rule here used i p known x.0 x.1 content))
          (at_set passes port i w p at);
    }

-- one more pass that is not in use
pub idle_joined : (cells : ℕ) (items : List ℕ) (passes : List Counts) → IsBelowAt cells items passes
    → IsBelowAt cells items (passes ++ unused ∷ [])
idle_joined cells items passes rule =
    record {
      below = rule.below;
      sized = λ i p at.
          ⊎_elim (rule.sized i p) (λ (same : unused ≡ p). inr (sym same))
          (at_snoc passes unused p i at);
      exact = λ i p known at content. ⊎_elim (λ old. rule.exact i p known old content)
          (λ (same : unused ≡ p). let e = ap (λ (q : Counts). q.content) same ∙ content in cc)
          (at_snoc passes unused p i at);
      only = λ i p known at content j q apart at_j. ⊎_elim
          (λ old.
          ⊎_elim (rule.only i p known old content j q apart) (λ (same : unused ≡ q). sym same)
          (at_snoc passes unused q j at_j))
          (λ (same : unused ≡ p). let e = ap (λ (r : Counts). r.content) same ∙ content in cc)
          (at_snoc passes unused p i at);
    }

-- one more pass in use, where nobody knows what the queue holds
pub joined : (cells : ℕ) (items : List ℕ) (passes : List Counts) (w : Counts)
    → IsBelowAt cells items passes → w.cells ≡ cells → w.content ≡ None
    → ((i : ℕ) (p : Counts) (known : List ℕ) → get_elem? passes i ≡ some p → p.content ≡ Some known
    → ⊥)
    → IsBelowAt cells items (passes ++ w ∷ [])
joined cells items passes w rule same none nobody =
    let nobody_now : (i : ℕ) (p : Counts) (known : List ℕ) → get_elem? (passes ++ w ∷ []) i ≡ some p
    → p.content ≡ Some known → ⊥ =
    λ i p known at content. ⊎_elim (λ old. nobody i p known old content)
    (λ (is : w ≡ p). let e = sym none ∙ ap (λ (q : Counts). q.content) is ∙ content in cc)
    (at_snoc passes w p i at) in
    record {
      below = rule.below;
      sized = λ i p at.
          ⊎_elim (rule.sized i p)
          (λ (is : w ≡ p). inl (ap (λ (q : Counts). q.cells) (sym is) ∙ same))
          (at_snoc passes w p i at);
      exact = λ i p known at content. absurd (nobody_now i p known at content);
      only = λ i p known at content j q apart at_j. absurd (nobody_now i p known at content);
    }
