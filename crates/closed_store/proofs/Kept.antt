-- What a census of a closed store counts.
use Rattle.std.proofs.Common.{◌≡◌, ◌∙◌, ℕ, List, ◌∷◌, length}
use Rattle.std.proofs.Common.{Some, None, refl, arith}
use Rattle.std.proofs.lemmas.Bool.{false_from_ne_true}
use Rattle.closed_store.specs.Chain.{ShowsVersions}
use Rattle.client_history.specs.Closing.{EndedStore}
use Rattle.core_machine.specs.InRange.{IsShaped}
use Rattle.core_machine.specs.State.{State}
use Rattle.dlg_core.specs.Collects.{IsTidy}
use Rattle.dlg_core.specs.Safe.{IsSafe}
use Rattle.doc_tree.specs.Tree.{DocTree}
use Rattle.heap_census.specs.declared.layouts.Role.TheVariants as role
use Rattle.heap_census.specs.Census.{IsFloating, IsSound}
use Rattle.heap_census.specs.Counts.{IsCountOf}
use Rattle.heap_census.specs.Heap.{NamesFit, heap_of}
use Rattle.heap_census.specs.Roles.{HasRole}
use Rattle.heap_census.specs.Roles as roles
use Rattle.heap_census.proofs.Roles.{role_below}
use Rattle.heap_rule.specs.Shape.{Shape}
use Rattle.heap_rule.specs.declared.view.View.{View}
use Rattle.heap_table.specs.Images.{ImageView, Shows}
use Rattle.version_rule.specs.Chains.{Among}
use Rattle.version_rule.specs.Pass.{Pass}
use Rattle.closed_store.specs.Kept.{HasCensus}
use Rattle.closed_store.proofs.Bare.{IsBare, anchor_bare}
use Rattle.closed_store.proofs.Counting.{found_counts, none_counts}
use Rattle.closed_store.proofs.Roles.{is_for, not_faulty, sound}
use Rattle.closed_store.proofs.Swept.{none_floating}
use Rattle.closed_store.proofs.Versions.{differ, versions_have}

module _ (s : State) (shape : IsShaped s) (keep : ℕ) (trees : List DocTree) (bare : IsBare s)
    (stay : ShowsVersions s keep trees) where
  names_fit : NamesFit s.cells (heap_of s)
  names_fit = record {
    cells_are = refl;
    some_cells = shape.cells_fit.some_cells;
    fields_fit = shape.names_fit.fields_fit;
  }

  is_version : (c : ℕ) → Among c (stay.latest ∷ stay.older) → HasRole (heap_of s) role.Version c
  is_version c there =
      versions_have s trees _ (stay.latest ∷ stay.older) stay.chain
      (roles.named 0 (roles.anchor refl refl) (omega arith) refl stay.names) c there

  pub counts_chain : (count : ℕ) → IsCountOf (HasRole (heap_of s) role.Version) s.cells count
      → count ≡ length (stay.latest ∷ stay.older)
  counts_chain count is =
      is.counts
      ∙ found_counts (stay.latest ∷ stay.older) is.test s.cells
      (differ s trees _ (stay.latest ∷ stay.older) stay.chain)
      (λ c there. role_below s.cells (heap_of s) role.Version c names_fit (is_version c there))
      (λ c lt. (
        (λ yes. is_for s keep trees bare stay role.Version c ((is.tells c lt).0 yes)),
        (λ there. (is.tells c lt).1 (is_version c there)),
      ))

  pub counts_none : (count : ℕ) → IsCountOf (IsFloating (heap_of s)) s.cells count → IsTidy s
      → count ≡ 0
  counts_none count is tidy =
      is.counts
      ∙ none_counts is.test s.cells (λ c lt. false_from_ne_true (is.test c)
      (λ yes. none_floating s shape keep trees bare stay tidy c ((is.tells c lt).0 yes)))

  pub has_census : (image : ImageView) (IsSwept : Type 0) → IsSafe s → Shows image s
      → (IsSwept → IsTidy s) → HasCensus image (length (stay.latest ∷ stay.older)) IsSwept
  has_census image IsSwept safe shown tidy None is =
      absurd (not_faulty (heap_of s) (sound s keep trees bare stay safe) (is.found s shown))
  has_census image IsSwept safe shown tidy (Some x) is =
      let counts = is.counts s shown in
      record {
        versions = counts_chain x.versions counts.versions;
        floating = λ swept. counts_none x.floating counts.floating (tidy swept);
      }

-- the anchor of a store's heap
pub ended_bare : (h : Shape) (words : List ℕ) (v : View Pass) (ended : EndedStore h words v)
    → IsBare ended.shows.core
ended_bare h words v ended =
    let e = ended.shows in anchor_bare e.core e.lore _ e.facts e.kept.latest

module _ (h : Shape) (words : List ℕ) (v : View Pass) (ended : EndedStore h words v) (keep : ℕ)
    (trees : List DocTree) where
  pub never_refused : ShowsVersions ended.shows.core keep trees
      → IsSound (heap_of ended.shows.core)
  never_refused stay =
      sound ended.shows.core keep trees (ended_bare h words v ended) stay ended.shows.safe

  pub chain_counted : (stay : ShowsVersions ended.shows.core keep trees) (count : ℕ)
      → IsCountOf (HasRole (heap_of ended.shows.core) role.Version) ended.shows.core.cells count
      → count ≡ length (stay.latest ∷ stay.older)
  chain_counted stay =
      counts_chain ended.shows.core ended.shows.shaped keep trees (ended_bare h words v ended)
      stay

  pub swept_whole : ShowsVersions ended.shows.core keep trees → IsTidy ended.shows.core
      → (c : ℕ) → IsFloating (heap_of ended.shows.core) c → ⊥
  swept_whole stay =
      none_floating ended.shows.core ended.shows.shaped keep trees
      (ended_bare h words v ended) stay

-- whatever it is by which the heap is known to be swept
pub census_kept : (h : Shape) (image : ImageView) (v : View Pass)
    (ended : EndedStore h image.words v) (keep : ℕ) (trees : List DocTree)
    (stay : ShowsVersions ended.shows.core keep trees) (IsSwept : Type 0)
    → Shows image ended.shows.core → (IsSwept → IsTidy ended.shows.core)
    → HasCensus image (length (stay.latest ∷ stay.older)) IsSwept
census_kept h image v ended keep trees stay IsSwept shown tidy =
    has_census ended.shows.core ended.shows.shaped keep trees
    (ended_bare h image.words v ended) stay image IsSwept ended.shows.safe shown tidy
