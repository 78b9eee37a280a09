-- The items are appended to the others one by one, box by box.
use Rattle.std.proofs.Common.{◌≡◌, ℕ, suc, ◌+◌, List, [], ◌∷◌, ◌++◌, Option, Some, None}
use Rattle.std.proofs.Common.{Bool, true, sym, ◌∙◌, ap, arith, if◌then◌else◌}
use Rattle.std.proofs.lemmas.List.{append_assoc, append-nil}
use Rattle.run_limits.specs.declared.TheConstants.{MOST_VERSIONS}
use Rattle.core_machine.specs.State.{State, field_of}
use Rattle.heap_table.specs.Images.{ImageView, Shows}
use Rattle.mail_rule.specs.declared.items.Item.{Item}
use Rattle.mail_run.specs.Rest.{cell_in, item_of, rest_of}
use Rattle.mail_run.proofs.Behind.{none_after}

-- what a push that did not fail leaves
pub pushed : (whole : Bool) (new old : List Item) (item : Item)
    → new ≡ (if whole then old ++ item ∷ [] else old) → whole ≡ true → new ≡ old ++ item ∷ []
pushed whole new old item is good =
    is ∙ ap (λ (b : Bool). if b then old ++ item ∷ [] else old) good

module _ (image : ImageView) (old : List Item) (first : Option ℕ) where
  -- the items so far, and at most so many more from this box on
  abbrev pub IsOnWay : ℕ → List Item → Option ℕ → Type 0
  IsOnWay n items at = (s : State) → Shows image s
      → items ++ rest_of s n at ≡ old ++ rest_of s MOST_VERSIONS first

  pub starts : (n : ℕ) → 0 + n ≡ MOST_VERSIONS → IsOnWay n old first
  starts n is s shows = ap (λ (k : ℕ). old ++ rest_of s k first)
      (let e : n ≡ MOST_VERSIONS = omega (arith, is) in e)

  pub goes : (n : ℕ) (items more : List Item) (cell : ℕ) (item : Item) (next : Option ℕ)
      → IsOnWay (suc n) items (Some cell)
      → ((s : State) → Shows image s → item ≡ item_of s cell)
      → ((s : State) → Shows image s → next ≡ cell_in (field_of s cell 3))
      → more ≡ items ++ item ∷ [] → IsOnWay n more next
  goes n items more cell item next was item_is next_is more_is s shows =
      ap (λ (xs : List Item). xs ++ rest_of s n next) more_is
      ∙ append_assoc items (item ∷ []) (rest_of s n next)
      ∙ ap (λ (i : Item). items ++ i ∷ rest_of s n next) (item_is s shows)
      ∙ ap (λ (at : Option ℕ). items ++ item_of s cell ∷ rest_of s n at) (next_is s shows)
      ∙ was s shows

  pub ends : (n : ℕ) (items : List Item) → IsOnWay n items None → (s : State) → Shows image s
      → items ≡ old ++ rest_of s MOST_VERSIONS first
  ends n items was s shows =
      sym (append-nil items) ∙ ap (λ (xs : List Item). items ++ xs) (sym (none_after s n))
      ∙ was s shows

  pub stops : (items : List Item) (at : Option ℕ) → IsOnWay 0 items at → (s : State)
      → Shows image s → items ≡ old ++ rest_of s MOST_VERSIONS first
  stops items at was s shows = sym (append-nil items) ∙ was s shows
