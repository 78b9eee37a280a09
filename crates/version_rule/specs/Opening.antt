-- What a store of versions opens with: the anchor, version 0, and the root of the empty tree.
-- Source: this project's.
use Rattle.std.specs.Prelude.{◌≡◌, ◌≤◌, List, [], ◌∷◌, Some, None}
use Rattle.cell_words.specs.declared.fields.Field.{Field}
use Rattle.cell_words.specs.declared.fields.Field.TheVariants as field
use Rattle.run_limits.specs.declared.TheConstants.{MOST_CLIENTS}
use Rattle.heap_rule.specs.Lore.{Terms, put}
use Rattle.heap_rule.specs.Shape.{Shape}
use Rattle.version_rule.specs.Spelling.{bare_root}

abbrev pub anchor_row : List Field
anchor_row =
    field.Cell 1 ∷ field.Null ∷ field.Null ∷ field.Null ∷ field.Null ∷ field.Num 2 ∷ []

abbrev pub version_row : List Field
version_row =
    field.Num 0 ∷ field.Cell 2 ∷ field.Null ∷ field.Null ∷ field.Null ∷ field.Num 2 ∷ []

abbrev pub root_row : List Field
root_row = field.Null ∷ field.Null ∷ field.Num 1 ∷ field.Num 0 ∷ field.Null ∷ field.Num 1 ∷ []

abbrev pub first_rows : List (List Field)
first_rows = anchor_row ∷ version_row ∷ root_row ∷ []

-- the root is the one record among them
abbrev pub first_terms : Terms
first_terms = put (λ x. None) 2 (Some bare_root)

-- a heap that opens so: its setting is how many versions stay
pub record OpensVersions (h : Shape) : Type 0 where
  pub first : h.first ≡ first_rows
  pub keeps_some : 1 ≤ h.setting
  pub keeps_few : h.setting ≤ 100
  pub few : h.mutators ≤ MOST_CLIENTS
