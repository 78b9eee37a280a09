-- The layouts of a store's cells: what stands in each field of a cell with a role, and which role
-- the cell gets that is named there.
-- Source: this project's records of trees and versions.
use Rattle.std.specs.Prelude.{ℕ, Bool, true, false, List, [], ◌∷◌, ◌==◌, slice_index_or}
use Rattle.std.specs.Prelude.{Option, Some, None}
use Rattle.cell_words.specs.declared.fields.Field.{Field}
use Rattle.cell_words.specs.declared.fields.Field.TheVariants as field
use Rattle.heap_census.specs.declared.layouts.Part.{Part}
use Rattle.heap_census.specs.declared.layouts.Part.TheVariants as part
use Rattle.heap_census.specs.declared.layouts.Role.{Role}
use Rattle.heap_census.specs.declared.layouts.Role.TheVariants as role

-- the five payload fields and the kind
abbrev pub layout_of : Role → List Part
layout_of role.Anchor =
    part.Names role.Version ∷ part.Null ∷ part.Null ∷ part.Null ∷ part.Null ∷ part.Boxed ∷ []
layout_of role.Version =
    part.Number ∷ part.Names role.Node ∷ part.MayName role.Version ∷ part.Null ∷ part.Null
    ∷ part.Boxed ∷ []
layout_of role.Node =
    part.MayName role.Text ∷ part.MayName role.Entry ∷ part.Number ∷ part.Number ∷ part.Null
    ∷ part.Record ∷ []
layout_of role.Entry =
    part.Names role.Text ∷ part.Names role.Node ∷ part.MayName role.Entry
    ∷ part.MayName role.Entry ∷ part.Number ∷ part.Record ∷ []
layout_of role.Text =
    part.Number ∷ part.Number ∷ part.Number ∷ part.Number ∷ part.MayName role.Text
    ∷ part.Record ∷ []

abbrev pub part_of : Role → ℕ → Part
part_of r i = slice_index_or (layout_of r) i part.Null

-- the role of a cell that is named there
abbrev pub named_by : Part → Option Role
named_by part.Null = None
named_by part.Number = None
named_by part.Record = None
named_by part.Boxed = None
named_by (part.Names r) = Some r
named_by (part.MayName r) = Some r

-- the role that field i of a cell with a role gives to the cell that it names
abbrev pub gives : Role → ℕ → Option Role
gives r i = named_by (part_of r i)

-- the field may stand there
abbrev pub fits : Part → Field → Bool
fits part.Null field.Null = true
fits part.Null (field.Num n) = false
fits part.Null (field.Cell c) = false
fits part.Number field.Null = false
fits part.Number (field.Num n) = true
fits part.Number (field.Cell c) = false
fits part.Record field.Null = false
fits part.Record (field.Num n) = n == 1
fits part.Record (field.Cell c) = false
fits part.Boxed field.Null = false
fits part.Boxed (field.Num n) = n == 2
fits part.Boxed (field.Cell c) = false
fits (part.Names r) field.Null = false
fits (part.Names r) (field.Num n) = false
fits (part.Names r) (field.Cell c) = true
fits (part.MayName r) field.Null = true
fits (part.MayName r) (field.Num n) = false
fits (part.MayName r) (field.Cell c) = true
