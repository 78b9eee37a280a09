-- The parts of a layout, as they are read.
use Rattle.std.proofs.Common.{◌≡◌, ◌<◌, ◌∙◌, ℕ, List, length, get_or, refl, ap, subst, sym}
use Rattle.std.proofs.lemmas.List.{get_or_default}
use Rattle.heap_census.specs.declared.layouts.Part.{Part}
use Rattle.heap_census.specs.declared.layouts.Part.TheVariants as part
use Rattle.heap_census.specs.declared.layouts.Role.{Role}
use Rattle.heap_census.specs.declared.layouts.Role.TheVariants as role
use Rattle.heap_census.specs.Layouts.{layout_of, part_of}

six_parts : (r : Role) → length (layout_of r) ≡ 6
six_parts role.Anchor = refl
six_parts role.Version = refl
six_parts role.Node = refl
six_parts role.Entry = refl
six_parts role.Text = refl

pub part_is : (parts : List Part) (r : Role) (i : ℕ) (d : Part) → parts ≡ layout_of r → i < 6
    → get_or parts i d ≡ part_of r i
part_is parts r i d is among =
    ap (λ (ps : List Part). get_or ps i d) is
    ∙ get_or_default (layout_of r) i d part.Null (subst (λ n. i < n) (sym (six_parts r)) among)
