-- Where the anchor leads to every used cell, none is floating: each cell that a cell with a role
-- names has a role, since a part of a layout that is a cell gives one.
use Rattle.std.proofs.Common.{◌≡◌, ◌≢◌, ◌∙◌, ℕ, true, false, List}
use Rattle.std.proofs.Common.{[], inl, inr, refl, sym, ap, arith}
use Rattle.std.proofs.lemmas.Bool.{cases_lt}
use Rattle.std.proofs.lemmas.List.{get_or_past}
use Rattle.cell_words.specs.declared.colours.Colour.{Colour}
use Rattle.cell_words.specs.declared.colours.Colour.TheVariants as colour
use Rattle.cell_words.specs.declared.fields.Field.{Field}
use Rattle.cell_words.specs.declared.fields.Field.TheVariants as field
use Rattle.cell_words.specs.declared.presences.Presence.{Presence}
use Rattle.closed_store.specs.Chain.{ShowsVersions}
use Rattle.core_machine.specs.InRange.{IsShaped}
use Rattle.core_machine.specs.State.{State, colour_of, field_of, no_presence, presence_in}
use Rattle.core_machine.specs.Words.{is_blue}
use Rattle.dlg_core.specs.Collects.{IsFromAnchor, IsTidy}
use Rattle.dlg_core.specs.Reachable.{anchor, held, named}
use Rattle.doc_tree.specs.Tree.{DocTree}
use Rattle.heap_census.specs.declared.layouts.Role.{Role}
use Rattle.heap_census.specs.declared.layouts.Role.TheVariants as role
use Rattle.heap_census.specs.Census.{IsFloating}
use Rattle.heap_census.specs.Heap.{heap_of}
use Rattle.heap_census.specs.Layouts.{fits, part_of}
use Rattle.heap_census.specs.Roles.{HasRole}
use Rattle.heap_census.specs.Roles as roles
use Rattle.closed_store.proofs.Bare.{IsBare}
use Rattle.closed_store.proofs.Layouts.{cell_gives}
use Rattle.closed_store.proofs.Roles.{shape_of}
use Rattle.version_rule.proofs.Reached.{past_six}

nobody : (i : ℕ) → (presence_in [] i).inside ≡ true → ⊥
nobody i inside =
    let out : (presence_in [] i).inside ≡ false =
    ap (λ (p : Presence). p.inside) (get_or_past [] i no_presence (omega arith)) in
    let clash : false ≡ true = sym out ∙ inside in cc

not_blue : (x : Colour) → is_blue x ≡ false → x ≢ colour.Blue
not_blue x is blue = let clash : true ≡ false = sym (ap is_blue blue) ∙ is in cc

module _ (s : State) (shape : IsShaped s) (keep : ℕ) (trees : List DocTree) (bare : IsBare s)
    (stay : ShowsVersions s keep trees) where
  HasSome : ℕ → Type 0
  HasSome c = (r : Role) × HasRole (heap_of s) r c

  named_too : (r : Role) (c f d : ℕ) → HasRole (heap_of s) r c → field_of s c f ≡ field.Cell d
      → HasSome d
  unfolding HasSome
  named_too r c f d has at = elim (cases_lt f 6) [
    | inl lt ↦
        let gave = cell_gives r f d
        (sym (ap (λ (v : Field). fits (part_of r f) v) at)
        ∙ shape_of s keep trees bare stay r c has f lt) in
        (gave.0, roles.named f has lt gave.1 at)
    | inr past ↦ absurd (
        let clash : field.Null ≡ field.Cell d = sym (past_six s c f shape past) ∙ at in cc)
  ]

  has_some : (c : ℕ) → IsFromAnchor s c → HasSome c
  unfolding HasSome
  has_some c (anchor is) = (role.Anchor, roles.anchor refl is)
  has_some c (held i inside there) = absurd (nobody i inside)
  has_some d (named {c} f from at) =
      let before = has_some c from in named_too before.0 c f d before.1 at

  pub none_floating : IsTidy s → (c : ℕ) → IsFloating (heap_of s) c → ⊥
  unfolding HasSome
  none_floating tidy c is =
      let some = has_some c (tidy c (not_blue (colour_of s c) is.0)) in is.1 some.0 some.1
