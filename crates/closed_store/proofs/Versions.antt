-- The versions of a chain: each has the layout of a version, names a node and the next of them, and
-- differs from the others by its number.
use Rattle.std.proofs.Common.{◌≡◌, ◌≤◌, ◌+◌, ◌∙◌, ℕ, zero, suc, true, List, [], ◌∷◌}
use Rattle.std.proofs.Common.{Some, refl, sym, ap, subst, arith}
use Rattle.cell_words.specs.declared.fields.Field.{Field}
use Rattle.cell_words.specs.declared.fields.Field.TheVariants as field
use Rattle.closed_store.specs.Chain.{Denotes, IsChain, IsVersionAt, last, more}
use Rattle.core_machine.specs.State.{State, field_of}
use Rattle.doc_records.specs.Trees.{IsNode}
use Rattle.doc_tree.specs.Tree.{DocTree}
use Rattle.heap_census.specs.declared.layouts.Role.{Role}
use Rattle.heap_census.specs.declared.layouts.Role.TheVariants as role
use Rattle.heap_census.specs.Heap.{heap_of}
use Rattle.heap_census.specs.Layouts.{fits, gives, part_of}
use Rattle.heap_census.specs.Roles.{HasRole}
use Rattle.heap_census.specs.Roles as roles
use Rattle.version_rule.specs.Chains.{Among, first, later}
use Rattle.closed_store.proofs.Cells.{DenotesSuch, IsFor}
use Rattle.closed_store.proofs.Counting.{Differ}
use Rattle.closed_store.proofs.Layouts.{HasShape}

-- the link names one of these versions, or none
abbrev pub StaysIn : List ℕ → Field → Type 0
StaysIn cells field.Null = Unit {0}
StaysIn cells (field.Num n) = ⊥
StaysIn cells (field.Cell c) = Among c cells

-- the cell is the box of a version
pub record IsVersionIn (s : State) (cells : List ℕ) (c : ℕ) : Type 0 where
  pub number : ℕ
  pub tree : DocTree
  pub link : Field
  pub version : IsVersionAt s c number tree link
  pub stays : StaysIn cells link

pub none_there : (c : ℕ) → Among c [] → ⊥
none_there c h = elim h [ ]

link_fits : (cells : List ℕ) (link : Field) → StaysIn cells link
    → fits (part_of role.Version 2) link ≡ true
link_fits cells field.Null is = refl
link_fits cells (field.Num n) is = absurd is
link_fits cells (field.Cell c) is = refl

linked : (cells : List ℕ) (link : Field) (y : ℕ) → StaysIn cells link → link ≡ field.Cell y
    → Among y cells
linked cells link y is e = subst (StaysIn cells) e is

null_fits : (value : Field) → value ≡ field.Null → fits (part_of role.Version 3) value ≡ true
null_fits value is = ap (λ (f : Field). fits (part_of role.Version 3) f) is

module _ (s : State) (trees : List DocTree) where
  pub version_in : (cells : List ℕ) (number : ℕ) (xs : List ℕ) → IsChain s trees number xs
      → ((d : ℕ) → Among d xs → Among d cells) → (c : ℕ) → Among c xs → IsVersionIn s cells c
  version_in cells _ _ (last {number = n} is) within c first =
      record { number = n; tree = _; link = field.Null; version = is; stays = tt }
  version_in cells _ _ (last is) within c (later there) = absurd (none_there c there)
  version_in cells _ _ (more {older = o} {number = n} is rest) within c first =
      record {
        number = n + 1;
        tree = _;
        link = field.Cell o;
        version = is;
        stays = within o (later first);
      }
  version_in cells _ _ (more is rest) within c (later there) =
      version_in cells _ _ rest (λ d among. within d (later among)) c there

  -- no version of the chain has a greater number than the first
  number_of : (number : ℕ) (xs : List ℕ) → IsChain s trees number xs → (c : ℕ) → Among c xs
      → (n : ℕ) × (n ≤ number) × (field_of s c 0 ≡ field.Num n)
  number_of _ _ (last {number = n} is) c first = (n, omega arith, is.number_is)
  number_of _ _ (last is) c (later there) = absurd (none_there c there)
  number_of _ _ (more {number = n} is rest) c first = (n + 1, omega arith, is.number_is)
  number_of _ _ (more {number = n} is rest) c (later there) =
      let below = number_of _ _ rest c there in
      (below.0, (let most = below.1 in omega (arith, most)), below.2)

  pub differ : (number : ℕ) (xs : List ℕ) → IsChain s trees number xs → Differ xs
  differ _ _ (last {cell = c} is) = (none_there c, tt)
  differ _ _ (more {cell = c} {number = n} is rest) = (
    (λ there.
        let below = number_of _ _ rest c there in
        let most = below.1 in
        let same : field.Num below.0 ≡ field.Num (n + 1) = sym below.2 ∙ is.number_is in
        let equal : below.0 ≡ n + 1 = cc in
        omega (arith, most, equal)),
    differ _ _ rest,
  )

  -- where the first has the role of a version, each has it
  abbrev pub FirstHas : List ℕ → Type 0
  FirstHas [] = Unit {0}
  FirstHas (x ∷ xs) = HasRole (heap_of s) role.Version x

  pub versions_have : (number : ℕ) (xs : List ℕ) → IsChain s trees number xs → FirstHas xs
      → (c : ℕ) → Among c xs → HasRole (heap_of s) role.Version c
  versions_have _ _ (last is) has c first = has
  versions_have _ _ (last is) has c (later there) = absurd (none_there c there)
  versions_have _ _ (more is rest) has c first = has
  versions_have _ _ (more is rest) has c (later there) =
      versions_have _ _ rest (roles.named 2 has (omega arith) refl is.link_is) c there

module _ (s : State) (cells : List ℕ) (c : ℕ) (in_it : IsVersionIn s cells c) where
  pub version_shape : HasShape role.Version (field_of s c)
  version_shape zero lt =
      ap (λ (f : Field). fits (part_of role.Version 0) f) in_it.version.number_is
  version_shape (suc zero) lt =
      ap (λ (f : Field). fits (part_of role.Version 1) f) in_it.version.names
  version_shape (suc (suc zero)) lt =
      ap (λ (f : Field). fits (part_of role.Version 2) f) in_it.version.link_is
      ∙ link_fits cells in_it.link in_it.stays
  version_shape (suc (suc (suc zero))) lt = null_fits (field_of s c 3) in_it.version.fourth
  version_shape (suc (suc (suc (suc zero)))) lt =
      null_fits (field_of s c 4) in_it.version.fifth
  version_shape (suc (suc (suc (suc (suc zero))))) lt =
      ap (λ (f : Field). fits (part_of role.Version 5) f) in_it.version.kind
  version_shape (suc (suc (suc (suc (suc (suc i)))))) lt = absurd (omega (arith, lt))

  node_named : (y : ℕ) → field_of s c 1 ≡ field.Cell y → DenotesSuch s IsNode y
  node_named y at = record {
    term = in_it.version.term;
    denotes = subst (λ (f : Field). Denotes s f in_it.version.term)
        (sym in_it.version.names ∙ at) in_it.version.denotes;
    such = in_it.version.spells.node;
  }

  pub from_version : (i : ℕ) (q : Role) (y : ℕ) → gives role.Version i ≡ Some q
      → field_of s c i ≡ field.Cell y → IsFor s cells q y
  from_version zero q y gave at = absurd cc
  from_version (suc zero) q y gave at =
      let same : role.Node ≡ q = cc in
      subst (λ (r : Role). IsFor s cells r y) same (node_named y at)
  from_version (suc (suc zero)) q y gave at =
      let same : role.Version ≡ q = cc in
      subst (λ (r : Role). IsFor s cells r y) same
      (linked cells in_it.link y in_it.stays (sym in_it.version.link_is ∙ at))
  from_version (suc (suc (suc zero))) q y gave at = absurd cc
  from_version (suc (suc (suc (suc zero)))) q y gave at = absurd cc
  from_version (suc (suc (suc (suc (suc zero))))) q y gave at = absurd cc
  from_version (suc (suc (suc (suc (suc (suc i)))))) q y gave at = absurd cc
