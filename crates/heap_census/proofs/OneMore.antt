-- One flag more, and whether there is one.
use Rattle.std.specs.Prelude.{◌||◌}
use Rattle.std.proofs.Common.{◌≡◌, ◌⊎◌, ◌∙◌, inl, inr, true, false, refl, sym}
use Rattle.std.proofs.lemmas.Bool.{false≢true, or_cases, or_parts}
use Rattle.heap_census.specs.declared.flags.Roles.{Roles}
use Rattle.heap_census.specs.declared.layouts.Role.{Role}
use Rattle.heap_census.specs.declared.layouts.Role.TheVariants as role
use Rattle.heap_census.specs.Flags.{has_any, has_role, with_role}

pub has_with : (m : Roles) (r : Role) → has_role (with_role m r) r ≡ true
has_with m role.Anchor = refl
has_with m role.Version = refl
has_with m role.Node = refl
has_with m role.Entry = refl
has_with m role.Text = refl

pub has_still : (m : Roles) (r q : Role) → has_role m q ≡ true → has_role (with_role m r) q ≡ true
has_still m role.Anchor role.Anchor h = refl
has_still m role.Version role.Version h = refl
has_still m role.Node role.Node h = refl
has_still m role.Entry role.Entry h = refl
has_still m role.Text role.Text h = refl
has_still m role.Anchor role.Version h = h
has_still m role.Anchor role.Node h = h
has_still m role.Anchor role.Entry h = h
has_still m role.Anchor role.Text h = h
has_still m role.Version role.Anchor h = h
has_still m role.Version role.Node h = h
has_still m role.Version role.Entry h = h
has_still m role.Version role.Text h = h
has_still m role.Node role.Anchor h = h
has_still m role.Node role.Version h = h
has_still m role.Node role.Entry h = h
has_still m role.Node role.Text h = h
has_still m role.Entry role.Anchor h = h
has_still m role.Entry role.Version h = h
has_still m role.Entry role.Node h = h
has_still m role.Entry role.Text h = h
has_still m role.Text role.Anchor h = h
has_still m role.Text role.Version h = h
has_still m role.Text role.Node h = h
has_still m role.Text role.Entry h = h

pub had_before : (m : Roles) (r q : Role) → has_role (with_role m r) q ≡ true
    → (has_role m q ≡ true) ⊎ (q ≡ r)
had_before m role.Anchor role.Anchor h = inr refl
had_before m role.Version role.Version h = inr refl
had_before m role.Node role.Node h = inr refl
had_before m role.Entry role.Entry h = inr refl
had_before m role.Text role.Text h = inr refl
had_before m role.Anchor role.Version h = inl h
had_before m role.Anchor role.Node h = inl h
had_before m role.Anchor role.Entry h = inl h
had_before m role.Anchor role.Text h = inl h
had_before m role.Version role.Anchor h = inl h
had_before m role.Version role.Node h = inl h
had_before m role.Version role.Entry h = inl h
had_before m role.Version role.Text h = inl h
had_before m role.Node role.Anchor h = inl h
had_before m role.Node role.Version h = inl h
had_before m role.Node role.Entry h = inl h
had_before m role.Node role.Text h = inl h
had_before m role.Entry role.Anchor h = inl h
had_before m role.Entry role.Version h = inl h
had_before m role.Entry role.Node h = inl h
had_before m role.Entry role.Text h = inl h
had_before m role.Text role.Anchor h = inl h
had_before m role.Text role.Version h = inl h
had_before m role.Text role.Node h = inl h
had_before m role.Text role.Entry h = inl h

-- whether there is a flag at all

pub some_role : (m : Roles) → has_any m ≡ true → (r : Role) × (has_role m r ≡ true)
some_role m is = elim (or_cases (m.anchor || m.version || m.node || m.entry) m.text is) [
  | inr text ↦ (role.Text, text)
  | inl four ↦ elim (or_cases (m.anchor || m.version || m.node) m.entry four) [
    | inr entry ↦ (role.Entry, entry)
    | inl three ↦ elim (or_cases (m.anchor || m.version) m.node three) [
      | inr node ↦ (role.Node, node)
      | inl two ↦ elim (or_cases m.anchor m.version two) [
        | inl anchor ↦ (role.Anchor, anchor)
        | inr version ↦ (role.Version, version)
      ]
    ]
  ]
]

none_of : (m : Roles) → m.anchor ≡ false → m.version ≡ false → m.node ≡ false → m.entry ≡ false
    → m.text ≡ false → (r : Role) → has_role m r ≡ true → ⊥
none_of m a v n e t role.Anchor has = false≢true (sym a ∙ has)
none_of m a v n e t role.Version has = false≢true (sym v ∙ has)
none_of m a v n e t role.Node has = false≢true (sym n ∙ has)
none_of m a v n e t role.Entry has = false≢true (sym e ∙ has)
none_of m a v n e t role.Text has = false≢true (sym t ∙ has)

pub no_role : (m : Roles) → has_any m ≡ false → (r : Role) → has_role m r ≡ true → ⊥
no_role m is r has =
    let four = or_parts (m.anchor || m.version || m.node || m.entry) m.text is in
    let three = or_parts (m.anchor || m.version || m.node) m.entry four.0 in
    let two = or_parts (m.anchor || m.version) m.node three.0 in
    let one = or_parts m.anchor m.version two.0 in
    none_of m one.0 one.1 two.1 three.1 four.1 r has
