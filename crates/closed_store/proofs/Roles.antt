-- Each cell with a role is what it is named for: by induction along the fields that give roles.
-- So it has the layout of its role, and no other role.
use Rattle.std.proofs.Common.{◌≡◌, ◌≤◌, ◌<◌, ◌∙◌, ℕ, zero, suc, true, false, List, ◌∷◌, Some}
use Rattle.std.proofs.Common.{refl, sym, ap, subst, arith}
use Rattle.std.proofs.lemmas.Bool.{false_from_ne_true}
use Rattle.cell_words.specs.declared.colours.Colour.{Colour}
use Rattle.cell_words.specs.declared.colours.Colour.TheVariants as colour
use Rattle.cell_words.specs.declared.fields.Field.{Field}
use Rattle.cell_words.specs.declared.fields.Field.TheVariants as field
use Rattle.closed_store.specs.Chain.{ShowsVersions}
use Rattle.core_machine.specs.State.{State, colour_of, field_of}
use Rattle.core_machine.specs.Words.{is_blue}
use Rattle.dlg_core.specs.Reachable.{Reachable}
use Rattle.dlg_core.specs.Reachable as reach
use Rattle.dlg_core.specs.Safe.{IsSafe}
use Rattle.doc_tree.specs.Tree.{DocTree}
use Rattle.heap_census.specs.declared.layouts.Role.{Role}
use Rattle.heap_census.specs.declared.layouts.Role.TheVariants as role
use Rattle.heap_census.specs.Census.{IsFaulty, IsSound, free, shapeless, two_roles}
use Rattle.heap_census.specs.Heap.{Heap, heap_of}
use Rattle.heap_census.specs.Layouts.{fits, gives, part_of}
use Rattle.heap_census.specs.Roles.{HasRole, anchor, named}
use Rattle.version_rule.specs.Chains.{Among, first}
use Rattle.closed_store.proofs.Bare.{IsBare}
use Rattle.closed_store.proofs.Cells.{IsFor, entry_shape, from_entry, from_node, from_text}
use Rattle.closed_store.proofs.Cells.{node_shape, text_shape}
use Rattle.closed_store.proofs.Layouts.{HasShape, one_layout}
use Rattle.closed_store.proofs.Versions.{IsVersionIn, from_version, version_in, version_shape}

-- a cell with a role is one that the anchor leads to
pub reached : (s : State) (r : Role) (c : ℕ) → HasRole (heap_of s) r c → Reachable s c
reached s r c (anchor is here) = reach.anchor here
reached s q d (named {r} {c = b} i has lt gave at) = reach.named i (reached s r b has) at

not_blue : (x : Colour) → is_blue x ≡ true → x ≡ colour.Blue
not_blue colour.Blue is = refl
not_blue colour.White is = absurd cc
not_blue colour.Gray is = absurd cc
not_blue colour.Black is = absurd cc

module _ (s : State) (keep : ℕ) (trees : List DocTree) (bare : IsBare s)
    (stay : ShowsVersions s keep trees) where
  abbrev pub chain : List ℕ
  chain = stay.latest ∷ stay.older

  -- the anchor

  other : (f : ℕ) → 1 ≤ f → f < 5 → fits (part_of role.Anchor 1) (field_of s 0 f) ≡ true
  other f low lt = ap (λ (v : Field). fits (part_of role.Anchor 1) v) (bare.others f low lt)

  anchor_shape : HasShape role.Anchor (field_of s 0)
  anchor_shape zero lt = ap (λ (v : Field). fits (part_of role.Anchor 0) v) stay.names
  anchor_shape (suc zero) lt = other 1 (omega arith) (omega arith)
  anchor_shape (suc (suc zero)) lt = other 2 (omega arith) (omega arith)
  anchor_shape (suc (suc (suc zero))) lt = other 3 (omega arith) (omega arith)
  anchor_shape (suc (suc (suc (suc zero)))) lt = other 4 (omega arith) (omega arith)
  anchor_shape (suc (suc (suc (suc (suc zero))))) lt =
      ap (λ (v : Field). fits (part_of role.Anchor 5) v) bare.kind
  anchor_shape (suc (suc (suc (suc (suc (suc i)))))) lt = absurd (omega (arith, lt))

  latest_among : (y : ℕ) → field_of s 0 0 ≡ field.Cell y → Among y chain
  latest_among y at =
      let same : field.Cell stay.latest ≡ field.Cell y = sym stay.names ∙ at in
      let equal : stay.latest ≡ y = cc in
      subst (λ (x : ℕ). Among x chain) equal first

  from_anchor : (i : ℕ) (q : Role) (y : ℕ) → gives role.Anchor i ≡ Some q
      → field_of s 0 i ≡ field.Cell y → IsFor s chain q y
  from_anchor zero q y gave at =
      let same : role.Version ≡ q = cc in
      subst (λ (r : Role). IsFor s chain r y) same (latest_among y at)
  from_anchor (suc zero) q y gave at = absurd cc
  from_anchor (suc (suc zero)) q y gave at = absurd cc
  from_anchor (suc (suc (suc zero))) q y gave at = absurd cc
  from_anchor (suc (suc (suc (suc zero)))) q y gave at = absurd cc
  from_anchor (suc (suc (suc (suc (suc zero))))) q y gave at = absurd cc
  from_anchor (suc (suc (suc (suc (suc (suc i)))))) q y gave at = absurd cc

  -- all cells

  in_chain : (c : ℕ) → Among c chain → IsVersionIn s chain c
  in_chain c there = version_in s trees chain _ chain stay.chain (λ d among. among) c there

  from_cell : (r : Role) (c : ℕ) → IsFor s chain r c → (i : ℕ) (q : Role) (y : ℕ)
      → gives r i ≡ Some q → field_of s c i ≡ field.Cell y → IsFor s chain q y
  from_cell role.Anchor c is i q y gave at =
      from_anchor i q y gave (subst (λ (x : ℕ). field_of s x i ≡ field.Cell y) is at)
  from_cell role.Version c is i q y gave at =
      from_version s chain c (in_chain c is) i q y gave at
  from_cell role.Node c is i q y gave at =
      from_node s chain c is.term is.denotes is.such i q y gave at
  from_cell role.Entry c is i q y gave at =
      from_entry s chain c is.term is.denotes is.such i q y gave at
  from_cell role.Text c is i q y gave at =
      from_text s chain c is.term is.such.0 is.denotes is.such.1 i q y gave at

  pub is_for : (r : Role) (c : ℕ) → HasRole (heap_of s) r c → IsFor s chain r c
  is_for r c (anchor is here) = subst (λ (q : Role). IsFor s chain q c) (sym is) here
  is_for q d (named {r} {c = b} i has lt gave at) = from_cell r b (is_for r b has) i q d gave at

  shape_for : (r : Role) (c : ℕ) → IsFor s chain r c → HasShape r (field_of s c)
  shape_for role.Anchor c is =
      subst (λ (x : ℕ). HasShape role.Anchor (field_of s x)) (sym is) anchor_shape
  shape_for role.Version c is = version_shape s chain c (in_chain c is)
  shape_for role.Node c is = node_shape s c is.term is.denotes is.such
  shape_for role.Entry c is = entry_shape s c is.term is.denotes is.such
  shape_for role.Text c is = text_shape s c is.term is.such.0 is.denotes is.such.1

  pub shape_of : (r : Role) (c : ℕ) → HasRole (heap_of s) r c → HasShape r (field_of s c)
  shape_of r c has = shape_for r c (is_for r c has)

  pub sound : IsSafe s → IsSound (heap_of s)
  sound safe = record {
    used = λ r c has. false_from_ne_true (is_blue (colour_of s c))
        (λ blue. safe.reached c (reached s r c has) (not_blue (colour_of s c) blue));
    shaped = λ r c i has lt. shape_of r c has i lt;
    one_role = λ r q c has also.
        one_layout r q (field_of s c) (shape_of r c has) (shape_of q c also);
  }

-- a heap that is sound is not faulty
pub not_faulty : (h : Heap) → IsSound h → IsFaulty h → ⊥
not_faulty h sound (free {r} {c} has blue) =
    let clash : false ≡ true = sym (sound.used r c has) ∙ blue in cc
not_faulty h sound (shapeless {r} {c} i has lt bad) =
    let clash : true ≡ false = sym (sound.shaped r c i has lt) ∙ bad in cc
not_faulty h sound (two_roles {r} {q} {c} has also other) = other (sound.one_role r q c has also)
