-- What a cell is that is named in a role, where the words show the versions of a store: a version
-- is one of the chain, and a node, an entry or a text denotes a term that spells one.
--
-- Each has the layout of its role, and each cell that it names is what the layout has there.
use Rattle.std.proofs.Common.{◌≡◌, ℕ, zero, suc, true, List, Some}
use Rattle.std.proofs.Common.{ap, subst, arith}
use Rattle.cell_words.specs.declared.fields.Field.{Field}
use Rattle.cell_words.specs.declared.fields.Field.TheVariants as field
use Rattle.cell_words.specs.Term.{Term, null, num, five}
use Rattle.closed_store.specs.Chain.{Denotes, IsRecord}
use Rattle.core_machine.specs.State.{State, field_of}
use Rattle.doc_records.specs.Texts.{SpellsText, text_of}
use Rattle.doc_records.specs.Trees.{AreEntries, IsNode}
use Rattle.heap_census.specs.declared.layouts.Role.{Role}
use Rattle.heap_census.specs.declared.layouts.Role.TheVariants as role
use Rattle.heap_census.specs.Layouts.{fits, gives, part_of}
use Rattle.version_rule.specs.Chains.{Among}
use Rattle.closed_store.proofs.Fields.{entries_fit, name_fits, node_fits, null_fits}
use Rattle.closed_store.proofs.Fields.{number_fits, text_fits}
use Rattle.closed_store.proofs.Layouts.{HasShape}

abbrev pub IsSomeText : Term → Type 0
IsSomeText t = (bytes : List ℕ) × SpellsText t bytes

-- the cell denotes a term that is such
pub record DenotesSuch (s : State) (Such : Term → Type 0) (c : ℕ) : Type 0 where
  pub term : Term
  pub denotes : Denotes s (field.Cell c) term
  pub such : Such term

-- with the versions of a chain
abbrev pub IsFor : State → List ℕ → Role → ℕ → Type 0
IsFor s chain role.Anchor c = c ≡ 0
IsFor s chain role.Version c = Among c chain
IsFor s chain role.Node c = DenotesSuch s IsNode c
IsFor s chain role.Entry c = DenotesSuch s AreEntries c
IsFor s chain role.Text c = DenotesSuch s IsSomeText c

-- a field that gives one role gives no other
given : (r q : Role) (P : Role → Type 0) → Some r ≡ Some q → P r → P q
given r q P is has = let same : r ≡ q = cc in subst P same has

module _ (s : State) where
  such_cell : (Such : Term → Type 0) (value : Field) (t : Term) (d : ℕ) → Denotes s value t
      → Such t → value ≡ field.Cell d → DenotesSuch s Such d
  such_cell Such value t d is such e = record {
    term = t;
    denotes = subst (λ (f : Field). Denotes s f t) e is;
    such = such;
  }

  -- the cell's fields denote these terms
  abbrev HasFields : ℕ → (a b c d e : Term) → Type 0
  HasFields x a b c d e =
      IsRecord (field_of s x 5) (Denotes s (field_of s x 0) a) (Denotes s (field_of s x 1) b)
      (Denotes s (field_of s x 2) c) (Denotes s (field_of s x 3) d) (Denotes s (field_of s x 4) e)

  record_kind : (x : ℕ) → field_of s x 5 ≡ field.Num 1
      → fits (part_of role.Node 5) (field_of s x 5) ≡ true
  record_kind x is = ap (λ (f : Field). fits (part_of role.Node 5) f) is

  node_layout : (x : ℕ) (a b c d e : Term) → HasFields x a b c d e
      → IsNode (five a b c d e) → HasShape role.Node (field_of s x)
  node_layout x a b c d e is node zero lt =
      text_fits s (text_of a) (field_of s x 0) a is.first node.text.spells
  node_layout x a b c d e is node (suc zero) lt =
      entries_fit s (field_of s x 1) b is.second node.entries
  node_layout x a b c d e is node (suc (suc zero)) lt =
      number_fits s (field_of s x 2) c _ is.third node.count
  node_layout x a b c d e is node (suc (suc (suc zero))) lt =
      number_fits s (field_of s x 3) d _ is.fourth node.height
  node_layout x a b c d e is node (suc (suc (suc (suc zero)))) lt =
      null_fits s (field_of s x 4) e is.fifth node.last
  node_layout x a b c d e is node (suc (suc (suc (suc (suc zero))))) lt = record_kind x is.kind_is
  node_layout x a b c d e is node (suc (suc (suc (suc (suc (suc i)))))) lt =
      absurd (omega (arith, lt))

  entry_layout : (x : ℕ) (a b c d e : Term) → HasFields x a b c d e
      → AreEntries (five a b c d e) → HasShape role.Entry (field_of s x)
  entry_layout x a b c d e is entry zero lt =
      name_fits s (field_of s x 0) a is.first entry.name
  entry_layout x a b c d e is entry (suc zero) lt =
      node_fits s (field_of s x 1) b is.second entry.child
  entry_layout x a b c d e is entry (suc (suc zero)) lt =
      entries_fit s (field_of s x 2) c is.third entry.left
  entry_layout x a b c d e is entry (suc (suc (suc zero))) lt =
      entries_fit s (field_of s x 3) d is.fourth entry.right
  entry_layout x a b c d e is entry (suc (suc (suc (suc zero)))) lt =
      number_fits s (field_of s x 4) e _ is.fifth entry.height
  entry_layout x a b c d e is entry (suc (suc (suc (suc (suc zero))))) lt =
      record_kind x is.kind_is
  entry_layout x a b c d e is entry (suc (suc (suc (suc (suc (suc i)))))) lt =
      absurd (omega (arith, lt))

  text_layout : (x : ℕ) (bytes : List ℕ) (a b c d e : Term) → HasFields x a b c d e
      → SpellsText (five a b c d e) bytes → HasShape role.Text (field_of s x)
  text_layout x bytes a b c d e is text zero lt =
      number_fits s (field_of s x 0) a _ is.first text.0.count
  text_layout x bytes a b c d e is text (suc zero) lt =
      number_fits s (field_of s x 1) b _ is.second text.0.first
  text_layout x bytes a b c d e is text (suc (suc zero)) lt =
      number_fits s (field_of s x 2) c _ is.third text.0.second
  text_layout x bytes a b c d e is text (suc (suc (suc zero))) lt =
      number_fits s (field_of s x 3) d _ is.fourth text.0.third
  text_layout x bytes a b c d e is text (suc (suc (suc (suc zero)))) lt =
      text_fits s _ (field_of s x 4) e is.fifth text.1
  text_layout x bytes a b c d e is text (suc (suc (suc (suc (suc zero))))) lt =
      record_kind x is.kind_is
  text_layout x bytes a b c d e is text (suc (suc (suc (suc (suc (suc i)))))) lt =
      absurd (omega (arith, lt))

  pub node_shape : (x : ℕ) (t : Term) → Denotes s (field.Cell x) t → IsNode t
      → HasShape role.Node (field_of s x)
  node_shape x null is node = absurd is
  node_shape x (num n) is node = absurd is
  node_shape x (five a b c d e) is node = node_layout x a b c d e is node

  pub entry_shape : (x : ℕ) (t : Term) → Denotes s (field.Cell x) t → AreEntries t
      → HasShape role.Entry (field_of s x)
  entry_shape x null is entry = absurd is
  entry_shape x (num n) is entry = absurd is
  entry_shape x (five a b c d e) is entry = entry_layout x a b c d e is entry

  pub text_shape : (x : ℕ) (t : Term) (bytes : List ℕ) → Denotes s (field.Cell x) t
      → SpellsText t bytes → HasShape role.Text (field_of s x)
  text_shape x null bytes is text = absurd is
  text_shape x (num n) bytes is text = absurd is
  text_shape x (five a b c d e) bytes is text = text_layout x bytes a b c d e is text

  module _ (chain : List ℕ) where
    node_names : (x : ℕ) (a b c d e : Term) → HasFields x a b c d e → IsNode (five a b c d e)
        → (i : ℕ) (q : Role) (y : ℕ) → gives role.Node i ≡ Some q
        → field_of s x i ≡ field.Cell y → IsFor s chain q y
    node_names x a b c d e is node zero q y gave at =
        given role.Text q (λ (r : Role). IsFor s chain r y) gave
        (such_cell IsSomeText (field_of s x 0) a y is.first (text_of a, node.text.spells) at)
    node_names x a b c d e is node (suc zero) q y gave at =
        given role.Entry q (λ (r : Role). IsFor s chain r y) gave
        (such_cell AreEntries (field_of s x 1) b y is.second node.entries at)
    node_names x a b c d e is node (suc (suc zero)) q y gave at = absurd cc
    node_names x a b c d e is node (suc (suc (suc zero))) q y gave at = absurd cc
    node_names x a b c d e is node (suc (suc (suc (suc zero)))) q y gave at = absurd cc
    node_names x a b c d e is node (suc (suc (suc (suc (suc zero))))) q y gave at = absurd cc
    node_names x a b c d e is node (suc (suc (suc (suc (suc (suc i)))))) q y gave at = absurd cc

    entry_names : (x : ℕ) (a b c d e : Term) → HasFields x a b c d e
        → AreEntries (five a b c d e) → (i : ℕ) (q : Role) (y : ℕ) → gives role.Entry i ≡ Some q
        → field_of s x i ≡ field.Cell y → IsFor s chain q y
    entry_names x a b c d e is entry zero q y gave at =
        given role.Text q (λ (r : Role). IsFor s chain r y) gave
        (such_cell IsSomeText (field_of s x 0) a y is.first (text_of a, entry.name.spells) at)
    entry_names x a b c d e is entry (suc zero) q y gave at =
        given role.Node q (λ (r : Role). IsFor s chain r y) gave
        (such_cell IsNode (field_of s x 1) b y is.second entry.child at)
    entry_names x a b c d e is entry (suc (suc zero)) q y gave at =
        given role.Entry q (λ (r : Role). IsFor s chain r y) gave
        (such_cell AreEntries (field_of s x 2) c y is.third entry.left at)
    entry_names x a b c d e is entry (suc (suc (suc zero))) q y gave at =
        given role.Entry q (λ (r : Role). IsFor s chain r y) gave
        (such_cell AreEntries (field_of s x 3) d y is.fourth entry.right at)
    entry_names x a b c d e is entry (suc (suc (suc (suc zero)))) q y gave at = absurd cc
    entry_names x a b c d e is entry (suc (suc (suc (suc (suc zero))))) q y gave at = absurd cc
    entry_names x a b c d e is entry (suc (suc (suc (suc (suc (suc i)))))) q y gave at = absurd cc

    text_names : (x : ℕ) (bytes : List ℕ) (a b c d e : Term) → HasFields x a b c d e
        → SpellsText (five a b c d e) bytes → (i : ℕ) (q : Role) (y : ℕ)
        → gives role.Text i ≡ Some q → field_of s x i ≡ field.Cell y → IsFor s chain q y
    text_names x bytes a b c d e is text zero q y gave at = absurd cc
    text_names x bytes a b c d e is text (suc zero) q y gave at = absurd cc
    text_names x bytes a b c d e is text (suc (suc zero)) q y gave at = absurd cc
    text_names x bytes a b c d e is text (suc (suc (suc zero))) q y gave at = absurd cc
    text_names x bytes a b c d e is text (suc (suc (suc (suc zero)))) q y gave at =
        given role.Text q (λ (r : Role). IsFor s chain r y) gave
        (such_cell IsSomeText (field_of s x 4) e y is.fifth (_, text.1) at)
    text_names x bytes a b c d e is text (suc (suc (suc (suc (suc zero))))) q y gave at = absurd cc
    text_names x bytes a b c d e is text (suc (suc (suc (suc (suc (suc i)))))) q y gave at =
        absurd cc

    pub from_node : (x : ℕ) (t : Term) → Denotes s (field.Cell x) t → IsNode t → (i : ℕ)
        (q : Role) (y : ℕ) → gives role.Node i ≡ Some q → field_of s x i ≡ field.Cell y
        → IsFor s chain q y
    from_node x null is node = absurd is
    from_node x (num n) is node = absurd is
    from_node x (five a b c d e) is node = node_names x a b c d e is node

    pub from_entry : (x : ℕ) (t : Term) → Denotes s (field.Cell x) t → AreEntries t → (i : ℕ)
        (q : Role) (y : ℕ) → gives role.Entry i ≡ Some q → field_of s x i ≡ field.Cell y
        → IsFor s chain q y
    from_entry x null is entry = absurd is
    from_entry x (num n) is entry = absurd is
    from_entry x (five a b c d e) is entry = entry_names x a b c d e is entry

    pub from_text : (x : ℕ) (t : Term) (bytes : List ℕ) → Denotes s (field.Cell x) t
        → SpellsText t bytes → (i : ℕ) (q : Role) (y : ℕ) → gives role.Text i ≡ Some q
        → field_of s x i ≡ field.Cell y → IsFor s chain q y
    from_text x null bytes is text = absurd is
    from_text x (num n) bytes is text = absurd is
    from_text x (five a b c d e) bytes is text = text_names x bytes a b c d e is text
