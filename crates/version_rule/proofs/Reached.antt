-- Where nobody is in, the boxes of a heap are the anchor and the versions that stay.
--
-- What is reachable starts at the anchor. It leads to the latest version; a version leads to its
-- root and to the one before it; and a record leads to records alone.
use Rattle.std.proofs.Common.{◌≡◌, ◌≤◌, ◌+◌, ◌⊎◌, ℕ, zero, suc, Bool, true, false}
use Rattle.std.proofs.Common.{List, [], ◌∷◌, get_or, Option, Some, None, inl, inr, refl, sym}
use Rattle.std.proofs.Common.{◌∙◌, ap, subst, arith}
use Rattle.std.proofs.lemmas.Bool.{cases_lt}
use Rattle.std.proofs.lemmas.List.{get_or_past}
use Rattle.cell_words.specs.declared.fields.Field.{Field}
use Rattle.cell_words.specs.declared.fields.Field.TheVariants as field
use Rattle.cell_words.specs.Term.{IsFive, Term, null}
use Rattle.core_machine.specs.InRange.{IsShaped}
use Rattle.core_machine.specs.State.{State, field_of, presence_of, row_in}
use Rattle.core_machine.specs.Words.{is_box_kind}
use Rattle.dlg_core.specs.Reachable.{Reachable, anchor, named}
use Rattle.dlg_core.proofs.Computes.{into}
use Rattle.doc_tree.specs.Tree.{DocTree}
use Rattle.heap_rule.specs.Boxes.{Map, Payload, boxes_of, payload_of}
use Rattle.heap_rule.specs.Facts.{Facts, IsPlain, TermFits, is_record_kind}
use Rattle.heap_rule.specs.Lore.{Lore, Named, Plain, entry_of, named_or}
use Rattle.heap_rule.specs.Numbered.{HasNumber}
use Rattle.heap_rule.proofs.BoxWords.{box_there, entry_there, number_there}
use Rattle.heap_rule.proofs.Maps.{In, entry_names, of_map}
use Rattle.heap_rule.proofs.Writing.{box_no_record}
use Rattle.version_rule.specs.Chains.{Among, Chain, first, last, later, more}
use Rattle.version_rule.specs.Pass.{Pass}
use Rattle.version_rule.specs.Versions.{HoldsVersions, IsVersion, is_fixed}
use Rattle.version_rule.proofs.Passing.{version_of}
use Rattle.heap_rule.proofs.Entries.{named_inj, same_entry}
use Rattle.heap_rule.proofs.EntryWords.{null_word}

-- a row has six fields
pub past_six : (s : State) (c f : ℕ) → IsShaped s → 6 ≤ f → field_of s c f ≡ field.Null
past_six s c f shape past = elim (cases_lt c s.cells) [
  | inl lt ↦ get_or_past (row_in s.rows c) f field.Null
      (let six = shape.cells_fit.six_fields c lt in omega (arith, six, past))
  | inr le ↦
      ap (λ (row : List Field). get_or row f field.Null)
      (get_or_past s.rows c [] (let fit = shape.cells_fit.rows_fit in omega (arith, fit, le)))
]

-- the kind field names no cell
box_kind : (f : Field) (d : ℕ) → is_box_kind f ≡ true → f ≡ field.Cell d → ⊥
box_kind f d is e =
    let clash : is_box_kind (field.Cell d) ≡ true = ap is_box_kind (sym e) ∙ is in cc

record_kind : (f : Field) (d : ℕ) → is_record_kind f ≡ true → f ≡ field.Cell d → ⊥
record_kind f d is e =
    let clash : is_record_kind (field.Cell d) ≡ true = ap is_record_kind (sym e) ∙ is in cc

null_cell : (f : Field) (d : ℕ) → f ≡ field.Null → f ≡ field.Cell d → ⊥
null_cell f d none e = let clash : field.Null ≡ field.Cell d = sym none ∙ e in cc

module _ (map : Map) where
  -- what a version on a chain names is the next one
  next_among : (cells : List ℕ) (number c d : ℕ) (q : Payload) → Chain map cells number
      → Among c cells → map c ≡ Some q → q 2 ≡ Named d → Among d cells
  next_among _ _ c d q (last box there number none) first at names =
      absurd (let clash : Plain null ≡ Named d = sym none
      ∙ same_entry map c 2 box q there at ∙ names in cc)
  next_among _ _ c d q (last box there number none) (later among) at names =
      absurd (none_there among)
    where
      none_there : Among c [] → ⊥
      none_there h = elim h [ ]
  next_among _ _ c d q (more {older = o} {cells = cs} box there number link chain) first at names =
      let same : o ≡ d = named_inj o d (sym link ∙ same_entry map c 2 box q there at ∙ names) in
      subst (λ (x : ℕ). Among x (c ∷ o ∷ cs)) same (later first)
  next_among _ _ c d q (more box there number link chain) (later among) at names =
      later (next_among _ _ c d q chain among at names)

  number_among : (cells : List ℕ) (number c : ℕ) → Chain map cells number → Among c cells
      → (n : ℕ) × HasNumber map c n
  number_among _ number c (last box there number_is none) first =
      (number, record { box = box; there = there; number_is = number_is })
  number_among _ _ c (last box there number_is none) (later among) = absurd (none_there among)
    where
      none_there : Among c [] → ⊥
      none_there h = elim h [ ]
  number_among _ _ c (more {number = n} box there number_is link chain) first =
      (n + 1, record { box = box; there = there; number_is = number_is })
  number_among _ _ c (more box there number_is link chain) (later among) =
      number_among _ _ c chain among

module _ (is_tree : Term → Type 0) (tree_of : Term → DocTree)
    (is_record : (t : Term) → is_tree t → IsFive t) (s : State) (l : Lore) (shape : IsShaped s)
    (facts : Facts is_fixed s l) (passes : List Pass)
    (h : HoldsVersions is_tree tree_of (boxes_of s l) passes) (cells : List ℕ) (number : ℕ)
    (chain : Chain (boxes_of s l) (h.latest.cell ∷ cells) number) where
  -- the anchor, a version that stays, or a record
  Stayer : ℕ → Type 0
  Stayer c = Reachable s c × ((c ≡ 0) ⊎ (Among c (h.latest.cell ∷ cells)
      ⊎ (is_record_kind (field_of s c 5) ≡ true)))

  -- what has a term is a record
  term_record : (d : ℕ) (t : Term) → Reachable s d → l.terms d ≡ Some t
      → is_record_kind (field_of s d 5) ≡ true
  term_record d t r is = by_kind (is_record_kind (field_of s d 5)) (facts.termed d r)
    where
      by_kind : (b : Bool) → TermFits b l.terms (field_of s d) (l.terms d) → b ≡ true
      by_kind true fits = refl
      by_kind false fits = absurd (let clash : None ≡ Some t = sym fits ∙ is in cc)

  -- a field that stands for a term and is a cell names a record
  plain_record : (value : Field) (d : ℕ) → Reachable s d → IsPlain (entry_of l.terms value)
      → value ≡ field.Cell d → is_record_kind (field_of s d 5) ≡ true
  plain_record value d r is e =
      by_term (l.terms d) refl (subst (λ (x : Field). IsPlain (entry_of l.terms x)) e is)
    where
      by_term : (o : Option Term) → l.terms d ≡ o → IsPlain (named_or d o)
          → is_record_kind (field_of s d 5) ≡ true
      by_term None at plain = absurd plain
      by_term (Some t) at plain = term_record d t r at

  -- a record leads to records
  from_record : (c d f : ℕ) → Reachable s c → is_record_kind (field_of s c 5) ≡ true
      → field_of s c f ≡ field.Cell d → is_record_kind (field_of s d 5) ≡ true
  from_record c d f r kind e = elim (cases_lt f 5) [
    | inl lt ↦
        let fits : TermFits true l.terms (field_of s c) (l.terms c) =
        subst (λ (b : Bool). TermFits b l.terms (field_of s c) (l.terms c)) kind
        (facts.termed c r) in
        plain_record (field_of s c f) d (named f r e) (fits.1 f lt) e
    | inr ge ↦ elim (cases_lt f 6) [
      | inl lt ↦ absurd (record_kind (field_of s c 5) d kind
          (subst (λ (n : ℕ). field_of s c n ≡ field.Cell d)
          (let five : f ≡ 5 = omega (arith, lt, ge) in five) e))
      | inr past ↦ absurd (null_cell (field_of s c f) d (past_six s c f shape past) e)
    ]
  ]

  -- a box past its link names nothing
  past_link : (c d f : ℕ) → In s l c → 5 ≤ f → field_of s c f ≡ field.Cell d → ⊥
  past_link c d f is ge e = elim (cases_lt f 6) [
    | inl lt ↦ box_kind (field_of s c 5) d is.box
        (subst (λ (n : ℕ). field_of s c n ≡ field.Cell d)
        (let five : f ≡ 5 = omega (arith, lt, ge) in five) e)
    | inr past ↦ null_cell (field_of s c f) d (past_six s c f shape past) e
  ]

  empty_field : (c d f : ℕ) → In s l c → payload_of s l c f ≡ Plain null
      → field_of s c f ≡ field.Cell d → ⊥
  empty_field c d f is none e =
      null_cell (field_of s c f) d (null_word is_fixed s l facts c f is.reached none) e

  named_one : (c d x f : ℕ) → payload_of s l c f ≡ Named x → field_of s c f ≡ field.Cell d → x ≡ d
  named_one c d x f names e =
      let is : field.Cell x ≡ field.Cell d =
      sym (entry_names l.terms (field_of s c f) x names) ∙ e in cc

  -- the anchor leads to the latest version
  from_anchor : (d f : ℕ) → field_of s 0 f ≡ field.Cell d → Among d (h.latest.cell ∷ cells)
  from_anchor d f e = by_field f e
    where
      there : In s l 0
      there = box_there s l 0 h.latest.anchor h.latest.there

      entry : (g : ℕ) → payload_of s l 0 g ≡ h.latest.anchor g
      entry = entry_there s l 0 h.latest.anchor h.latest.there

      by_field : (g : ℕ) → field_of s 0 g ≡ field.Cell d → Among d (h.latest.cell ∷ cells)
      by_field zero e = subst (λ (x : ℕ). Among x (h.latest.cell ∷ cells))
          (named_one 0 d h.latest.cell 0 (entry 0 ∙ h.latest.names) e) first
      by_field (suc g) e = elim (cases_lt (suc g) 5) [
        | inl lt ↦ absurd (empty_field 0 d (suc g) there
            (entry (suc g) ∙ h.latest.others (suc g) (omega arith) lt) e)
        | inr ge ↦ absurd (past_link 0 d (suc g) there ge e)
      ]

  -- a version leads to its root and to the one before it
  from_version : (c d f : ℕ) → Among c (h.latest.cell ∷ cells) → field_of s c f ≡ field.Cell d
      → Among d (h.latest.cell ∷ cells) ⊎ (is_record_kind (field_of s d 5) ≡ true)
  from_version c d f among e = by_field f e
    where
      has : (n : ℕ) × HasNumber (boxes_of s l) c n
      has = number_among (boxes_of s l) (h.latest.cell ∷ cells) number c chain among

      there : In s l c
      there = box_there s l c has.1.box has.1.there

      entry : (g : ℕ) → payload_of s l c g ≡ has.1.box g
      entry = entry_there s l c has.1.box has.1.there

      version : IsVersion is_tree tree_of h.keep h.trees (boxes_of s l) has.1.box
      version = version_of is_tree tree_of (boxes_of s l) passes h c has.1.box has.0 has.1.there
          has.1.number_is

      by_field : (g : ℕ) → field_of s c g ≡ field.Cell d
          → Among d (h.latest.cell ∷ cells) ⊎ (is_record_kind (field_of s d 5) ≡ true)
      by_field zero e = absurd (
          let clash : field.Num has.0 ≡ field.Cell d =
          sym (number_there s l c has.1.box has.1.there is_fixed facts 0 has.0 has.1.number_is)
          ∙ e in cc)
      by_field (suc zero) e = inr (plain_record (field_of s c 1) d (named 1 there.reached e)
          (subst IsPlain (sym (entry 1 ∙ version.root_is)) tt) e)
      by_field (suc (suc zero)) e = elim version.link [
        | inl cut ↦ absurd (empty_field c d 2 there (entry 2 ∙ cut.none) e)
        | inr link ↦
            let same = named_one c d link.cell 2 (entry 2 ∙ link.names) e in
            inl (next_among (boxes_of s l) (h.latest.cell ∷ cells) number c d has.1.box chain among
            has.1.there (link.names ∙ ap Named same))
      ]
      by_field (suc (suc (suc zero))) e =
          absurd (empty_field c d 3 there (entry 3 ∙ version.fourth) e)
      by_field (suc (suc (suc (suc zero)))) e =
          absurd (empty_field c d 4 there (entry 4 ∙ version.fifth) e)
      by_field (suc (suc (suc (suc (suc g))))) e =
          absurd (past_link c d (suc (suc (suc (suc (suc g))))) there (omega arith) e)

  along : (c d f : ℕ) → Stayer c → field_of s c f ≡ field.Cell d → Stayer d
  unfolding Stayer
  along c d f (r, inl root) e = (
    named f r e,
    inr (inl (from_anchor d f
        (subst (λ (x : ℕ). field_of s x f ≡ field.Cell d) root e))),
  )
  along c d f (r, inr (inl among)) e = (named f r e, inr (from_version c d f among e))
  along c d f (r, inr (inr kind)) e = (named f r e, inr (inr (from_record c d f r kind e)))

  module _ (nobody : (i : ℕ) → (presence_of s i).inside ≡ false) where
    all_stayers : (c : ℕ) → Reachable s c → Stayer c
    unfolding Stayer
    all_stayers = into s.rows s.presences s.owns Stayer (anchor refl, inl refl)
        (λ i c inside holds. absurd (let clash : false ≡ true = sym (nobody i) ∙ inside in cc))
        along

    pub only_these : (x : ℕ) (q : Payload) → boxes_of s l x ≡ Some q
        → (x ≡ 0) ⊎ Among x (h.latest.cell ∷ cells)
    unfolding Stayer
    only_these x q at =
        let is = of_map s l x q at in
        elim (all_stayers x is.reached).1 [
          | inl root ↦ inl root
          | inr other ↦ elim other [
            | inl among ↦ inr among
            | inr kind ↦ absurd (let clash : true ≡ false = sym kind
                ∙ box_no_record (field_of s x 5) is.box in cc)
          ]
        ]
