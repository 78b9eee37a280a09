-- The facts on lore after a payload field of a held cell becomes another value: after Fill, and
-- after a Write that was made. What the value names is fresh no longer.
use Rattle.std.proofs.Common.{◌≡◌, ◌≢◌, ◌<◌, ℕ, Bool, true, false, List, []}
use Rattle.std.proofs.Common.{length, get_or, Option, Some, None, inl, inr, refl}
use Rattle.std.proofs.Common.{sym, ◌∙◌, ap, subst, arith}
use Rattle.std.proofs.Common.{length-set}
use Rattle.std.proofs.Math.ListN.{set}
use Rattle.std.proofs.lemmas.Bool.{cases_eq}
use Rattle.std.proofs.lemmas.List.{get_or-set_same, get_or-set_other}
use Rattle.cell_words.specs.declared.fields.Field.{Field}
use Rattle.cell_words.specs.declared.fields.Field.TheVariants as field
use Rattle.core_machine.specs.InRange.{IsShaped}
use Rattle.core_machine.specs.State.{State, field_in, field_of, row_in, set_field}
use Rattle.core_machine.specs.Words.{is_box_kind, is_raw_kind}
use Rattle.core_machine.proofs.Frames.{set_field_other}
use Rattle.dlg_core.specs.Consistent.{IsConsistent}
use Rattle.dlg_core.specs.Reachable.{Reachable, named}
use Rattle.dlg_core.proofs.Each.{field_each}
use Rattle.heap_rule.specs.declared.known.Known.{Known}
use Rattle.heap_rule.specs.declared.known.Known.TheVariants as knows
use Rattle.heap_rule.specs.Facts.{AllKnown, Facts, IsKnown, TermFits, is_record_kind}
use Rattle.heap_rule.specs.Knowledge.{ArePayload, FixedAreTold, KnownAt}
use Rattle.heap_rule.specs.Lore.{Fresh, Lore, at_cell, cells_of, entry_of, has, known_in}
use Rattle.heap_rule.specs.Lore.{known_named, known_revealed}
use Rattle.heap_rule.specs.Lore.{known_set, known_stored, revealed}
use Rattle.heap_rule.proofs.Carried.{back_from, known_moved, term_moved}
use Rattle.heap_rule.proofs.Claiming.{put_here, put_other}
use Rattle.heap_rule.proofs.Lists.{all_changed, all_known, reached_held}

-- Freshness that a value takes away.

pub revealed_less : (fresh : Fresh) (value : Field) (x j : ℕ) → revealed fresh value x ≡ Some j
    → fresh x ≡ Some j
revealed_less fresh field.Null x j h = h
revealed_less fresh (field.Num n) x j h = h
revealed_less fresh (field.Cell c) x j h = elim (cases_eq x c) [
  | inl is ↦ absurd (let none : None ≡ Some j = sym (put_here fresh c None)
      ∙ ap (revealed fresh (field.Cell c)) (sym is) ∙ h in cc)
  | inr other ↦ sym (put_other fresh c None x other) ∙ h
]

pub revealed_other : (fresh : Fresh) (value : Field) (x : ℕ) → (value ≡ field.Cell x → ⊥)
    → revealed fresh value x ≡ fresh x
revealed_other fresh field.Null x other = refl
revealed_other fresh (field.Num n) x other = refl
revealed_other fresh (field.Cell c) x other = put_other fresh c None x
    (λ is. other (ap field.Cell (sym is)))

pub revealed_none : (fresh : Fresh) (value : Field) (x : ℕ) → fresh x ≡ None
    → revealed fresh value x ≡ None
revealed_none fresh field.Null x h = h
revealed_none fresh (field.Num n) x h = h
revealed_none fresh (field.Cell c) x h = elim (cases_eq x c) [
  | inl is ↦ ap (revealed fresh (field.Cell c)) is ∙ put_here fresh c None
  | inr other ↦ put_other fresh c None x other ∙ h
]

pub revealed_here : (fresh : Fresh) (value : Field) (x j : ℕ) → value ≡ field.Cell x
    → revealed fresh value x ≡ Some j → ⊥
revealed_here fresh value x j is h =
    let none : None ≡ Some j = sym (put_here fresh x None)
    ∙ ap (λ (v : Field). revealed fresh v x) (sym is) ∙ h in absurd cc

-- Field f of cell x becomes the value, which names no cell or a sealed one that the maker holds.
pub record Stores (fixed : ℕ
    → Bool) (s t : State) (l : Lore) (i x f : ℕ) (value : Field) : Type 0 where
  pub rows : t.rows ≡ set_field s.rows x f value
  pub cells : (j : ℕ) → cells_of t j ≡ cells_of s j
  pub mutators : t.mutators ≡ s.mutators
  pub payload : f < 5
  pub maker : i < s.mutators
  pub there : x < s.cells
  pub holds_it : has (cells_of s i) x ≡ true
  pub no_record : is_record_kind (field_of s x 5) ≡ false
  pub proper : is_box_kind (field_of s x 5) ≡ true → fixed f ≡ true → x ≡ 0
  pub held : (c : ℕ) → value ≡ field.Cell c → has (cells_of s i) c ≡ true
  pub sealed : (c : ℕ) → value ≡ field.Cell c → is_raw_kind (field_of s c 5) ≡ false

module _ (fixed : ℕ
    → Bool) (s t : State) (l : Lore) (i x f : ℕ) (value : Field) (shape : IsShaped s)
    (k : IsConsistent s)
    (facts : Facts fixed s l) (later : IsConsistent t)
    (stores : Stores fixed s t l i x f value) where
  abbrev fresh : Fresh
  fresh = revealed l.fresh value

  pub stored_fields : (y g : ℕ) → (y ≡ x → g ≡ f → ⊥) → field_of t y g ≡ field_of s y g
  stored_fields y g other =
      ap (λ (rs : List (List Field)). field_in rs y g) stores.rows
      ∙ set_field_other s.rows x f y g value other

  pub stored_there : field_of t x f ≡ value
  stored_there =
      let row : length (row_in s.rows x) ≡ 6 = shape.cells_fit.six_fields x stores.there in
      ap (λ (rs : List (List Field)). field_in rs x f) stores.rows
      ∙ ap (λ (r : List Field). get_or r f field.Null)
      (get_or-set_same s.rows x (set (row_in s.rows x) f value) []
      (let fit = shape.cells_fit.rows_fit in let lt = stores.there in omega (arith, fit, lt)))
      ∙ get_or-set_same (row_in s.rows x) f value field.Null
      (let lt = stores.payload in omega (arith, lt, row))

  pub stored_kinds : (y : ℕ) → field_of t y 5 ≡ field_of s y 5
  stored_kinds y = stored_fields y 5 (λ is five. let lt = stores.payload in omega (arith, lt, five))

  -- a field of a cell is the value in its place, or what it was
  named_before : (c d g : ℕ) → Reachable s c → field_of t c g ≡ field.Cell d → Reachable s d
  named_before c d g r e =
      field_each (λ n h y. y ≡ field.Cell d → Reachable s n → Reachable s d) s.rows x f value
      (λ is there. reached_held s i d k (stores.held d is)) (λ n h is there. named h there is) c g
      (sym (ap (λ (rs : List (List Field)). field_in rs c g) stores.rows) ∙ e) r

  pub stored_back : (y : ℕ) → Reachable t y → Reachable s y
  stored_back = back_from s t
      (λ j y h. reached_held s j y k (subst (λ (cs : List ℕ). has cs y
      ≡ true) (stores.cells j) h)) named_before

  entries : (y g : ℕ) → (y ≡ x → g ≡ f → ⊥)
      → entry_of l.terms (field_of t y g) ≡ entry_of l.terms (field_of s y g)
  entries y g other = ap (entry_of l.terms) (stored_fields y g other)

  fits : (y : ℕ) → TermFits (is_record_kind (field_of s y 5)) l.terms (field_of s y) (l.terms y)
      → TermFits (is_record_kind (field_of t y 5)) l.terms (field_of t y) (l.terms y)
  fits y h =
      subst (λ (b : Bool). TermFits b l.terms (field_of t y) (l.terms y))
      (sym (ap is_record_kind (stored_kinds y)))
      (elim (cases_eq y x) [
        | inl is ↦
            let none : is_record_kind (field_of s y 5)
            ≡ false = ap (λ (n : ℕ). is_record_kind (field_of s n 5)) is ∙ stores.no_record in
            subst (λ (b : Bool). TermFits b l.terms (field_of t y) (l.terms y)) (sym none)
            (subst (λ (b : Bool). TermFits b l.terms (field_of s y) (l.terms y)) none h)
        | inr other ↦ term_moved (is_record_kind (field_of s y 5)) l.terms l.terms (field_of s y)
            (field_of t y) (l.terms y) (l.terms y)
            refl (λ g lt. entries y g (λ is same. other is)) h
      ])

  -- what is told of fixed fields stays
  told_on : (y : ℕ) (told : List (Option _)) → y ≢ 0 → is_box_kind (field_of s y 5) ≡ true
      → FixedAreTold fixed told l.terms (field_of s y)
      → FixedAreTold fixed told l.terms (field_of t y)
  told_on y told not_anchor box h g term lt is told_is =
      entries y g (λ same field_is. not_anchor (same ∙ stores.proper
      (subst (λ (n : ℕ). is_box_kind (field_of s n 5) ≡ true) same box)
      (subst (λ (n : ℕ). fixed n ≡ true) field_is is)))
      ∙ h g term lt is told_is

  -- a cell that is fresh for another mutator is not the target, and not named
  not_target : (j y : ℕ) → j ≢ i → l.fresh y ≡ Some j → y ≡ x → ⊥
  not_target j y other is same =
      other (sym (facts.freshed.alone y j i is (subst (λ (n : ℕ). has (cells_of s i) n
      ≡ true) (sym same) stores.holds_it)))

  not_named : (j y : ℕ) → j ≢ i → l.fresh y ≡ Some j → value ≡ field.Cell y → ⊥
  not_named j y other is e = other (sym (facts.freshed.alone y j i is (stores.held y e)))

  -- what another mutator knows
  others_know : (j y : ℕ) (w : Known) → j ≢ i → has (cells_of s j) y ≡ true
      → KnownAt fixed l.terms (field_of s y) (l.terms y) (l.fresh y) j y w
      → KnownAt fixed l.terms (field_of t y) (l.terms y) (fresh y) j y w
  others_know j y knows.Nothing other h is = tt
  others_know j y (knows.Raw fs) other h is = (
    stored_kinds y ∙ is.0,
    revealed_other l.fresh value y (λ e. not_named j y other is.1 e) ∙ is.1,
    record {
      five = is.2.five;
      each = λ g lt. stored_fields y g
          (λ same. absurd (not_target j y other is.1 same)) ∙ is.2.each g lt;
    },
  )
  others_know j y (knows.Fresh fs) other h is = (
    ap is_box_kind (stored_kinds y) ∙ is.0,
    revealed_other l.fresh value y (λ e. not_named j y other is.1 e) ∙ is.1,
    record {
      five = is.2.five;
      each = λ g lt. stored_fields y g
          (λ same. absurd (not_target j y other is.1 same)) ∙ is.2.each g lt;
    },
  )
  others_know j y (knows.Record term) other h is = (stored_kinds y ∙ is.0, is.1)
  others_know j y (knows.Boxed told) other h is = (
    is.0,
    ap is_box_kind (stored_kinds y)
        ∙ is.1,
    revealed_none l.fresh value y is.2,
    told_on y told is.0 is.1 is.3,
  )

  -- what the maker knows: first of the cell with the new field
  abbrev Then : ℕ → Known → Type 0
  Then y w = KnownAt fixed l.terms (field_of t y) (l.terms y) (l.fresh y) i y w

  payload_on : (fs : List Field) → ArePayload fs (field_of s x)
      → ArePayload (set fs f value) (field_of t x)
  payload_on fs is = record {
    five = length-set fs f value ∙ is.five;
    each = λ g lt. elim (cases_eq g f) [
      | inl same ↦
          ap (field_of t x) same ∙ stored_there
          ∙ sym (get_or-set_same fs f value field.Null
          (let five = is.five in let less = stores.payload in omega (arith, five, less)))
          ∙ ap (λ (n : ℕ). get_or (set fs f value) n field.Null) (sym same)
      | inr other ↦
          stored_fields x g (λ here same. other same) ∙ is.each g lt
          ∙ sym (get_or-set_other fs f g value field.Null other)
    ];
  }

  target_known : (w : Known) → IsKnown fixed s l i x w → Then x (known_set f value w)
  target_known knows.Nothing is = tt
  target_known (knows.Raw fs) is = (stored_kinds x ∙ is.0, is.1, payload_on fs is.2)
  target_known (knows.Fresh fs) is = (
    ap is_box_kind (stored_kinds x)
        ∙ is.0,
    is.1,
    payload_on fs is.2,
  )
  target_known (knows.Record term) is =
      absurd (let yes : is_record_kind (field_of s x 5) ≡ true = ap is_record_kind is.0 in
      let no = stores.no_record in cc)
  target_known (knows.Boxed told) is =
      (is.0, ap is_box_kind (stored_kinds x) ∙ is.1, is.2, told_on x told is.0 is.1 is.3)

  elsewhere_known : (y : ℕ) (w : Known) → y ≢ x → IsKnown fixed s l i y w → Then y w
  elsewhere_known y w other is =
      known_moved fixed l.terms l.terms (field_of s y) (field_of t y) (l.terms y) (l.terms y)
      (l.fresh y) (l.fresh y) i y w
      (λ g. stored_fields y g (λ same e. other same)) refl refl (λ g. refl) is

  -- then of the cell that the value names
  revealed_known : (y : ℕ) (w : Known) → value ≡ field.Cell y → Then y w
      → KnownAt fixed l.terms (field_of t y) (l.terms y) (fresh y) i y (known_revealed w)
  revealed_known y knows.Nothing it is = tt
  revealed_known y (knows.Raw fs) it is = tt
  revealed_known y (knows.Fresh fs) it is = (
    λ anchor. absurd (let none : None ≡ Some i = sym facts.freshed.anchor
        ∙ ap l.fresh (sym anchor) ∙ is.1 in cc),
    is.0,
    ap (λ (v : Field). revealed l.fresh v y) it ∙ put_here l.fresh y None,
    λ g term lt fixed_here told. absurd cc,
  )
  revealed_known y (knows.Record term) it is = is
  revealed_known y (knows.Boxed told) it is = (
    is.0,
    is.1,
    revealed_none l.fresh value y is.2,
    is.3,
  )

  unnamed_known : (y : ℕ) (w : Known) → (value ≡ field.Cell y → ⊥) → Then y w
      → KnownAt fixed l.terms (field_of t y) (l.terms y) (fresh y) i y w
  unnamed_known y w other is =
      known_moved fixed l.terms l.terms (field_of t y) (field_of t y) (l.terms y) (l.terms y)
      (l.fresh y) (fresh y) i y w
      (λ g. refl) refl (revealed_other l.fresh value y other) (λ g. refl) is

  abbrev After : ℕ → Known → Type 0
  After y w = KnownAt fixed l.terms (field_of t y) (l.terms y) (fresh y) i y w

  named_known : (v : Field) → v ≡ value → (cells : List ℕ) (known : List Known)
      → AllKnown Then cells known
      → AllKnown After cells (known_named cells known v)
  named_known field.Null is cells known all =
      all_known Then After cells known (λ y w h. unnamed_known y w (λ e. let no = is
      ∙ e in absurd cc)) all
  named_known (field.Num n) is cells known all =
      all_known Then After cells known (λ y w h. unnamed_known y w (λ e. let no = is
      ∙ e in absurd cc)) all
  named_known (field.Cell c) is cells known all =
      all_changed Then After known_revealed c cells known (λ w. revealed_known c w (sym is))
      (λ y w other h. unnamed_known y w (λ e. other (let same = is ∙ e in cc))) all

  pub stored_known : (cells : List ℕ) (place : ℕ) → get_or cells place 0 ≡ x
      → AllKnown (IsKnown fixed s l i) cells (known_in l.known i)
      → AllKnown After cells (known_stored cells (known_in l.known i) place f value)
  stored_known cells place is all =
      let changed : AllKnown Then cells
      (at_cell (known_set f value) (get_or cells place 0) cells (known_in l.known i)) =
      all_changed (IsKnown fixed s l i) Then (known_set f value) (get_or cells place 0) cells
      (known_in l.known i)
      (subst (λ (n : ℕ). (w : Known) → IsKnown fixed s l i n w
      → Then n (known_set f value w)) (sym is) target_known)
      (λ y w other h. elsewhere_known y w (λ same. other (same ∙ sym is))) all in
      named_known value refl cells
      (at_cell (known_set f value) (get_or cells place 0) cells (known_in l.known i)) changed

  pub stored_facts : (place : ℕ) → get_or (cells_of s i) place 0 ≡ x
      → Facts fixed t record {
        terms = l.terms;
        fresh = revealed l.fresh value;
        known = set l.known i (known_stored (cells_of s i) (known_in l.known i) place f value);
      }
  stored_facts place is =
      let m : Lore = record {
        terms = l.terms;
        fresh = revealed l.fresh value;
        known = set l.known i (known_stored (cells_of s i) (known_in l.known i) place f value);
      } in
      record {
        termed = λ y r. fits y (facts.termed y (stored_back y r));
        freshed = record {
          anchor = revealed_none l.fresh value 0 facts.freshed.anchor;
          held = λ y j h. subst (λ (cs : List ℕ). has cs y ≡ true) (sym (stores.cells j))
              (facts.freshed.held y j (revealed_less l.fresh value y j h));
          alone = λ y a j h there. facts.freshed.alone y a j (revealed_less l.fresh value y a h)
              (subst (λ (cs : List ℕ). has cs y ≡ true) (stores.cells j) there);
          unnamed = λ y j a g h r e.
              field_each (λ n b z. z ≡ field.Cell y → Reachable s n → ⊥) s.rows x f value
              (λ named_it there. revealed_here l.fresh value y j named_it h)
              (λ n b named_it there. facts.freshed.unnamed y j n b
              (revealed_less l.fresh value y j h) there named_it) a g
              (sym (ap (λ (rs : List (List Field)). field_in rs a g) stores.rows)
              ∙ e) (stored_back a r);
          raw = λ y r h.
              let is_raw : is_raw_kind (field_of s y 5)
              ≡ true = ap is_raw_kind (sym (stored_kinds y)) ∙ h in
              let was = facts.freshed.raw y (stored_back y r) is_raw in (
                was.0,
                revealed_other l.fresh value y (λ e. let no = stores.sealed y e in absurd cc)
                    ∙ was.1,
              );
        };
        known_fit = length-set l.known i _ ∙ facts.known_fit ∙ sym stores.mutators;
        known_all = λ j. elim (cases_eq j i) [
          | inl same ↦
              let here : AllKnown (IsKnown fixed t m i) (cells_of t i) (known_in m.known i) =
              subst (λ (cs : List ℕ). AllKnown (IsKnown fixed t m i) cs (known_in m.known i))
              (sym (stores.cells i))
              (subst (λ (ws : List Known). AllKnown (IsKnown fixed t m i) (cells_of s i) ws)
              (sym (get_or-set_same l.known i _ []
              (let lt = stores.maker in let fit = facts.known_fit in omega (arith, lt, fit))))
              (stored_known (cells_of s i) place is (facts.known_all i))) in
              subst (λ (n : ℕ). AllKnown (IsKnown fixed t m n) (cells_of t n) (known_in m.known n))
              (sym same) here
          | inr other ↦
              subst (λ (cs : List ℕ). AllKnown (IsKnown fixed t m j) cs (known_in m.known j))
              (sym (stores.cells j))
              (subst (λ (ws : List Known). AllKnown (IsKnown fixed t m j) (cells_of s j) ws)
              (sym (get_or-set_other l.known i j _ [] other))
              (all_known (IsKnown fixed s l j) (IsKnown fixed t m j) (cells_of s j)
              (known_in l.known j)
              (λ y w h before. others_know j y w other h before) (facts.known_all j)))
        ];
      }
