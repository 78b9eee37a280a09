-- Events that change which cells their maker holds and what it knows, and no reachable cell.
use Rattle.std.proofs.Common.{◌≡◌, ◌≢◌, ◌<◌, ℕ, Bool, true, List, [], length}
use Rattle.std.proofs.Common.{Some, inl, inr, refl, sym, ◌∙◌, ap, subst, length-set}
use Rattle.std.proofs.Math.ListN.{set}
use Rattle.std.proofs.lemmas.Bool.{cases_eq}
use Rattle.std.proofs.lemmas.List.{get_or-set_same, get_or-set_other}
use Rattle.cell_words.specs.declared.fields.Field.{Field}
use Rattle.core_machine.specs.Own.{Own, no_own}
use Rattle.core_machine.specs.Words.{is_raw_kind}
use Rattle.core_machine.specs.State.{State, field_in, own_in}
use Rattle.dlg_core.specs.Consistent.{IsConsistent}
use Rattle.dlg_core.specs.Reachable.{Reachable, anchor, named}
use Rattle.heap_rule.specs.declared.known.Known.{Known}
use Rattle.heap_rule.specs.Facts.{AllKnown, Facts, IsKnown}
use Rattle.heap_rule.specs.Lore.{Lore, cells_in, cells_of, has, known_in}
use Rattle.heap_rule.proofs.Carried.{SameAt, back_from, fits_on, knows_on}
use Rattle.heap_rule.proofs.Lists.{all_known, reached_held}

-- mutator i has another own part after the event, and every other the one that it had
module _ (s t : State) (i : ℕ) (own : Own) (owns : t.owns ≡ set s.owns i own) where
  pub cells_mine : i < length s.owns → cells_of t i ≡ cells_in own.held
  cells_mine below =
      ap (λ (os : List Own). cells_in (own_in os i).held) owns
      ∙ ap (λ (o : Own). cells_in o.held) (get_or-set_same s.owns i own no_own below)

  pub cells_else : (j : ℕ) → j ≢ i → cells_of t j ≡ cells_of s j
  cells_else j other =
      ap (λ (os : List Own). cells_in (own_in os j).held) owns
      ∙ ap (λ (o : Own). cells_in o.held) (get_or-set_other s.owns i j own no_own other)

  -- what is so of the maker's new cells and of the old ones of all others is so of all
  pub cells_each : (P : ℕ → List ℕ → Type 0) → i < length s.owns → P i (cells_in own.held)
      → ((j : ℕ) → j ≢ i → P j (cells_of s j)) → (j : ℕ) → P j (cells_of t j)
  cells_each P below here else j = elim (cases_eq j i) [
    | inl is ↦ subst (λ (n : ℕ). P n (cells_of t n)) (sym is)
        (subst (λ (c : List ℕ). P i c) (sym (cells_mine below)) here)
    | inr other ↦ subst (λ (c : List ℕ). P j c) (sym (cells_else j other)) (else j other)
  ]

  pub maker_back : IsConsistent s → i < length s.owns → t.rows ≡ s.rows
      → ((x : ℕ) → has (cells_in own.held) x ≡ true → Reachable s x) → (x : ℕ) → Reachable t x
      → Reachable s x
  maker_back k below rows mine =
      back_from s t
      (cells_each (λ j c. (x : ℕ) → has c x ≡ true
      → Reachable s x) below mine (λ j other x h. reached_held s j x k h))
      (λ c d f r e. named f r (sym (ap (λ (rs : List (List Field)). field_in rs c f) rows) ∙ e))

-- and knows something else
pub record Made (fixed : ℕ
    → Bool) (s t : State) (l m : Lore) (i : ℕ) (own : Own) (known : List Known) : Type 0 where
  pub owns : t.owns ≡ set s.owns i own
  pub knows : m.known ≡ set l.known i known
  pub mutators : t.mutators ≡ s.mutators
  pub below : i < length s.owns
  pub known_below : i < length l.known
  pub same : (x : ℕ) → Reachable t x → SameAt s t l m x
  -- nothing becomes fresh, the anchor neither
  pub less : (x j : ℕ) → m.fresh x ≡ Some j → l.fresh x ≡ Some j
  pub held_mine : (x : ℕ) → m.fresh x ≡ Some i → has (cells_in own.held) x ≡ true
  pub alone_mine : (x j : ℕ) → m.fresh x ≡ Some j → has (cells_in own.held) x ≡ true → i ≡ j
  pub known_mine : AllKnown (IsKnown fixed t m i) (cells_in own.held) known

pub made_facts : (fixed : ℕ
    → Bool) (s t : State) (l m : Lore) (i : ℕ) (own : Own) (known : List Known)
    → IsConsistent t → Made fixed s t l m i own known → Facts fixed s l → Facts fixed t m
made_facts fixed s t l m i own known k made facts =
    let each = cells_each s t i own made.owns in
    record {
      termed = λ x r. fits_on s t l m x (made.same x r) (facts.termed x (made.same x r).reached);
      freshed = record {
        anchor = (made.same 0 (anchor refl)).fresh ∙ facts.freshed.anchor;
        held = λ x j is. each (λ n c. m.fresh x ≡ Some n
            → has c x ≡ true) made.below (made.held_mine x)
            (λ n other fresh. facts.freshed.held x n (made.less x n fresh)) j is;
        alone = λ x a j is h. each (λ n c. has c x ≡ true
            → n ≡ a) made.below (made.alone_mine x a is)
            (λ n other there. facts.freshed.alone x a n (made.less x a is) there) j h;
        unnamed = λ x a c f is r e.
            facts.freshed.unnamed x a c f (made.less x a is) (made.same c r).reached
            (sym ((made.same c r).rows f) ∙ e);
        raw = λ x r h.
            let was = facts.freshed.raw x (made.same x r).reached
            (ap is_raw_kind (sym ((made.same x r).rows 5)) ∙ h) in
            (was.0, (made.same x r).fresh ∙ was.1);
      };
      known_fit = ap length made.knows ∙ length-set l.known i known ∙ facts.known_fit
          ∙ sym made.mutators;
      known_all = λ j. elim (cases_eq j i) [
        | inl is ↦
            let here : AllKnown (IsKnown fixed t m i) (cells_of t i) (known_in m.known i) =
            subst (λ (c : List ℕ). AllKnown (IsKnown fixed t m i) c (known_in m.known i))
            (sym (cells_mine s t i own made.owns made.below))
            (subst (λ (w : List Known). AllKnown (IsKnown fixed t m i) (cells_in own.held) w)
            (sym (ap (λ (ws : List (List Known)). known_in ws i) made.knows
            ∙ get_or-set_same l.known i known [] made.known_below))
            made.known_mine) in
            subst (λ (n : ℕ). AllKnown (IsKnown fixed t m n) (cells_of t n) (known_in m.known n))
            (sym is) here
        | inr other ↦
            let cells = cells_else s t i own made.owns j other in
            let w : known_in m.known j ≡ known_in l.known j =
            ap (λ (ws : List (List Known)). known_in ws j) made.knows
            ∙ get_or-set_other l.known i j known [] other in
            subst (λ (ws : List Known). AllKnown (IsKnown fixed t m j) (cells_of t j) ws) (sym w)
            (all_known (IsKnown fixed s l j) (IsKnown fixed t m j) (cells_of t j)
            (known_in l.known j)
            (λ x v h before. knows_on s t l m fixed j x v
            (made.same x (reached_held t j x k h)) before)
            (subst (λ (c : List ℕ). AllKnown (IsKnown fixed s l j) c (known_in l.known j))
            (sym cells) (facts.known_all j)))
      ];
    }
