-- What is known at the places of a held list, after changes of what is known of one cell; and what
-- a state says of it.
use Rattle.std.proofs.Common.{◌≡◌, ◌≢◌, ◌<◌, ◌==◌, ◌&&◌, ℕ, zero, suc, Bool, true, false}
use Rattle.std.proofs.Common.{List, [], ◌∷◌, ◌++◌, length, get_or, slice_index_or}
use Rattle.std.proofs.Common.{Option, Some, None}
use Rattle.std.proofs.Common.{refl, sym, ◌∙◌, ap, subst, arith, inl, inr, if◌then◌else◌}
use Rattle.std.proofs.lemmas.Bool.{cases_eq, eq-eqb, ne_eqb}
use Rattle.std.proofs.lemmas.List.{get_or_append_left}
use Rattle.cell_words.specs.declared.fields.Field.{Field}
use Rattle.cell_words.specs.declared.fields.Field.TheVariants as field
use Rattle.cell_words.specs.Term.{Term}
use Rattle.core_machine.specs.State.{State, field_of}
use Rattle.core_machine.specs.Words.{is_box_kind}
use Rattle.dlg_core.specs.Reachable.{Reachable}
use Rattle.dlg_core.proofs.Truths.{or_here, or_later}
use Rattle.heap_rule.specs.declared.known.Known.{Known}
use Rattle.heap_rule.specs.declared.known.Known.TheVariants as knows
use Rattle.heap_rule.specs.declared.view.View.{View}
use Rattle.heap_rule.specs.Asks.{is_sealed, known_of, knows_sealed, target}
use Rattle.heap_rule.specs.Boxes.{payload_of}
use Rattle.heap_rule.specs.Facts.{IsKnown}
use Rattle.heap_rule.specs.Knowledge.{KnownAt}
use Rattle.heap_rule.specs.Lore.{Entry, Lore, Plain, Terms, at_cell, five_plain, known_at}
use Rattle.heap_rule.specs.Lore.{learned_of, plain, told}
use Rattle.heap_rule.specs.Steps.{Mine}
use Rattle.heap_rule.proofs.Seats.{knows_place}
use Rattle.heap_rule.proofs.EntryWords.{learned_box}
use Rattle.held_places.specs.Calls.{StillKnown, known_fresh, one_kind, settled}
use Rattle.held_places.proofs.Going.{still_same}

-- Changes of what is known of one cell.

-- at a place of this cell
pub changed_here : (change : Known → Known) (c : ℕ) (cells : List ℕ) (known : List Known)
    (place : ℕ) → place < length cells → length known ≡ length cells → get_or cells place 0 ≡ c
    → known_at (at_cell change c cells known) place ≡ change (known_at known place)
changed_here change c [] known place lt same is = absurd (omega (arith, lt))
changed_here change c (d ∷ cells) [] place lt same is = absurd (omega (arith, same))
changed_here change c (d ∷ cells) (k ∷ known) zero lt same is =
    ap (λ (b : Bool). if b then change k else k) (eq-eqb d c is)
changed_here change c (d ∷ cells) (k ∷ known) (suc place) lt same is =
    changed_here change c cells known place (omega (arith, lt)) (let e : length known
    ≡ length cells = omega (arith, same) in e) is

-- at a place of another cell
pub changed_else : (change : Known → Known) (c : ℕ) (cells : List ℕ) (known : List Known)
    (place : ℕ) → place < length cells → get_or cells place 0 ≢ c
    → known_at (at_cell change c cells known) place ≡ known_at known place
changed_else change c [] known place lt other = absurd (omega (arith, lt))
changed_else change c (d ∷ cells) [] place lt other = refl
changed_else change c (d ∷ cells) (k ∷ known) zero lt other =
    ap (λ (b : Bool). if b then change k else k) (ne_eqb d c other)
changed_else change c (d ∷ cells) (k ∷ known) (suc place) lt other =
    changed_else change c cells known place (omega (arith, lt)) other

-- a change that leaves whether the cell is fresh leaves that at every place
pub changed_fresh : (change : Known → Known)
    → ((k : Known) → known_fresh (change k) ≡ known_fresh k)
    → (c : ℕ) (cells : List ℕ) (known : List Known) (place : ℕ) → place < length cells
    → length known ≡ length cells
    → known_fresh (known_at (at_cell change c cells known) place)
    ≡ known_fresh (known_at known place)
changed_fresh change leaves c cells known place lt same =
    elim (cases_eq (get_or cells place 0) c) [
      | inl is ↦ ap known_fresh (changed_here change c cells known place lt same is)
          ∙ leaves (known_at known place)
      | inr other ↦ ap known_fresh (changed_else change c cells known place lt other)
    ]

-- at any place
pub changed_still : (fixed : ℕ → Bool) (change : Known → Known) (c : ℕ) (cells : List ℕ)
    (known : List Known)
    (place : ℕ) → place < length cells → length known ≡ length cells
    → (get_or cells place 0 ≡ c
    → StillKnown fixed (known_at known place) (change (known_at known place)))
    → StillKnown fixed (known_at known place) (known_at (at_cell change c cells known) place)
changed_still fixed change c cells known place lt same step =
    elim (cases_eq (get_or cells place 0) c) [
      | inl is ↦ subst (λ (k : Known). StillKnown fixed (known_at known place) k)
          (sym (changed_here change c cells known place lt same is)) (step is)
      | inr other ↦ subst (λ (k : Known). StillKnown fixed (known_at known place) k)
          (sym (changed_else change c cells known place lt other))
          (still_same fixed (known_at known place))
    ]

-- one more place
pub pushed_still : (fixed : ℕ → Bool) (known : List Known) (k : Known) (place : ℕ)
    → place < length known
    → StillKnown fixed (known_at known place) (known_at (known ++ k ∷ []) place)
pushed_still fixed known k place lt =
    subst (λ (j : Known). StillKnown fixed (known_at known place) j)
    (sym (get_or_append_left known (k ∷ []) knows.Nothing place lt))
    (still_same fixed (known_at known place))

-- some place has the cell, and knows that it is sealed
pub sealed_at : (cells : List ℕ) (known : List Known) (place c : ℕ) → place < length cells
    → get_or cells place 0 ≡ c → is_sealed (known_at known place) ≡ true
    → knows_sealed cells known c ≡ true
sealed_at [] known place c lt is sealed = absurd (omega (arith, lt))
sealed_at (d ∷ cells) [] place c lt is sealed = absurd cc
sealed_at (d ∷ cells) (k ∷ known) zero c lt is sealed =
    or_here ((d == c) && is_sealed k) (knows_sealed cells known c)
    (ap (λ (b : Bool). b && is_sealed k) (eq-eqb d c is) ∙ sealed)
sealed_at (d ∷ cells) (k ∷ known) (suc place) c lt is sealed =
    or_later ((d == c) && is_sealed k) (knows_sealed cells known c)
    (sealed_at cells known place c (omega (arith, lt)) is sealed)

-- What a state says.

-- two things known of one cell fit together
kinds_fit : (fixed : ℕ → Bool) (terms : Terms) (row : ℕ → Field) (term : Option Term)
    (fresh : Option ℕ) (i x : ℕ) (j k : Known) → KnownAt fixed terms row term fresh i x j
    → KnownAt fixed terms row term fresh i x k → one_kind j k ≡ true
kinds_fit fixed terms row term fresh i x knows.Nothing k a b = refl
kinds_fit fixed terms row term fresh i x (knows.Raw fs) knows.Nothing a b = refl
kinds_fit fixed terms row term fresh i x (knows.Raw fs) (knows.Raw gs) a b = refl
kinds_fit fixed terms row term fresh i x (knows.Raw fs) (knows.Fresh gs) a b =
    absurd (let e : is_box_kind field.Null ≡ true = sym (ap is_box_kind a.0) ∙ b.0 in cc)
kinds_fit fixed terms row term fresh i x (knows.Raw fs) (knows.Record t) a b =
    absurd (let e : field.Null ≡ field.Num 1 = sym a.0 ∙ b.0 in cc)
kinds_fit fixed terms row term fresh i x (knows.Raw fs) (knows.Boxed os) a b =
    absurd (let e : is_box_kind field.Null ≡ true = sym (ap is_box_kind a.0) ∙ b.1 in cc)
kinds_fit fixed terms row term fresh i x (knows.Fresh fs) knows.Nothing a b = refl
kinds_fit fixed terms row term fresh i x (knows.Fresh fs) (knows.Raw gs) a b =
    absurd (let e : is_box_kind field.Null ≡ true = sym (ap is_box_kind b.0) ∙ a.0 in cc)
kinds_fit fixed terms row term fresh i x (knows.Fresh fs) (knows.Fresh gs) a b = refl
kinds_fit fixed terms row term fresh i x (knows.Fresh fs) (knows.Record t) a b =
    absurd (let e : is_box_kind (field.Num 1) ≡ true = sym (ap is_box_kind b.0) ∙ a.0 in cc)
kinds_fit fixed terms row term fresh i x (knows.Fresh fs) (knows.Boxed os) a b =
    absurd (let e : Some i ≡ None = sym a.1 ∙ b.2 in cc)
kinds_fit fixed terms row term fresh i x (knows.Record t) knows.Nothing a b = refl
kinds_fit fixed terms row term fresh i x (knows.Record t) (knows.Raw gs) a b =
    absurd (let e : field.Num 1 ≡ field.Null = sym a.0 ∙ b.0 in cc)
kinds_fit fixed terms row term fresh i x (knows.Record t) (knows.Fresh gs) a b =
    absurd (let e : is_box_kind (field.Num 1) ≡ true = sym (ap is_box_kind a.0) ∙ b.0 in cc)
kinds_fit fixed terms row term fresh i x (knows.Record t) (knows.Record u) a b = refl
kinds_fit fixed terms row term fresh i x (knows.Record t) (knows.Boxed os) a b =
    absurd (let e : is_box_kind (field.Num 1) ≡ true = sym (ap is_box_kind a.0) ∙ b.1 in cc)
kinds_fit fixed terms row term fresh i x (knows.Boxed os) knows.Nothing a b = refl
kinds_fit fixed terms row term fresh i x (knows.Boxed os) (knows.Raw gs) a b =
    absurd (let e : is_box_kind field.Null ≡ true = sym (ap is_box_kind b.0) ∙ a.1 in cc)
kinds_fit fixed terms row term fresh i x (knows.Boxed os) (knows.Fresh gs) a b =
    absurd (let e : Some i ≡ None = sym b.1 ∙ a.2 in cc)
kinds_fit fixed terms row term fresh i x (knows.Boxed os) (knows.Record u) a b =
    absurd (let e : is_box_kind (field.Num 1) ≡ true = sym (ap is_box_kind b.0) ∙ a.1 in cc)
kinds_fit fixed terms row term fresh i x (knows.Boxed os) (knows.Boxed us) a b = refl

-- the anchor is no fresh cell
anchor_old : (fixed : ℕ → Bool) (s : State) (l : Lore) (i : ℕ) (k : Known) → l.fresh 0 ≡ None
    → IsKnown fixed s l i 0 k → known_fresh k ≡ false
anchor_old fixed s l i knows.Nothing old is = refl
anchor_old fixed s l i (knows.Raw fields) old is =
    absurd (let e : Some i ≡ None = sym is.1 ∙ old in cc)
anchor_old fixed s l i (knows.Fresh fields) old is =
    absurd (let e : Some i ≡ None = sym is.1 ∙ old in cc)
anchor_old fixed s l i (knows.Record t) old is = refl
anchor_old fixed s l i (knows.Boxed told) old is = refl

-- what is fresh is not settled
pub fresh_apart : (j k : Known) → known_fresh j ≡ true → settled k ≡ true → one_kind j k ≡ true → ⊥
fresh_apart knows.Nothing k fresh is same = absurd cc
fresh_apart (knows.Raw fs) knows.Nothing fresh is same = absurd cc
fresh_apart (knows.Raw fs) (knows.Raw gs) fresh is same = absurd cc
fresh_apart (knows.Raw fs) (knows.Fresh gs) fresh is same = absurd cc
fresh_apart (knows.Raw fs) (knows.Record t) fresh is same = absurd cc
fresh_apart (knows.Raw fs) (knows.Boxed told) fresh is same = absurd cc
fresh_apart (knows.Fresh fs) knows.Nothing fresh is same = absurd cc
fresh_apart (knows.Fresh fs) (knows.Raw gs) fresh is same = absurd cc
fresh_apart (knows.Fresh fs) (knows.Fresh gs) fresh is same = absurd cc
fresh_apart (knows.Fresh fs) (knows.Record t) fresh is same = absurd cc
fresh_apart (knows.Fresh fs) (knows.Boxed told) fresh is same = absurd cc
fresh_apart (knows.Record t) k fresh is same = absurd cc
fresh_apart (knows.Boxed told) k fresh is same = absurd cc

plain_at : (p : ℕ → Entry) (f : ℕ) (t : Term) → f < 5 → p f ≡ Plain t
    → slice_index_or (five_plain p) f None ≡ Some t
plain_at p zero t lt is = ap plain is
plain_at p (suc zero) t lt is = ap plain is
plain_at p (suc (suc zero)) t lt is = ap plain is
plain_at p (suc (suc (suc zero))) t lt is = ap plain is
plain_at p (suc (suc (suc (suc zero)))) t lt is = ap plain is
plain_at p (suc (suc (suc (suc (suc n))))) t lt is = absurd (omega (arith, lt))

-- what is told of a raw cell, a fresh box or a record is nothing new
told_raw : (here : Known) (fields : List Field) → told here (knows.Raw fields) ≡ knows.Raw fields
told_raw knows.Nothing fields = refl
told_raw (knows.Raw others) fields = refl
told_raw (knows.Fresh others) fields = refl
told_raw (knows.Record t) fields = refl
told_raw (knows.Boxed terms) fields = refl

told_fresh : (here : Known) (fields : List Field)
    → told here (knows.Fresh fields) ≡ knows.Fresh fields
told_fresh knows.Nothing fields = refl
told_fresh (knows.Raw others) fields = refl
told_fresh (knows.Fresh others) fields = refl
told_fresh (knows.Record t) fields = refl
told_fresh (knows.Boxed terms) fields = refl

told_record : (here : Known) (t : Term) → told here (knows.Record t) ≡ knows.Record t
told_record knows.Nothing t = refl
told_record (knows.Raw others) t = refl
told_record (knows.Fresh others) t = refl
told_record (knows.Record u) t = refl
told_record (knows.Boxed terms) t = refl

module _ {P : Type 0} (fixed : ℕ → Bool) (v : View P) (s : State) (l : Lore)
    (mine : Mine fixed v s l) where
  pub fit : (one other : ℕ) → one < length v.own.held → other < length v.own.held
      → target v one ≡ target v other → one_kind (known_of v one) (known_of v other) ≡ true
  fit one other here there same =
      let x = target v other in
      kinds_fit fixed l.terms (field_of s x) (l.terms x) (l.fresh x) v.number x
      (known_of v one) (known_of v other)
      (subst (λ (c : ℕ). IsKnown fixed s l v.number c (known_of v one)) same
      (knows_place v s l mine one here))
      (knows_place v s l mine other there)

  pub not_fresh : (place : ℕ) → place < length v.own.held → target v place ≡ 0
      → known_fresh (known_of v place) ≡ false
  not_fresh place lt at_anchor =
      anchor_old fixed s l v.number (known_of v place) mine.shown.facts.freshed.anchor
      (subst (λ (c : ℕ). IsKnown fixed s l v.number c (known_of v place)) at_anchor
      (knows_place v s l mine place lt))

  -- what a read tells of a cell leaves what is known of it
  pub told_still : (x : ℕ) (k : Known) → Reachable s x → IsKnown fixed s l v.number x k
      → StillKnown fixed k (told (learned_of s l x) k)
  told_still x knows.Nothing r is = tt
  told_still x (knows.Raw fields) r is = told_raw (learned_of s l x) fields
  told_still x (knows.Fresh fields) r is = told_fresh (learned_of s l x) fields
  told_still x (knows.Record t) r is = told_record (learned_of s l x) t
  told_still x (knows.Boxed others) r is =
      let box = learned_box fixed s l mine.shown.facts x record {
        reached = r;
        box = is.1;
        old = is.2;
      } is.0 in (
        five_plain (payload_of s l x),
        (
          ap (λ (h : Known). told h (knows.Boxed others)) box,
          λ f t lt fixed e. plain_at (payload_of s l x) f t lt (is.3 f t lt fixed e),
        ),
      )
