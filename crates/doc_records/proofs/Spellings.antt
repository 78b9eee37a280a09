-- A node that is spelled: its fields, and what its text takes.
use Rattle.std.proofs.Common.{◌≡◌, ◌≤◌, List, [], ◌∷◌, ◌++◌, subst, ℕ, zero, suc, ap, refl}
use Rattle.std.proofs.Common.{drop, length, sym}
use Rattle.std.proofs.Common.{◌∙◌, arith, Result, Ok, Err, OnOk}
use Rattle.std.proofs.lemmas.List.{append-nil}
use Rattle.std.proofs.lemmas.Bool.Decides.{nat_tests}
use Rattle.cell_words.specs.Term.{Term, null, num, five, part, number, IsFive}
use Rattle.doc_tree.specs.Tree.{count, height}
use Rattle.trails.specs.Asks.{Shows}
use Rattle.trails.specs.Marks.{Mark}
use Rattle.trails.specs.Telling.{Due, Tells, Keeps}
use Rattle.trails.proofs.Telling.{tells_shows, keeps_begins, keeps_grown}
use Rattle.trails.proofs.Orders.{shows_on}
use Rattle.doc_records.specs.declared.bounds.TheConstants.{TEXT_CELLS}
use Rattle.doc_records.specs.Pool.{Shown, Later, Kept}
use Rattle.doc_records.specs.Shapes.{IsChain, cells_of, ask_cell, ask_text}
use Rattle.doc_records.specs.Texts.{IsText, SpellsText, bytes_here, text_of, text_asks}
use Rattle.doc_records.specs.Trees.{IsNode, tree_of}
use Rattle.doc_records.proofs.Chains.{ask_next}
use Rattle.doc_records.proofs.Spelled.{chain_spelled, cells_spelled, ask_spelled, text_bytes}

-- the text of a node
pub node_text : (t : Term) → IsNode t → IsText (part 0 t)
node_text null is = absurd is
node_text (num n) is = absurd is
node_text (five a b c d e) is = is.text

pub node_five : (t : Term) → IsNode t → IsFive t
node_five null is = is
node_five (num n) is = is
node_five (five a b c d e) is = tt

pub node_count : (t : Term) → IsNode t → part 2 t ≡ num (count (tree_of t))
node_count null is = absurd is
node_count (num n) is = absurd is
node_count (five a b c d e) is = is.count

pub node_height : (t : Term) → IsNode t → part 3 t ≡ num (height (tree_of t))
node_height null is = absurd is
node_height (num n) is = absurd is
node_height (five a b c d e) is = is.height

pub text_chain : (t : Term) → IsText t → IsChain t
text_chain t is = chain_spelled t (text_of t) is.spells

pub text_cells : (t : Term) → IsText t → cells_of t ≤ TEXT_CELLS
text_cells t is = grind (arith, nat_tests, is.text, cells_spelled t (text_of t) is.spells)

text_tells : (t : Term) (old new : List Mark) → IsText t → Tells (ask_text t) old new
    → Keeps old new → Shows (text_asks (text_of t)) old new
text_tells t old new is told keeps =
    let asks =
    ask_spelled t (text_of t) [] is.spells (text_bytes (text_of t) is.text)
    ∙ append-nil (text_asks (text_of t)) in
    subst (λ asks. Shows asks old new) asks (tells_shows told (keeps_begins keeps))

pub text_shown : {T E : Type 0} (r : Result T E) (P : Type 0) (t : Term) (a b c : List Mark)
    → IsText t → OnOk r (P → Tells (ask_text t) a b) → Keeps a b → Keeps b c
    → OnOk r (P → Shows (text_asks (text_of t)) a c)
text_shown (Ok x) P t a b c is told first second =
    λ p. shows_on (text_tells t a b is (told p) first) (keeps_grown second)
text_shown (Err e) P t a b c is told first second = tt

-- a text of 21 bytes or fewer is one cell
no_text : (t : Term) → SpellsText t [] → t ≡ null
no_text null is = refl
no_text (num n) is = absurd is
no_text (five a b c d e) is = absurd (omega (arith, is.0.some))

drop_whole : (n : ℕ) (bytes : List ℕ) → length bytes ≤ n → drop n bytes ≡ []
drop_whole zero [] few = refl
drop_whole zero (b ∷ bytes) few = absurd (omega (arith, few))
drop_whole (suc n) [] few = refl
drop_whole (suc n) (b ∷ bytes) few = drop_whole n bytes (omega (arith, few))

last_cell : (t : Term) → IsText t → IsFive t → number (part 0 t) ≤ 21 → part 4 t ≡ null
last_cell null is five_is few = absurd five_is
last_cell (num n) is five_is few = absurd five_is
last_cell (five a b c d e) is five_is few =
    let bytes = text_of (five a b c d e) in
    let long : number a ≡ length bytes = ap number is.spells.0.count in
    no_text e
    (subst (λ (rest : List ℕ). SpellsText e rest)
    (drop_whole 21 bytes (omega (arith, few, long))) is.spells.1)

module _ (t : Term) (count first second third : ℕ) (is : IsText t) (five_is : IsFive t)
    (number_is : count ≡ number (part 0 t)) (few : count ≤ 21) where
  pub one_cell : text_of t ≡ bytes_here count first second third ++ text_of (part 4 t)
      → bytes_here count first second third ≡ text_of t
  one_cell whole =
      let last : part 4 t ≡ null = last_cell t is five_is (omega (arith, few, number_is)) in
      let here = bytes_here count first second third in
      sym
      (whole ∙ ap (λ (u : Term). here ++ text_of u) last ∙ append-nil here)

  pub one_told : (old new : List Mark) → Tells (ask_cell t) old new → Tells (ask_text t) old new
  one_told old new told all rest due =
      let last : part 4 t ≡ null = last_cell t is five_is (omega (arith, few, number_is)) in
      let asks : ask_text t rest ≡ ask_cell t rest =
      ask_next t rest five_is ∙ ap (λ (u : Term). ask_cell t (ask_text u rest)) last in
      told all rest (subst (λ asks. Due all asks old) asks due)

-- places that are given back
pub kept_back : {A F : Type 0} (a b c : Shown A F) → Later a b → Kept a.held b c → Later a c
kept_back a b c later kept = record {
  still = λ x n stands low. kept.still x n (later.still x n stands low) low;
  now = λ x stands. kept.now x (later.still x a.held stands (omega arith));
  same = λ x stands. kept.same x (later.still x a.held stands (omega arith)) ∙ later.same x stands;
  says = λ f n says low. kept.says f n (later.says f n says low) low;
  longer = kept.longer;
  room = kept.room ∙ later.room;
  marks = λ before begins. kept.marks before (later.marks before begins);
}
