use Rattle.std.proofs.Common.{◌≡◌, ◌∙◌, ◌-◌, ◌++◌, List, ap, append_assoc, arith, min, refl}
use Rattle.std.proofs.Common.{subst, ℕ}
use Rattle.std.specs.declared.cmp.Ordering.{Ordering}
use Rattle.doc_tree.specs.Tree.{name_cmp}
use Rattle.doc_records.specs.Orders.{order_then}
use Rattle.doc_records.specs.Texts.{bytes_here}
use Rattle.doc_records.specs.Words.{bytes_of}
use Rattle.doc_records.specs.declared.orders.Compared.{Compared}
use Rattle.doc_records.specs.declared.orders.Compared.TheVariants.{Decided}
use Rattle.doc_records.proofs.orders.order_cell.Goals as goal

-- what is known of a name after so many bytes of a word
abbrev Knows : List ℕ → ℕ → ℕ → Compared → Type 0
Knows name n w known =
    (more : List ℕ) → name_cmp name (bytes_of n w ++ more) ≡ order_then known more

first_word : (name : List ℕ) (n count w : ℕ) (known : Compared) → n ≡ min 7 (count - 0)
    → Knows name n w known → Knows name (min 7 count) w known
first_word name n count w known is knows =
    let all : n ≡ min 7 count = omega (arith, is) in
    subst (λ (k : ℕ). Knows name k w known) all knows

other_word : (name : List ℕ) (n k w : ℕ) (known : Compared) → n ≡ k → Knows name n w known
    → Knows name k w known
other_word name n k w known is knows = subst (λ (k : ℕ). Knows name k w known) is knows

after_first : (name more : List ℕ) (count w1 w2 w3 : ℕ) (known : Compared)
    → Knows name (min 7 count) w1 known
    → name_cmp name (bytes_here count w1 w2 w3 ++ more)
    ≡ order_then known
    (bytes_of (min 7 (count - 7)) w2 ++ (bytes_of (min 7 (count - 14)) w3 ++ more))
after_first name more count w1 w2 w3 known knows =
    let first = bytes_of (min 7 count) w1 in
    let second = bytes_of (min 7 (count - 7)) w2 in
    let third = bytes_of (min 7 (count - 14)) w3 in
    ap (name_cmp name)
    (append_assoc first (second ++ third) more
    ∙ ap (λ (bytes : List ℕ). first ++ bytes) (append_assoc second third more))
    ∙ knows (second ++ (third ++ more))

decided : (known : Compared) (order : Ordering) (x y : List ℕ) → known ≡ Decided order
    → order_then known x ≡ order_then known y
decided known order x y is = rw is refl

pub returns-in_default : goal.returns-in_default
returns-in_default c more =
    let cell = c.args.cell in
    let first = c.order_word-first.result in
    let third = bytes_of (min 7 (cell.count - 14)) cell.third in
    let second = bytes_of (min 7 (cell.count - 7)) cell.second in
    after_first c.args.name.now more cell.count cell.first cell.second cell.third first
    (first_word _ _ cell.count _ first c.bytes_in.ensures c.order_word-first.ensures)
    ∙ decided first _ (second ++ (third ++ more)) more c.in_default.is

pub returns-in_default-second : goal.returns-in_default-second
returns-in_default-second c more =
    let cell = c.args.cell in
    let first = c.order_word-first.result in
    let third = bytes_of (min 7 (cell.count - 14)) cell.third in
    let second = bytes_of (min 7 (cell.count - 7)) cell.second in
    after_first c.args.name.now more cell.count cell.first cell.second cell.third first
    (first_word _ _ cell.count _ first c.bytes_in.ensures c.order_word-first.ensures)
    ∙ ap (λ (known : Compared). order_then known (second ++ (third ++ more))) c.in-Same.is
    ∙ other_word c.in-Same.rest.now _ _ cell.second c.order_word-second.result
    c.bytes_in-2.ensures c.order_word-second.ensures (third ++ more)
    ∙ decided c.order_word-second.result _ (third ++ more) more c.in_default-second.is

pub returns : goal.returns
returns c more =
    let cell = c.args.cell in
    let first = c.order_word-first.result in
    let third = bytes_of (min 7 (cell.count - 14)) cell.third in
    let second = bytes_of (min 7 (cell.count - 7)) cell.second in
    after_first c.args.name.now more cell.count cell.first cell.second cell.third first
    (first_word _ _ cell.count _ first c.bytes_in.ensures c.order_word-first.ensures)
    ∙ ap (λ (known : Compared). order_then known (second ++ (third ++ more))) c.in-Same.is
    ∙ other_word c.in-Same.rest.now _ _ cell.second c.order_word-second.result
    c.bytes_in-2.ensures c.order_word-second.ensures (third ++ more)
    ∙ ap (λ (known : Compared). order_then known (third ++ more)) c.in-Same-second.is
    ∙ other_word c.in-Same-second.rest.now _ _ cell.third c.order_word.result
    c.bytes_in-3.ensures c.order_word.ensures more
