use Rattle.std.proofs.Common.{◌≡◌, ◌<◌, ◌+◌, ◌++◌, ◌∙◌, List, [], ◌∷◌, ℕ, ap, arith, get_or, length}
use Rattle.std.proofs.Common.{sym, take, take_all}
use Rattle.std.proofs.lemmas.List.{take_more}
use Rattle.doc_tree.proofs.path.copies.Goals as goal

copy_more : (names copies all : List (List ℕ)) (i : ℕ) (n : List ℕ) → i < length names
    → n ≡ get_or names i n → copies ≡ take i names → all ≡ copies ++ n ∷ []
    → all ≡ take (i + 1) names
copy_more names copies all i n inside is so made =
    made ∙ ap (λ (xs : List (List ℕ)). xs ++ n ∷ []) so
    ∙ ap (λ (m : List ℕ). take i names ++ m ∷ []) is ∙ sym (take_more names i n inside)

pub returns : goal.returns
returns c =
    c.loop-name.invariant
    ∙ take_all c.loop-name.name-index c.args.names.now.items
    (omega (arith, c.loop-name-test.false, c.deref-name-items.ensures.len))

pub loop-name-init : goal.loop-name-init
loop-name-init c = c.in_ok-copies.ensures.items

pub loop-name-preserved : goal.loop-name-preserved
loop-name-preserved c =
    let names = c.args.names.now.items in
    let i = c.loop-name.name-index in
    let n = c.name-item.result in
    let is : n ≡ get_or names i n = rw c.deref-name-items.ensures.value at c.name-item.is in
    let made : c.push.new.self.items ≡ c.loop-name.copies.items ++ n ∷ [] =
    rw c.in_ok-copy.ensures at c.in_ok-push.ensures.items in
    copy_more names c.loop-name.copies.items c.push.new.self.items i n
    (omega (arith, c.loop-name-test.true, c.deref-name-items.ensures.len)) is
    c.loop-name.invariant made
