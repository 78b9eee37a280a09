use Rattle.std.proofs.Common.{◌≡◌, ℕ, ◌+◌, ◌-◌, ◌≤◌, List, ◌++◌, take, drop, length, arith, sym}
use Rattle.std.proofs.Common.{◌∙◌, ap, length-drop}
use Rattle.std.proofs.lemmas.List.{length-take, take-append-le, drop-append-le, take-append-drop}
use Rattle.std.proofs.lemmas.List.Edits.{take-paste}
use Rattle.core_machine.specs.declared.places.Held.{Held}
use Rattle.core_machine.specs.Places.{kept}
use Rattle.core_machine.proofs.places.keep_places.Goals as goal

-- what stands further on does not count for places of the front
kept_of_front : (front all : List Held) (count from copies : ℕ) → count ≤ length front
    → from + copies ≤ length front
    → take (length front) all ≡ front → kept all count from copies ≡ kept front count from copies
kept_of_front front all count from copies first second is =
    let rest = drop (length front) all in
    let split : front ++ rest ≡ all = ap (λ (xs : List Held). xs ++ rest) (sym is)
    ∙ take-append-drop (length front) all in
    let start : from ≤ length front = omega arith in
    let left : copies ≤ length (drop from front) = omega (arith, length-drop from front) in
    let copied : take copies (drop from (front ++ rest)) ≡ take copies (drop from front) =
    ap (λ (xs : List Held). take copies xs) (drop-append-le from front rest start)
    ∙ take-append-le copies (drop from front) rest left in
    let whole : kept (front ++ rest) count from copies ≡ kept front count from copies =
    ap (λ (xs : List Held). xs ++ take copies (drop from (front ++ rest)))
    (take-append-le count front rest first)
    ∙ ap (λ (xs : List Held). take count front ++ xs) copied in
    ap (λ (xs : List Held). kept xs count from copies) (sym split) ∙ whole

-- the places that a copy within the list leaves up to the end of the copy
copied_is : (all : List Held) (count from copies n : ℕ) → count ≤ length all
    → n ≤ length (drop from all) → n ≡ copies
    → take (count + copies) (take count all ++ take n (drop from all) ++ drop (count + n) all)
    ≡ kept all count from copies
copied_is all count from copies n first left is =
    ap (λ (m : ℕ). take (count + m)
    (take count all ++ take n (drop from all) ++ drop (count + n) all)) (sym is)
    ∙ take-paste all count (drop from all) n first left
    ∙ ap (λ (m : ℕ). kept all count from m) is

pub returns-clause-places : goal.returns-clause-places
returns-clause-places c =
    let front = c.args.held.now.items in
    let all = c.lengthen.new.held.items in
    let longer : length front ≤ length all = omega
    (arith, ap length c.lengthen.ensures.front, length-take (length front) all) in
    let same : c.args.from + c.args.copies - c.args.from ≡ c.args.copies = omega arith in
    let left : c.args.from + c.args.copies - c.args.from ≤ length (drop c.args.from all) =
    omega (arith, length-drop c.args.from all) in
    c.truncate.ensures.items
    ∙ ap (λ (xs : List Held). take (c.args.count + c.args.copies) xs) c.copy_within.ensures.items
    ∙ copied_is all c.args.count c.args.from c.args.copies _ (omega arith) left same
    ∙ kept_of_front front all c.args.count c.args.from c.args.copies c.requires.count
    c.requires.from c.lengthen.ensures.front
