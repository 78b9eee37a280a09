-- The pieces between slashes, one after another, as `Path::read` takes them.
use Rattle.std.proofs.Common.{◌≡◌, ℕ, suc, ◌+◌, ◌<◌, ◌≤◌, Bool, true, false, not, cond, eqb}
use Rattle.std.proofs.Common.{nat_lt, leb, List, [], ◌∷◌, ◌++◌, length, take, drop, Option, Some}
use Rattle.std.proofs.Common.{None, refl, sym, ap, ◌∙◌, append_assoc, ◌&&◌, arith}
use Rattle.std.specs.List.{list_all, position, position_or_len, onto_first}
use Rattle.std.proofs.lemmas.Bool.{and_left, and_right, and_from, ltb-true, ltb-false, cond-true}
use Rattle.std.proofs.lemmas.Bool.{cond-false}
use Rattle.std.proofs.lemmas.Bool.Decides.{nat_tests}
use Rattle.std.proofs.lemmas.List.{drop-drop, length-append}
use Rattle.std.proofs.lemmas.List.Folds.{list_all-append}
use Rattle.std.proofs.lemmas.List.Splits.{slice_split_first, length-slice_split}
use Rattle.std.proofs.Common.{IsTrue, nat_eq}
use Rattle.std.specs.Cmp.Lexicographic.{bytes_decides, pointwise, pointwise_decides}
use Rattle.doc_tree.specs.Words.{is_name, name_of, are_names, is_path, path_of, path_with, pieces}

abbrev slash : ℕ → Bool
slash b = eqb b 47

-- where a slash is found, it is the first
found : (xs : List ℕ) (at : ℕ) → position slash xs ≡ Some at
    → (at < length xs) × (position_or_len slash xs ≡ at)
found xs at =
    let n = position_or_len slash xs in
    elim (nat_lt n (length xs)) as (λ b. nat_lt n (length xs) ≡ b → cond b (Some n) None ≡ Some at
    → (at < length xs) × (n ≡ at)) [
      | true ↦ λ h e. (
        let same : n ≡ at = cc in let less : n < length xs =
            ltb-true _ _ h in omega (arith, same),
        cc,
      )
      | false ↦ λ h e. cc
    ] refl

pub cut_at : (xs : List ℕ) (at : ℕ) → position slash xs ≡ Some at
    → pieces xs ≡ take at xs ∷ pieces (drop 1 (drop at xs))
cut_at xs at e =
    let w = found xs at e in
    let less : position_or_len slash xs < length xs = omega (arith, w.0, w.1) in
    slice_split_first slash xs 0 less
    ∙ ap (λ n. take n xs ∷ pieces (drop (n + 1) xs)) w.1
    ∙ ap (λ (r : List ℕ). take at xs ∷ pieces r) (sym (drop-drop 1 at xs))

pub cut_room : (xs : List ℕ) (at : ℕ) → position slash xs ≡ Some at → at < length xs
cut_room xs at e = (found xs at e).0

-- no slash
one_piece : (xs : List ℕ) → length xs ≤ position_or_len slash xs → pieces xs ≡ xs ∷ []
one_piece [] h = refl
one_piece (x ∷ xs) h =
    elim (slash x) as (λ b. suc (length xs) ≤ cond (not b) (1 + position_or_len slash xs) 0
    → cond b ([] ∷ pieces xs) (onto_first x (pieces xs)) ≡ (x ∷ xs) ∷ []) [
      | true ↦ λ less. absurd (omega (arith, less))
      | false ↦ λ less. ap (onto_first x) (one_piece xs (omega (arith, less)))
    ] h

pub uncut : (xs : List ℕ) → position slash xs ≡ None → pieces xs ≡ xs ∷ []
uncut xs e =
    let n = position_or_len slash xs in
    elim (nat_lt n (length xs)) as (λ b. nat_lt n (length xs) ≡ b → cond b (Some n) None ≡ None
    → pieces xs ≡ xs ∷ []) [
      | true ↦ λ h s. cc
      | false ↦ λ h _. one_piece xs (ltb-false n (length xs) h)
    ] refl e

none_named : (bs : List ℕ) → name_of bs ≡ None → is_name bs ≡ false
none_named bs e =
    elim (is_name bs) as (λ b. cond b (Some bs) None ≡ None → b ≡ false)
    [ true ↦ λ h. cc | false ↦ λ _. refl ] e

pub some_named : (bs name : List ℕ) → name_of bs ≡ Some name → (is_name bs ≡ true) × (bs ≡ name)
some_named bs name e =
    elim (is_name bs) as (λ b. cond b (Some bs) None ≡ Some name → (b ≡ true) × (bs ≡ name))
    [ true ↦ λ h. (refl, cc) | false ↦ λ h. cc ] e

no_path : (names : List (List ℕ)) → is_path names ≡ false → path_with names ≡ None
no_path names e = cond-false (is_path names) (Some names) None e

pub a_path : (names : List (List ℕ)) → is_path names ≡ true → path_with names ≡ Some names
a_path names e = cond-true (is_path names) (Some names) None e

-- a piece that is no name
bad_piece : (names more : List (List ℕ)) (piece : List ℕ) → is_name piece ≡ false
    → path_with (names ++ piece ∷ more) ≡ None
bad_piece names more piece e =
    let bad : are_names (names ++ piece ∷ more) ≡ false =
    list_all-append is_name names (piece ∷ more)
    ∙ and_right (list_all is_name names) _ (and_left (is_name piece) _ e) in
    let all = names ++ piece ∷ more in
    no_path all (and_right (leb 1 (length all) && leb (length all) 8) (are_names all) bad)

pub refused_piece : (names : List (List ℕ)) (rest : List ℕ) (at : ℕ)
    (whole : Option (List (List ℕ))) → position slash rest ≡ Some at
    → path_with (names ++ pieces rest) ≡ whole → name_of (take at rest) ≡ None → None ≡ whole
refused_piece names rest at whole cut e none =
    sym (bad_piece names (pieces (drop 1 (drop at rest))) (take at rest)
    (none_named (take at rest) none))
    ∙ ap (λ ps. path_with (names ++ ps)) (sym (cut_at rest at cut))
    ∙ e

pub refused_last : (names : List (List ℕ)) (rest : List ℕ) (whole : Option (List (List ℕ)))
    → position slash rest ≡ None → path_with (names ++ pieces rest) ≡ whole → name_of rest ≡ None
    → None ≡ whole
refused_last names rest whole cut e none =
    sym (bad_piece names [] rest (none_named rest none))
    ∙ ap (λ ps. path_with (names ++ ps)) (sym (uncut rest cut)) ∙ e

-- a slash after the eighth piece
pub refused_more : (names : List (List ℕ)) (rest : List ℕ) (at : ℕ)
    (whole : Option (List (List ℕ))) → position slash rest ≡ Some at
    → path_with (names ++ pieces rest) ≡ whole → length names ≡ 7 → None ≡ whole
refused_more names rest at whole cut e full =
    let all = names ++ pieces rest in
    let long : 8 < length all =
    omega (
      arith,
      length-append names (pieces rest),
      ap length (cut_at rest at cut),
      length-slice_split slash (drop 1 (drop at rest)),
    ) in
    let over : leb (length all) 8 ≡ false = grind (arith, nat_tests) in
    sym (no_path all (and_left (leb 1 (length all) && leb (length all) 8) (are_names all)
    (and_right (leb 1 (length all)) _ over))) ∙ e

-- one more name
pub more_names : (names : List (List ℕ)) (piece name : List ℕ) → are_names names ≡ true
    → name_of piece ≡ Some name → are_names (names ++ name ∷ []) ≡ true
more_names names piece name all e =
    let w = some_named piece name e in
    let good : is_name name ≡ true = ap is_name (sym w.1) ∙ w.0 in
    list_all-append is_name names (name ∷ [])
    ∙ and_from (list_all is_name names) _ all (and_from (is_name name) true good refl)

pub more_pieces : (names : List (List ℕ)) (rest : List ℕ) (at : ℕ) (name : List ℕ)
    (whole : Option (List (List ℕ))) → position slash rest ≡ Some at
    → path_with (names ++ pieces rest) ≡ whole → name_of (take at rest) ≡ Some name
    → path_with ((names ++ name ∷ []) ++ pieces (drop 1 (drop at rest))) ≡ whole
more_pieces names rest at name whole cut e some =
    let w = some_named (take at rest) name some in
    ap path_with (append_assoc names (name ∷ []) (pieces (drop 1 (drop at rest))))
    ∙ ap (λ n. path_with (names ++ n ∷ pieces (drop 1 (drop at rest)))) (sym w.1)
    ∙ ap (λ ps. path_with (names ++ ps)) (sym (cut_at rest at cut))
    ∙ e

pub good_path : (names : List (List ℕ)) (name : List ℕ) → are_names (names ++ name ∷ []) ≡ true
    → length names ≤ 7 → is_path (names ++ name ∷ []) ≡ true
good_path names name all short =
    let n = length-append names (name ∷ []) in
    let low : leb 1 (length (names ++ name ∷ [])) ≡ true = grind (arith, nat_tests) in
    let high : leb (length (names ++ name ∷ [])) 8 ≡ true = grind (arith, nat_tests) in
    and_from _ (are_names (names ++ name ∷ [])) (and_from _ _ low high) all

pub whole_path : (names : List (List ℕ)) (rest name : List ℕ) (whole : Option (List (List ℕ)))
    → position slash rest ≡ None → path_with (names ++ pieces rest) ≡ whole
    → name_of rest ≡ Some name → are_names names ≡ true → length names ≤ 7
    → Some (names ++ name ∷ []) ≡ whole
whole_path names rest name whole cut e some all short =
    sym (a_path (names ++ name ∷ [])
    (good_path names name (more_names names rest name all some) short))
    ∙ ap (λ n. path_with (names ++ n ∷ [])) (sym (some_named rest name some).1)
    ∙ ap (λ ps. path_with (names ++ ps)) (sym (uncut rest cut))
    ∙ e

-- there is a piece of whatever bytes
pub some_pieces : (bytes : List ℕ) → 0 < length (pieces bytes)
some_pieces bytes = omega (arith, length-slice_split slash bytes)

-- names that are a path are that of the bytes whose pieces they are
pub a_path_of : (names : List (List ℕ)) (bytes : List ℕ) → IsTrue (is_path names)
    → pointwise (pointwise nat_eq) names (pieces bytes) ≡ true → path_of bytes ≡ Some names
a_path_of names bytes is same =
    let are : names ≡ pieces bytes =
    (pointwise_decides bytes_decides names (pieces bytes)).0 same in
    ap path_with (sym are) ∙ a_path names is

-- and they are the pieces of the bytes of a path
pieces_of : (all names : List (List ℕ)) → path_with all ≡ Some names → names ≡ all
pieces_of all names is =
    elim (is_path all) as (λ b. cond b (Some all) None ≡ Some names → names ≡ all)
    [ true ↦ λ h. cc | false ↦ λ h. absurd cc ] is

pub pieces_are_names : (names : List (List ℕ)) (bytes : List ℕ) → path_of bytes ≡ Some names
    → pointwise (pointwise nat_eq) names (pieces bytes) ≡ true
pieces_are_names names bytes is =
    (pointwise_decides bytes_decides names (pieces bytes)).1 (pieces_of (pieces bytes) names is)
