use Rattle.std.proofs.Common.{◌≡◌, ◌∙◌, ◌&&◌, ◌<◌, ◌∷◌, ℕ, Bool, List, [], ap, take, drop}
use Rattle.std.proofs.Common.{length, refl, sym, true, false, arith, nat_eq}
use Rattle.std.proofs.lemmas.Bool.Decides.{nat_tests}
use Rattle.std.specs.Cmp.Lexicographic.{pointwise}
use Rattle.doc_tree.specs.Words.{pieces}
use Rattle.doc_tree.proofs.Pieces.{cut_at, some_pieces, uncut}
use Rattle.doc_tree.proofs.path.+are_pieces.Goals as goal

abbrev same_bytes : List ℕ → List ℕ → Bool
same_bytes = pointwise nat_eq

abbrev same_names : List (List ℕ) → List (List ℕ) → Bool
same_names = pointwise (pointwise nat_eq)

and_true : (b : Bool) → (b && true) ≡ b
and_true true = refl
and_true false = refl

and_false : (b : Bool) → (b && false) ≡ false
and_false true = refl
and_false false = refl

none_left : {A : Type 0} (xs : List A) → length xs ≡ 0 → xs ≡ []
none_left [] none = refl
none_left (x ∷ xs) none = absurd (omega (arith, none))

-- no names are the pieces of no bytes
none_same : (ps : List (List ℕ)) → 0 < length ps → false ≡ same_names [] ps
none_same [] some = absurd (omega (arith, some))
none_same (p ∷ ps) some = refl

-- several names are not one piece
several : (others : List (List ℕ)) (b : Bool) → 0 < length others
    → false ≡ (b && same_names others [])
several [] b some = absurd (omega (arith, some))
several (x ∷ xs) b some = sym (and_false b)

pub returns-in_default : goal.returns-in_default
returns-in_default t c = record {
  pieces = none_same (pieces c.args.bytes.now) (some_pieces c.args.bytes.now)
      ∙ ap (λ (ns : List (List ℕ)). same_names ns (pieces c.args.bytes.now))
      (sym (none_left c.args.names.now c.in_default.ensures.cases));
}

pub returns-else-is_empty : goal.returns-else-is_empty
returns-else-is_empty t c =
    let bytes = c.args.bytes.now in
    let names = c.args.names.now in
    let first = c.in-Some.first.now in
    let others = c.in-Some.others.now in
    let some : 0 < length others =
    grind (arith, nat_tests, c.is_empty.ensures, c.if-is_empty.false) in
    record {
      pieces = c.if-is_empty.false ∙ several others (same_bytes first bytes) some
          ∙ ap (λ (ns : List (List ℕ)). same_names ns (bytes ∷ []))
          (sym c.in-Some.ensures.cases.0)
          ∙ ap (λ (ps : List (List ℕ)). same_names names ps)
          (sym (uncut bytes (sym c.in-None.ensures)));
    }

pub returns-then-is_empty : goal.returns-then-is_empty
returns-then-is_empty t c =
    let bytes = c.args.bytes.now in
    let names = c.args.names.now in
    let first = c.in-Some.first.now in
    let none : c.in-Some.others.now ≡ [] =
    none_left c.in-Some.others.now
    (grind (arith, nat_tests, c.is_empty.ensures, c.if-is_empty.true)) in
    record {
      pieces = c.eq.ensures ∙ ap (λ (n : List ℕ). same_bytes n bytes) c.bytes.ensures.bytes
          ∙ sym (and_true (same_bytes first bytes))
          ∙ ap (λ (xs : List (List ℕ)). same_names (first ∷ xs) (bytes ∷ [])) (sym none)
          ∙ ap (λ (ns : List (List ℕ)). same_names ns (bytes ∷ []))
          (sym c.in-Some.ensures.cases.0)
          ∙ ap (λ (ps : List (List ℕ)). same_names names ps)
          (sym (uncut bytes (sym c.in-None.ensures)));
    }

pub returns-else-eq : goal.returns-else-eq
returns-else-eq t c =
    let bytes = c.args.bytes.now in
    let at = c.in-Some-first_slash.at in
    let names = c.args.names.now in
    let first = c.in-Some.first.now in
    let others = c.in-Some.others.now in
    let rest = drop 1 (drop at bytes) in
    let other : false ≡ same_bytes first (take at bytes) =
    sym c.if-eq.false ∙ c.eq-in-Some-first_slash.ensures
    ∙ ap (λ (xs : List ℕ). same_bytes c.bytes-in-Some-first_slash.result.now xs)
    c.split_at.ensures.front
    ∙ ap (λ (n : List ℕ). same_bytes n (take at bytes))
    c.bytes-in-Some-first_slash.ensures.bytes in
    record {
      pieces = c.if-eq.false
          ∙ ap (λ (b : Bool). b && same_names others (pieces rest)) other
          ∙ ap (λ (ns : List (List ℕ)). same_names ns (take at bytes ∷ pieces rest))
          (sym c.in-Some.ensures.cases.0)
          ∙ ap (λ (ps : List (List ℕ)). same_names names ps)
          (sym (cut_at bytes at (sym c.in-Some-first_slash.ensures)));
    }

pub returns-then-eq : goal.returns-then-eq
returns-then-eq t c =
    let bytes = c.args.bytes.now in
    let at = c.in-Some-first_slash.at in
    let names = c.args.names.now in
    let others = c.in-Some.others.now in
    let first = c.in-Some.first.now in
    let rest : c.split_at-then-eq.result.1.now ≡ drop 1 (drop at bytes) =
    c.split_at-then-eq.ensures.back ∙ ap (λ (xs : List ℕ). drop 1 xs) c.split_at.ensures.back in
    let same : true ≡ same_bytes first (take at bytes) =
    sym c.if-eq.true ∙ c.eq-in-Some-first_slash.ensures
    ∙ ap (λ (xs : List ℕ). same_bytes c.bytes-in-Some-first_slash.result.now xs)
    c.split_at.ensures.front
    ∙ ap (λ (n : List ℕ). same_bytes n (take at bytes))
    c.bytes-in-Some-first_slash.ensures.bytes in
    record {
      pieces = c.are_pieces.ensures.pieces
          ∙ ap (λ (xs : List ℕ). same_names others (pieces xs)) rest
          ∙ ap (λ (b : Bool). b && same_names others (pieces (drop 1 (drop at bytes)))) same
          ∙ ap (λ (ns : List (List ℕ)).
          same_names ns (take at bytes ∷ pieces (drop 1 (drop at bytes))))
          (sym c.in-Some.ensures.cases.0)
          ∙ ap (λ (ps : List (List ℕ)). same_names names ps)
          (sym (cut_at bytes at (sym c.in-Some-first_slash.ensures)));
    }
