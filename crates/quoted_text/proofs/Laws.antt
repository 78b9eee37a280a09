-- Reading undoes writing, and writing undoes reading.
use Rattle.std.proofs.Common.{◌≡◌, ℕ, true, false, List, [], ◌∷◌, ◌++◌, Option, Some, None}
use Rattle.std.proofs.Common.{refl, sym, ap, subst, ◌∙◌, append_assoc}
use Rattle.std.specs.Prelude.{◌==◌, if◌then◌else◌}
use Rattle.std.specs.List.{flat_map, list_all}
use Rattle.std.proofs.lemmas.Bool.{and_from, and_parts, eqb-true}
use Rattle.quoted_text.specs.Quoted.{escaped, inside_from, inside_of, is_raw}
use Rattle.quoted_text.specs.Quoted.{quoted_of, unescaped, unquoted_of, with_byte}
use Rattle.doc_tree.specs.Words.{is_text_byte}
use Rattle.quoted_text.proofs.Escapes.{byte_read, escape_back, raw_back}

-- a text after its first quote
abbrev written : List ℕ → List ℕ
written text = flat_map escaped text ++ 34 ∷ []

pub read_back : (text : List ℕ) → list_all is_text_byte text ≡ true
    → inside_of (written text) ≡ Some text
read_back [] is = refl
read_back (b ∷ text) is =
    let parts = and_parts (is_text_byte b) (list_all is_text_byte text) is in
    ap inside_of (append_assoc (escaped b) (flat_map escaped text) (34 ∷ []))
    ∙ byte_read b (written text) text parts.0 (read_back text parts.1)

-- the bytes are how this text is written
abbrev IsWritten : List ℕ → List ℕ → Type 0
IsWritten bytes text = (bytes ≡ written text) × (list_all is_text_byte text ≡ true)

-- with one byte more
one_more : (b : ℕ) (front rest text : List ℕ)
    → (escaped b ≡ front) × (is_text_byte b ≡ true) → IsWritten rest text
    → IsWritten (front ++ rest) (b ∷ text)
one_more b front rest text byte later = (
  ap (λ (bs : List ℕ). bs ++ rest) (sym byte.0) ∙ ap (λ (bs : List ℕ). escaped b ++ bs) later.0
      ∙ sym (append_assoc (escaped b) (flat_map escaped text) (34 ∷ [])),
  and_from (is_text_byte b) (list_all is_text_byte text) byte.1 later.1,
)

-- what a byte and a text that are there give
with_both : (front rest text : List ℕ) (b : Option ℕ) (left : Option (List ℕ))
    → ((x : ℕ) → b ≡ Some x → (escaped x ≡ front) × (is_text_byte x ≡ true))
    → ((t : List ℕ) → left ≡ Some t → IsWritten rest t)
    → with_byte b left ≡ Some text → IsWritten (front ++ rest) text
with_both front rest text None left byte later is = cc
with_both front rest text (Some b) None byte later is = cc
with_both front rest text (Some b) (Some t) byte later is =
    let same : b ∷ t ≡ text = cc in
    subst (IsWritten (front ++ rest)) same (one_more b front rest t (byte b refl) (later t refl))

pub as_written : (bytes text : List ℕ) → inside_of bytes ≡ Some text → IsWritten bytes text
as_written [] text is = cc
as_written (b ∷ []) text is =
    elim (b == 34) as (λ t. (b == 34) ≡ t → (if t then Some [] else None) ≡ Some text
    → IsWritten (b ∷ []) text) [
      | true ↦ λ e h. (
          let none : [] ≡ text = cc in
          subst (IsWritten (b ∷ [])) none (ap (λ (x : ℕ). x ∷ []) (eqb-true b 34 e), refl)
          )
      | false ↦ λ e h. cc
    ] refl is
as_written (b ∷ c ∷ rest) text is =
    elim (b == 92) as (λ t. (b == 92) ≡ t
    → (if t then with_byte (unescaped c) (inside_of rest)
    else if is_raw b then with_byte (Some b) (inside_of (c ∷ rest)) else None) ≡ Some text
    → IsWritten (b ∷ c ∷ rest) text) [
      | true ↦ λ e h.
          subst (λ (x : ℕ). IsWritten (x ∷ c ∷ rest) text) (sym (eqb-true b 92 e))
          (with_both (92 ∷ c ∷ []) rest text (unescaped c) (inside_of rest) (escape_back c)
          (as_written rest) h)
      | false ↦ λ e h.
          elim (is_raw b) as (λ t. is_raw b ≡ t
          → (if t then with_byte (Some b) (inside_of (c ∷ rest)) else None) ≡ Some text
          → IsWritten (b ∷ c ∷ rest) text) [
            | true ↦ λ raw g.
                with_both (b ∷ []) (c ∷ rest) text (Some b) (inside_of (c ∷ rest))
                (λ x same. let one : b ≡ x = cc in
                subst (λ (y : ℕ). (escaped y ≡ b ∷ []) × (is_text_byte y ≡ true)) one
                (raw_back b raw))
                (as_written (c ∷ rest)) g
            | false ↦ λ raw g. cc
          ] refl h
    ] refl is

-- after a first quote
pub from_quote : (bytes text : List ℕ) → unquoted_of bytes ≡ Some text
    → (bytes ≡ quoted_of text) × (list_all is_text_byte text ≡ true)
from_quote [] text is = cc
from_quote (b ∷ rest) text is =
    elim (b == 34) as (λ t. (b == 34) ≡ t → inside_from (if t then Some rest else None) ≡ Some text
    → ((b ∷ rest) ≡ quoted_of text) × (list_all is_text_byte text ≡ true)) [
      | true ↦ λ e h. (
          let is_written = as_written rest text h in
          let quote = ap (λ (x : ℕ). x ∷ rest) (eqb-true b 34 e) in
          (quote ∙ ap (λ (bs : List ℕ). 34 ∷ bs) is_written.0, is_written.1)
          )
      | false ↦ λ e h. cc
    ] refl is
