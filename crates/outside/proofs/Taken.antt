-- What several calls of a loop wrote, one after another, is what they wrote together.
use Rattle.std.proofs.Common.{◌≡◌, ℕ, ◌+◌, ◌<◌, List, ◌++◌, Option, length, take, drop, subst, sym}
use Rattle.std.proofs.Common.{ap, arith, length-append, ◌∙◌, Some, None}
use Rattle.std.proofs.Math.Seq.{take-add, take-append-add}
use Rattle.std.specs.Prelude.{position}
use Rattle.std.proofs.lemmas.List.{append_assoc, append-nil, take-append-drop, take-append-le}
use Rattle.std.proofs.KnownBytes.{Appends-trans}
use Rattle.std.specs.Io.KnownBytes.{Appends}
use Rattle.outside.specs.Pieces.{AppendsPart, cut_behind, first_line, is_line_feed}

-- a front of the bytes was written, and then a front of the rest
pub appended_more : (a b c : Option (List ℕ)) (bytes : List ℕ) (k n : ℕ)
    → Appends a b (take k bytes) → Appends b c (take n (drop k bytes))
    → Appends a c (take (k + n) bytes)
appended_more a b c bytes k n first second =
    subst (λ front. Appends a c front) (sym (take-add k n bytes))
    (Appends-trans a b c _ _ first second)

-- of a text that is written line by line, all that stands before the rest was written
pub record IsWritten (a b : Option (List ℕ)) (text rest : List ℕ) : Type 0 where
  pub done : List ℕ
  pub cut : text ≡ done ++ rest
  pub written : Appends a b done

-- the next line was written
pub appended_next : (a b c : Option (List ℕ)) (text rest line left : List ℕ)
    → IsWritten a b text rest → rest ≡ line ++ left
    → Appends b c line → IsWritten a c text left
appended_next a b c text rest line left before is now =
    record {
      done = before.done ++ line;
      cut = before.cut ∙ ap (λ xs. before.done ++ xs) is ∙ sym (append_assoc before.done line left);
      written = Appends-trans a b c _ _ before.written now;
    }

-- a part of the next line was written, and with what stands before it a part of the text
pub part_of_text : (a b c : Option (List ℕ)) (text rest line left : List ℕ)
    → IsWritten a b text rest → rest ≡ line ++ left
    → AppendsPart b c line → AppendsPart a c text
part_of_text a b c text rest line left before is part =
    let done : List ℕ = before.done in
    let cut : text ≡ done ++ (line ++ left) = before.cut ∙ ap (λ xs. done ++ xs) is in
    let front : take (length done + part.0) text ≡ done ++ take part.0 line =
    ap (take (length done + part.0)) cut
    ∙ take-append-add done (line ++ left) part.0
    ∙ ap (λ xs. done ++ xs) (take-append-le part.0 line left (omega arith)) in (
      length done + part.0,
      subst (λ all. length done + part.0 < length all) (sym cut) (simp length-append (omega arith)),
      subst (λ xs. Appends a c xs) (sym front) (Appends-trans a b c _ _ before.written part.2),
    )

behind : (at : Option ℕ) (text : List ℕ) → text ≡ (cut_behind at text).0 ++ (cut_behind at text).1
behind (Some at) text = sym (take-append-drop (at + 1) text)
behind None text = sym (append-nil text)

-- a text is its first line and what stands after it
pub first_cut : (text : List ℕ) → text ≡ (first_line text).0 ++ (first_line text).1
first_cut text = behind (position is_line_feed text) text
