-- What the reader's loop keeps: the bytes read so far, before the text that is left, are the text.
use Rattle.std.proofs.Common.{◌≡◌, ℕ, List, [], ◌∷◌, ◌++◌, Option, Some, None, refl, sym, ap, ◌∙◌}
use Rattle.std.proofs.Common.{append_assoc, append-nil}
use Rattle.quoted_text.specs.Quoted.{behind_of, inside_from, inside_of, no_more_of, unquoted_of}
use Rattle.quoted_text.specs.Quoted.{with_byte}

-- a text whose first bytes are read already
abbrev pub ahead : List ℕ → Option (List ℕ) → Option (List ℕ)
ahead read None = None
ahead read (Some left) = Some (read ++ left)

ahead_none : (text : Option (List ℕ)) → ahead [] text ≡ text
ahead_none None = refl
ahead_none (Some text) = refl

ahead_byte : (read : List ℕ) (b : ℕ) (left : Option (List ℕ))
    → ahead read (with_byte (Some b) left) ≡ ahead (read ++ b ∷ []) left
ahead_byte read b None = refl
ahead_byte read b (Some left) = ap Some (sym (append_assoc read (b ∷ []) left))

pub starts : (bytes inside : List ℕ) → behind_of bytes ≡ Some inside
    → ahead [] (inside_of inside) ≡ unquoted_of bytes
starts bytes inside is = ahead_none (inside_of inside) ∙ ap inside_from (sym is)

pub goes_on : (read rest more : List ℕ) (b : ℕ) (grown : List ℕ) (whole : Option (List ℕ))
    → grown ≡ read ++ b ∷ [] → inside_of rest ≡ with_byte (Some b) (inside_of more)
    → ahead read (inside_of rest) ≡ whole → ahead grown (inside_of more) ≡ whole
goes_on read rest more b grown whole longer next so_far =
    ap (λ (bs : List ℕ). ahead bs (inside_of more)) longer
    ∙ sym (ahead_byte read b (inside_of more)) ∙ ap (ahead read) (sym next) ∙ so_far

pub ends : (read rest : List ℕ) (whole : Option (List ℕ)) → inside_of rest ≡ no_more_of rest
    → no_more_of rest ≡ Some [] → ahead read (inside_of rest) ≡ whole → whole ≡ Some read
ends read rest whole last quote so_far =
    sym so_far ∙ ap (ahead read) (last ∙ quote) ∙ ap Some (simp append-nil)

pub fails : (read rest : List ℕ) (whole : Option (List ℕ)) → inside_of rest ≡ no_more_of rest
    → no_more_of rest ≡ None → ahead read (inside_of rest) ≡ whole → whole ≡ None
fails read rest whole last none so_far = sym so_far ∙ ap (ahead read) (last ∙ none)
