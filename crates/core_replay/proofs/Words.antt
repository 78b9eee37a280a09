-- What a word is that passes a test.
use Rattle.std.proofs.Common.{◌≡◌, ◌∙◌, ℕ, Bool, true, List, bytes_eq, sym}
use Rattle.std.proofs.lemmas.Slice.Eq.{bytes_eq-Decides}

-- a word that is equal to a text is the text
pub same_text : {word text : List ℕ} {test : Bool} → test ≡ bytes_eq word text → test ≡ true
    → text ≡ word
same_text {word = word} {text = text} is passes =
    sym ((bytes_eq-Decides word text).0 (sym is ∙ passes))
