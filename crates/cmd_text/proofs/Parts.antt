-- A text that grew at its end, part by part, is its parts one after another.
use Rattle.std.proofs.Common.{append_assoc, ◌≡◌, ℕ, List, ◌++◌, refl}

pub eight_parts : (a b c d e f g h : List ℕ)
    → ((((((a ++ b) ++ c) ++ d) ++ e) ++ f) ++ g) ++ h ≡ a ++ b ++ c ++ d ++ e ++ f ++ g ++ h
eight_parts a b c d e f g h = simp append_assoc refl
