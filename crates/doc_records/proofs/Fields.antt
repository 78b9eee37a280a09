-- One read of a field.
use Rattle.std.proofs.Common.{◌≡◌, ℕ, zero, suc, List, ◌∷◌, sym, subst}
use Rattle.cell_words.specs.Term.{Term, null, num, five, IsFive}
use Rattle.cell_words.specs.declared.fields.Field.TheVariants as field
use Rattle.trails.specs.Marks.{Mark}
use Rattle.trails.specs.Asks.{gave}
use Rattle.trails.specs.Telling.{Tells, Keeps}
use Rattle.trails.proofs.Telling.{keeps_tells}
use Rattle.doc_records.specs.Shapes.{IsNum, ask_word}

-- a word without a byte is not asked for
pub told_word : (n : ℕ) (old new : List Mark) → Keeps old new
    → Tells (λ rest. gave (field.Num n) ∷ rest) old new → Tells (ask_word n) old new
told_word zero old new keeps told = keeps_tells keeps
told_word (suc n) old new keeps told = told

-- a call that is asked nothing tells nothing
pub untold : (old new : List Mark) → Keeps old new → Tells (λ rest. rest) old new
untold old new keeps = keeps_tells keeps

pub not_null : (t : Term) → null ≡ t → IsNum t → ⊥
not_null t is num_is = subst IsNum (sym is) num_is

pub not_record : (t u : Term) → t ≡ u → IsFive t → IsNum u → ⊥
not_record null u is five_is num_is = five_is
not_record (num n) u is five_is num_is = five_is
not_record (five a b c d e) u is five_is num_is = subst IsNum (sym is) num_is
