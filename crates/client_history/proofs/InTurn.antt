-- Where some entries have stretches in turn that each meet one demand, whichever of them there is
-- gives such a stretch.
use Rattle.std.proofs.Common.{◌≡◌, ℕ, zero, suc, Bool, true, false, cond, List, []}
use Rattle.std.proofs.Common.{◌∷◌, filter, sym, ◌∙◌, ap}
use Rattle.std.proofs.lemmas.Bool.{false≢true}
use mathlib.Core.Option.{some, some-injective, some-ne-none}
use lib.ListN.{get_elem?}
use Rattle.trails.specs.Marks.{Mark}
use Rattle.trails.specs.Stretches.{Had, InTurn, Then}

-- the first stretch of some
first_had : (P Rest : List Mark → Type 0) (marks : List Mark) → Then P Rest marks
    → Had P [] marks
first_had P Rest marks turn = record {
  before = turn.before;
  stretch = turn.stretch;
  after = turn.after;
  is = turn.is;
  meets = turn.meets;
}

module _ {E : Type 0} (P : List Mark → Type 0) where
  -- the demand does not depend on the entry
  abbrev Same : E → List Mark → Type 0
  Same e marks = P marks

  picked : (b : Bool) (e : E) (es : List E) (marks : List Mark) → b ≡ true
      → InTurn Same (cond b (e ∷ es) es) marks → Had P [] marks
  picked true e es marks is turns = first_had P (InTurn Same es) marks turns
  picked false e es marks is turns = absurd (false≢true is)

  passed : (b : Bool) (e : E) (es : List E) (marks : List Mark)
      → (InTurn Same es marks → Had P [] marks)
      → InTurn Same (cond b (e ∷ es) es) marks → Had P [] marks
  passed true e es marks later turns = first_had P (InTurn Same es) marks turns
  passed false e es marks later turns = later turns

  pub turn_had : (test : E → Bool) (es : List E) (k : ℕ) (e : E) (marks : List Mark)
      → get_elem? es k ≡ some e → test e ≡ true → InTurn Same (filter test es) marks
      → Had P [] marks
  turn_had test [] k e marks at is turns = absurd (some-ne-none e (sym at))
  turn_had test (x ∷ es) zero e marks at is turns =
      picked (test x) x (filter test es) marks (ap test (some-injective x e at) ∙ is) turns
  turn_had test (x ∷ es) (suc k) e marks at is turns =
      passed (test x) x (filter test es) marks
      (λ behind. turn_had test es k e marks at is behind) turns
