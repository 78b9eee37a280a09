-- Parts of a trail that follow one another: a stretch for each entry of a list.
-- Source: this project's.
use Rattle.std.specs.Prelude.{◌≡◌, List, [], ◌∷◌, ◌++◌}
use Rattle.trails.specs.Marks.{Mark}

-- a stretch of what was added meets P
pub record Had (P : List Mark → Type 0) (old new : List Mark) : Type 0 where
  pub before : List Mark
  pub stretch : List Mark
  pub after : List Mark
  pub is : new ≡ old ++ (before ++ (stretch ++ after))
  pub meets : P stretch

-- a stretch of these marks meets P, and what comes after it meets Rest
pub record Then (P Rest : List Mark → Type 0) (marks : List Mark) : Type 0 where
  pub before : List Mark
  pub stretch : List Mark
  pub after : List Mark
  pub is : marks ≡ before ++ (stretch ++ after)
  pub meets : P stretch
  pub rest : Rest after

-- the entries have stretches that follow one another without overlap, each meeting its demand
abbrev pub InTurn : {E : Type 0} → (E → List Mark → Type 0) → List E → List Mark → Type 0
InTurn P [] marks = Unit {0}
InTurn P (e ∷ es) marks = Then (P e) (InTurn P es) marks
