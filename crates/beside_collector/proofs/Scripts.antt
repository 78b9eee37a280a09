-- The script of a place.
use Rattle.std.proofs.Common.{◌≡◌, ◌<◌, ◌≤◌, ℕ, zero, suc, List, [], ◌∷◌, All}
use Rattle.std.proofs.Common.{length, get_or, refl, ap, arith}
use Rattle.std.specs.Prelude.{Vec}
use Rattle.std.specs.declared.alloc.Global.{Global}
use Rattle.std.proofs.lemmas.List.Elements.{All-head, All-tail}
use Rattle.beside_collector.specs.Scripts.{script_of}

module _ {A : Type 0} where
  -- by a look into the slice of scripts
  pub script_there : (scripts : List (Vec A Global)) (place : ℕ) (x : Vec A Global)
      → place < length scripts → x ≡ get_or scripts place x
      → x.items ≡ script_of scripts place
  script_there [] place x lt is = absurd (omega (arith, lt))
  script_there (s ∷ ss) zero x lt is = ap (λ (v : Vec A Global). v.items) is
  script_there (s ∷ ss) (suc n) x lt is = script_there ss n x (omega (arith, lt)) is

  pub script_none : (scripts : List (Vec A Global)) (place : ℕ) → length scripts ≤ place
      → [] ≡ script_of scripts place
  script_none [] place le = refl
  script_none (s ∷ ss) zero le = absurd (omega (arith, le))
  script_none (s ∷ ss) (suc n) le = script_none ss n (omega (arith, le))

  -- what holds of an empty script and of each script in the list holds of the script of a place
  pub script_is : (F : List A → Type 0) → F [] → (scripts : List (Vec A Global)) (place : ℕ)
      → All (λ (script : Vec A Global). F script.items) scripts → F (script_of scripts place)
  script_is F none [] place all = none
  script_is F none (script ∷ scripts) zero all =
      All-head (λ (s : Vec A Global). F s.items) script scripts all
  script_is F none (script ∷ scripts) (suc place) all =
      script_is F none scripts place
      (All-tail (λ (s : Vec A Global). F s.items) script scripts all)
