-- Takes one after the other.
use Rattle.std.proofs.Common.{◌≡◌, ◌<◌, ℕ, List, [], ◌∷◌, ◌++◌, length, refl}
use Rattle.std.proofs.Common.{Option, Some, None, IfNone, IfSome}
use Rattle.std.specs.Prelude.{MatchOption}
use Rattle.free_cells.specs.declared.counts.Counts.{Counts}
use Rattle.free_cells.specs.Counts.{IsFront, none_taken, taken}
use Rattle.mutator_seat.specs.Takes.{GiveAll, Gives, after_take, after_takes}

pub gave : (cells : ℕ) (a b : Counts) (r : Option ℕ) → IfSome r (λ cell. cell < cells)
    → IfSome r (λ cell. IsFront cell a.content)
    → IfNone r (IfSome a.content (λ known. length known ≡ 0))
    → MatchOption r (b ≡ none_taken a) (λ _. b ≡ taken a)
    → Gives cells a r × (b ≡ after_take a r)
gave cells a b (Some cell) range front empty told = ((range, front), told)
gave cells a b None range front empty told = (empty, told)

pub give_more : (cells : ℕ) (counts : Counts) (hints : List (Option ℕ)) (hint : Option ℕ)
    → GiveAll cells counts hints → Gives cells (after_takes counts hints) hint
    → GiveAll cells counts (hints ++ hint ∷ [])
give_more cells counts [] hint all one = (one, tt)
give_more cells counts (h ∷ hints) hint all one =
    (all.0, give_more cells (after_take counts h) hints hint all.1 one)

pub after_more : (counts : Counts) (hints : List (Option ℕ)) (hint : Option ℕ)
    → after_takes counts (hints ++ hint ∷ []) ≡ after_take (after_takes counts hints) hint
after_more counts [] hint = refl
after_more counts (h ∷ hints) hint = after_more (after_take counts h) hints hint
