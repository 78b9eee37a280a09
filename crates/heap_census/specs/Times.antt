-- Fields looked at in order, and how often each cell was named by them.
-- Source: this project's.
use Rattle.std.specs.Prelude.{ℕ, ◌≡◌, ◌<◌, ◌↔◌, ◌⊎◌, Bool, true, false, List, length, nat_lt}
use Rattle.std.specs.Prelude.{slice_index_or, slice_set, if◌then◌else◌}
use Rattle.heap_census.specs.declared.naming.Times.{Times}
use Rattle.heap_census.specs.declared.naming.Times.TheVariants as times
use Rattle.heap_census.specs.Heap.{Heap}
use Rattle.heap_census.specs.Names.{IsShared, Names}

abbrev pub never : Times
never = times.Never

abbrev pub is_often : Times → Bool
is_often times.Never = false
is_often times.Once = false
is_often times.Often = true

abbrev pub more_often : Times → Times
more_often times.Never = times.Once
more_often times.Once = times.Often
more_often times.Often = times.Often

-- one more field names the cell
abbrev pub with_name : List Times → ℕ → List Times
with_name named d =
    if nat_lt d (length named)
    then slice_set named d (more_often (slice_index_or named d never))
    else named

-- the cells before one were looked at, and the first fields of it
abbrev pub Seen : ℕ → ℕ → ℕ → ℕ → Type 0
Seen cell field c i = (c < cell) ⊎ ((c ≡ cell) × (i < field))

-- one field was seen that names the cell
pub record IsNamedOnce (h : Heap) (cell field d : ℕ) : Type 0 where
  pub c : ℕ
  pub i : ℕ
  pub seen : Seen cell field c i
  pub names : Names h c i d
  pub alone : (k j : ℕ) → Seen cell field k j → Names h k j d → (k ≡ c) × (j ≡ i)

-- so many fields were seen that name the cell
abbrev pub Tells : Times → Heap → ℕ → ℕ → ℕ → Type 0
Tells times.Never h cell field d = (c i : ℕ) → Seen cell field c i → Names h c i d → ⊥
Tells times.Once h cell field d = IsNamedOnce h cell field d
Tells times.Often h cell field d = IsShared h d

-- it is so of each cell that there is
abbrev pub Told : Heap → ℕ → ℕ → List Times → Type 0
Told h cell field named =
    (d : ℕ) → d < length named → Tells (slice_index_or named d never) h cell field d

-- the cells that are shared are those that are named often
abbrev pub TellsShared : Heap → List Times → Type 0
TellsShared h named =
    (d : ℕ) → d < length named → (is_often (slice_index_or named d never) ≡ true) ↔ IsShared h d
