-- What a fill and a write ask of their values.
use Rattle.std.proofs.Common.{◌≡◌, ◌<◌, ◌==◌, ℕ, zero, suc, true, List, [], ◌∷◌, length}
use Rattle.std.proofs.Common.{sym, subst}
use Rattle.dlg_core.proofs.Truths.{or_later}
use Rattle.heap_rule.specs.declared.known.Known.{Known}
use Rattle.heap_rule.specs.declared.known.Known.TheVariants as knows
use Rattle.heap_rule.specs.Asks.{IsBox, IsSealedValue, is_sealed, known_of, knows_sealed, target}
use Rattle.heap_rule.proofs.Reading.{cell_there}
use Rattle.held_places.proofs.Going.{many_cells}
use Rattle.held_places.proofs.Knowns.{sealed_at}
use Rattle.mutator_events.specs.declared.values.Value.{Value}
use Rattle.mutator_events.specs.declared.values.Value.TheVariants as values
use Rattle.mutator_events.specs.Values.{field_at}
use Rattle.mutator_seat.specs.Bound.{Bound, held_cells}
use Rattle.cell_making.specs.Makes.{AreAll, value_at}

-- what holds of null and of each of the values holds at each index
pub all_at : (Q : Value → Type 0) → Q values.Null → (given : List Value) → AreAll Q given
    → (i : ℕ) → Q (value_at given i)
all_at Q null [] all zero = null
all_at Q null [] all (suc i) = null
all_at Q null (v ∷ vs) all zero = all.0
all_at Q null (v ∷ vs) all (suc i) = all_at Q null vs all.1 i

-- a cell with number 0 is the anchor
pub is_box_of : (cell : ℕ) (k : Known) → cell ≡ 0 → IsBox cell k
is_box_of cell knows.Nothing is = is
is_box_of cell (knows.Raw fields) is = is
is_box_of cell (knows.Fresh fields) is = tt
is_box_of cell (knows.Record t) is = is
is_box_of cell (knows.Boxed terms) is = tt

-- what is known to be sealed may be named
pub sealed_value : {P : Type 0} (m : Bound P) (place : ℕ) → place < length m.seat.me.own.held
    → is_sealed (known_of m.seat.me place) ≡ true
    → IsSealedValue (held_cells m) m.seat.me.known
    (field_at m.seat.me.own.held (values.Held place))
sealed_value m place lt sealed =
    let c = target m.seat.me place in
    or_later (c == 0) (knows_sealed (held_cells m) m.seat.me.known c)
    (sealed_at (held_cells m) m.seat.me.known place c
    (subst (λ (n : ℕ). place < n) (sym (many_cells m)) lt)
    (cell_there m.seat.me.own.held place) sealed)
