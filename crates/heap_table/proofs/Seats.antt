-- A seat's view is known by its two parts.
use Rattle.std.proofs.Common.{◌≡◌, ◌∙◌, ap}
use Rattle.atomic_table.specs.Seated.{TableId}
use Rattle.heap_rule.specs.declared.view.View.{View}
use Rattle.heap_table.specs.Seats.{SeatView}

abbrev seat : {P : Type 0} → TableId → View P → SeatView P
seat t v = record { table = t; me = v }

pub same_seat : {P : Type 0} (x y : SeatView P) → x.table ≡ y.table → x.me ≡ y.me → x ≡ y
same_seat {P = P} x y t m =
    ap (λ (i : TableId). seat i x.me) t ∙ ap (λ (v : View P). seat y.table v) m
