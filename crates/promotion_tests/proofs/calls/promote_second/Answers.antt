use Rattle.std.proofs.Common.{ℕ, List, sym, subst}
use Rattle.minor_heap.specs.declared.fields.MinorField.{MinorField}
use Rattle.minor_heap.specs.Nursery.{field_at}
use Rattle.promotion.specs.Sharing.{SharesRecord}
use Rattle.promotion_tests.proofs.Sharing.{none_shared}
use Rattle.promotion_tests.proofs.calls.promote_second.Goals as goal

pub promote-requires-clause-shares : goal.promote-requires-clause-shares
promote-requires-clause-shares g c r i reached lt =
    subst (λ (records : List (List MinorField)).
    SharesRecord c.args.m.now.seat.me.known (field_at records r.number i)) (sym c.requires.records)
    (none_shared c.args.m.now.seat.me.known r.number i)
