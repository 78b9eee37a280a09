-- The two records share no place.
use Rattle.std.proofs.Common.{ℕ, zero, suc, List}
use Rattle.heap_rule.specs.declared.known.Known.{Known}
use Rattle.minor_heap.specs.Nursery.{field_at}
use Rattle.promotion.specs.Sharing.{SharesRecord}
use Rattle.promotion_tests.specs.Two.{two}

pub none_shared : (known : List Known) (k i : ℕ) → SharesRecord known (field_at two k i)
none_shared known zero zero = tt
none_shared known zero (suc zero) = tt
none_shared known zero (suc (suc zero)) = tt
none_shared known zero (suc (suc (suc zero))) = tt
none_shared known zero (suc (suc (suc (suc zero)))) = tt
none_shared known zero (suc (suc (suc (suc (suc i))))) = tt
none_shared known (suc zero) zero = tt
none_shared known (suc zero) (suc zero) = tt
none_shared known (suc zero) (suc (suc zero)) = tt
none_shared known (suc zero) (suc (suc (suc zero))) = tt
none_shared known (suc zero) (suc (suc (suc (suc zero)))) = tt
none_shared known (suc zero) (suc (suc (suc (suc (suc i))))) = tt
none_shared known (suc (suc k)) i = tt
