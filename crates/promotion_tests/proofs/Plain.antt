-- Five fields of which none is a place.
use Rattle.std.proofs.Common.{◌∷◌, [], List, All}
use Rattle.std.proofs.lemmas.List.Elements.{All-cons, All-nil}
use Rattle.heap_rule.specs.declared.known.Known.{Known}
use Rattle.minor_heap.specs.declared.fields.MinorField.{MinorField}
use Rattle.promotion.specs.Sharing.{SharesRecord}

pub all_five : (known : List Known) (a b c d e : MinorField) → SharesRecord known a
    → SharesRecord known b → SharesRecord known c → SharesRecord known d → SharesRecord known e
    → All (SharesRecord known) (a ∷ b ∷ c ∷ d ∷ e ∷ [])
all_five known a b c d e at0 at1 at2 at3 at4 =
    All-cons (SharesRecord known) a (b ∷ c ∷ d ∷ e ∷ []) at0
    (All-cons (SharesRecord known) b (c ∷ d ∷ e ∷ []) at1
    (All-cons (SharesRecord known) c (d ∷ e ∷ []) at2
    (All-cons (SharesRecord known) d (e ∷ []) at3
    (All-cons (SharesRecord known) e [] at4 (All-nil (SharesRecord known))))))
