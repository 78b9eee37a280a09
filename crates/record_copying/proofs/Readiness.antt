-- Values that are ready once a raw cell is held were so before.
use Rattle.std.proofs.Common.{◌≡◌, ◌∷◌, ◌++◌, ℕ, zero, suc, List, [], true, subst}
use Rattle.cell_words.specs.declared.fields.Field.{Field}
use Rattle.heap_rule.specs.Facts.{is_term}
use Rattle.heap_rule.specs.Lore.{five_nulls, known_at}
use Rattle.heap_rule.specs.declared.known.Known.{Known}
use Rattle.heap_rule.specs.declared.known.Known.TheVariants as knows
use Rattle.mutator_events.specs.declared.values.Value.{Value}
use Rattle.mutator_events.specs.declared.values.Value.TheVariants as values
use Rattle.mutator_seat.specs.Bound.{Bound}
use Rattle.mutator_seat.specs.Claims.{Claimed}
use Rattle.promotion.specs.Copying.{IsReady}

term_before : (known : List Known) (fields : List Field) (q : ℕ)
    → is_term (known_at (known ++ knows.Raw fields ∷ []) q) ≡ true
    → is_term (known_at known q) ≡ true
term_before [] fields zero is = absurd cc
term_before [] fields (suc q) is = is
term_before (k ∷ known) fields zero is = is
term_before (k ∷ known) fields (suc q) is = term_before known fields q is

ready_before : (known : List Known) (fields : List Field) (value : Value)
    → IsReady (known ++ knows.Raw fields ∷ []) value → IsReady known value
ready_before known fields values.Null ready = tt
ready_before known fields (values.Num n) ready = ready
ready_before known fields (values.Held q) ready = term_before known fields q ready

pub ready_unclaimed : {P : Type 0} (before m : Bound P) (place : ℕ) → Claimed before place m
    → (value : Value) → IsReady m.seat.me.known value → IsReady before.seat.me.known value
ready_unclaimed before m place got value ready =
    ready_before before.seat.me.known five_nulls value
    (subst (λ (ks : List Known). IsReady ks value) got.known ready)
