use Rattle.std.proofs.Common.{◌≡◌, ℕ, sym, ◌∙◌, ap}
use Rattle.core_machine.specs.State.{field_of, target_of}
use Rattle.core_machine.specs.declared.events.Found.TheVariants as finds
use Rattle.heap_rule.proofs.Parts.{part_shown}
use Rattle.heap_rule.proofs.Seats.{target_now}
use Rattle.mutator_events.proofs.theorems.a_record_tells_its_parts.Goals as goal

pub returns : goal.returns
returns g c = λ v w place f t next found may is at.
    let s = at.core in
    let found_here : finds.Field (field_of s (target_of s v.number place) f) ≡ finds.Field found =
    at.found_is in
    let same : field_of s (target_of s v.number place) f ≡ found = cc in
    part_shown v s at.lore at.mine place f t may.there may.payload is found w _
    (ap (λ (x : ℕ). field_of s x f) (sym (target_now v s at.lore at.mine place)) ∙ same) at.new
