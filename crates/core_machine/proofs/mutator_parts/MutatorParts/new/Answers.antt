use Rattle.std.proofs.Common.{◌≡◌, ℕ, zero, suc, ◌∷◌, replicate, refl, ap, arith}
use Rattle.core_machine.specs.Parts.{Part, Parts, parts_of}
use Rattle.core_machine.proofs.mutator_parts.MutatorParts.new.Goals as goal

-- equal parts have equal rooms and equal own parts
parts_of-replicate : (n : ℕ) (part : Part)
    → parts_of (replicate n part)
    ≡ record { rooms = replicate n part.room; owns = replicate n part.own }
parts_of-replicate zero part = refl
parts_of-replicate (suc n) part =
    ap (λ (parts : Parts). record { rooms = part.room ∷ parts.rooms; owns = part.own ∷ parts.owns })
    (parts_of-replicate n part)

pub returns : goal.returns
returns c =
    let all : c.loop-i._i ≡ c.args.mutators = omega arith in
    rw (← all) (rw (c.loop-i.invariant) (record { parts = parts_of-replicate c.loop-i._i _ }))
