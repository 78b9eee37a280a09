use Rattle.std.proofs.Common.{◌∙◌, ℕ, Bool, arith, get_or, sym}
use Rattle.heap_census.specs.Flags.{has_role, no_roles}
use Rattle.heap_census.proofs.Counted.{count_yes, count_no, count_below-le}
use Rattle.heap_census.proofs.counting.count_role.Goals as goal
use Rattle.heap_census.proofs.counting.count_role.Goals.{then-has, else-has}

pub overflow_add-count : goal.overflow_add-count
overflow_add-count c =
    let few = count_below-le (λ n. has_role (get_or c.args.marks.now n no_roles) c.args.role)
    c.loop-roles.roles-index in
    omega (arith, few, c.loop-roles.invariant, c.loop-roles-test.true, c.requires)

pub loop-roles-preserved : goal.loop-roles-preserved
loop-roles-preserved c =
    let test : ℕ → Bool = λ n. has_role (get_or c.args.marks.now n no_roles) c.args.role in
    let i = c.loop-roles.roles-index in
    elim c.if-has.branch [
      | then-has w ↦ w.count-is
          ∙ count_yes test i c.loop-roles.count c.loop-roles.invariant
          (sym c.has.ensures ∙ w.if-has.true)
      | else-has w ↦ w.count-is
          ∙ count_no test i c.loop-roles.count c.loop-roles.invariant
          (sym c.has.ensures ∙ w.if-has.false)
    ]
