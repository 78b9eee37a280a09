-- What a call, done or failed, makes of the course of an object.
use Rattle.std.proofs.Common.{◌≡◌, true, false, ◌∙◌, ap, subst, sym}
use Rattle.outside.specs.Calls.{after_call, IsUnbroken, IsOrderly}
use Rattle.outside.specs.declared.course.Course.{Course}

-- a course on which no call failed
pub unbroken_orderly : (course : Course) → IsUnbroken course → IsOrderly course
unbroken_orderly course is = subst (λ c. IsOrderly c) (sym is) tt

-- one more call that was done
pub unbroken_done : (before now : Course) → now ≡ after_call before true → IsUnbroken before
    → IsUnbroken now
unbroken_done before now call is = call ∙ ap (λ c. after_call c true) is

-- one more call that failed
pub orderly_failed : (before now : Course) → now ≡ after_call before false → IsUnbroken before
    → IsOrderly now
orderly_failed before now call is =
    subst (λ c. IsOrderly c) (sym (call ∙ ap (λ c. after_call c false) is)) tt

-- what calls, done and failed, leave of the course
pub ruleset courses = (unbroken_orderly, unbroken_done, orderly_failed)
