-- How the calls on an object went so far, and what one more makes of it.
--
-- A call fails where it gives an error, be it the object's own fault or out of memory.
-- Source: this project's own.
use Rattle.std.specs.Prelude.{◌≡◌, Bool, true, false}
use Rattle.outside.specs.declared.course.Course.{Course}
use Rattle.outside.specs.declared.course.Course.TheVariants.{Unbroken, Broken, Overrun}

-- the course after a call that was done or failed
abbrev pub after_call : Course → Bool → Course
after_call Unbroken true = Unbroken
after_call Unbroken false = Broken
after_call Broken done = Overrun
after_call Overrun done = Overrun

-- no call failed
abbrev pub IsUnbroken : Course → Type 0
IsUnbroken course = course ≡ Unbroken

-- no call was made after one that failed
abbrev pub IsOrderly : Course → Type 0
IsOrderly Unbroken = Unit {0}
IsOrderly Broken = Unit {0}
IsOrderly Overrun = ⊥
