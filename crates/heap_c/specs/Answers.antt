-- What the calls of a handle answer, by what it owns.
-- Source: this project's.
use Rattle.std.specs.Prelude.{Option, None, Some, if◌then◌else◌}
use Rattle.heap_c.specs.declared.codes.Code.{Code}
use Rattle.heap_c.specs.declared.codes.Code.TheVariants as code
use Rattle.heap_c.specs.Holding.{Mutator}

-- of a call that comes in
abbrev pub when_out : Option Mutator → Code
when_out None = code.NoHandle
when_out (Some m) = if m.owned.held.bound.seat.me.presence.inside then code.IsIn else code.Ok

-- of one that has to be in
abbrev pub when_in : Option Mutator → Code
when_in None = code.NoHandle
when_in (Some m) = if m.owned.held.bound.seat.me.presence.inside then code.Ok else code.NotIn
