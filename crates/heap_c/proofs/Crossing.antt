-- What a handle owns may go to another thread where what is at its pointer may.
use Rattle.std.proofs.Common.{Option, None, Some}
use mir.Raw.{raw}
use base.Fraction.{full_share}
use base.Shift.{Keyless}
use denote.Exit.{Exit, hidden, leaves, unchanged, under}
use denote.Memory.{lone}
use denote.Param.Send.{IsSend, Quiet, part_keyless}
use denote.RattleType.{RattleType}
use denote.RawPtr.{Ptr, block_ptr, lies_at, null_ptr}
use Rattle.std.proofs.Crossing as heap
use Rattle.std.specs.Global.{Global}
use Rattle.heap_c.specs.Owning.{owns_boxed}

pub quiet : {D X : Type 0} (to : D → X) (e : Exit X) → Quiet e → Quiet (hidden (under to e))
quiet to unchanged q = λ x w. tt
quiet to (leaves L l S s r₀) q = λ d. q (to d)

lies : (R : RattleType) → IsSend R → (p : Ptr) (x : R.Denot) → Keyless (lies_at R full_share p x)
lies R s (block_ptr b o) x = part_keyless R s full_share x b o
lies R s null_ptr x = tt

pub owned : (R : RattleType) → IsSend R → (alloc : Global) (p : Ptr) (o : Option R.Denot)
    → Keyless (owns_boxed R alloc p o)
owned R s alloc p None = λ at. tt
owned R s alloc p (Some x) = (lies R s p x, heap.frees.frees alloc (raw (lone R.mir)) p)
