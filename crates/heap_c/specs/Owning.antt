-- What a handle owns: nothing where its pointer is null, else what a box at it owns.
-- Source: this project's.
use Rattle.std.specs.Prelude.{◌≡◌, Option, None, Some}
use Rattle.std.specs.Box.Ownership.{box_owns}
use Rattle.std.specs.Coded.{coded_option}
use Rattle.std.specs.Global.{Global}
use Rattle.std.specs.contracts.impls.GlobalAllocator.TheImpl.{ghosts}
use base.Fml.{Fml, fex, ftrue}
use base.Stored.{Coded}
use denote.RattleType.{RattleType}
use denote.RawPtr.{Ptr, null_ptr}
use Rattle.heap_c.specs.contracts.collecting.Collecting as Collecting
use Rattle.heap_c.specs.contracts.mine.Mine as Mine

abbrev pub owns_boxed : (row : RattleType) → Global → Ptr → Option row.Denot → Fml
owns_boxed row alloc p None = fex (p ≡ null_ptr) (λ _. ftrue)
owns_boxed row alloc p (Some x) = box_owns (ghosts.dealloc_token alloc) row p x

-- of a mutator's handle
abbrev pub owns_mine : Global → Ptr → Option Mine.the_row.Denot → Fml
owns_mine = owns_boxed Mine.the_row

abbrev pub mine_coded : Coded (Option Mine.the_row.Denot)
mine_coded = coded_option Mine.the_row.coded

-- of the collector's
abbrev pub owns_collecting : Global → Ptr → Option Collecting.the_row.Denot → Fml
owns_collecting = owns_boxed Collecting.the_row

abbrev pub collecting_coded : Coded (Option Collecting.the_row.Denot)
collecting_coded = coded_option Collecting.the_row.coded
