-- A box of `Global`, under the names of the lemmas on boxes, and types as arguments of a call.
use Rattle.std.proofs.Common.{[], ◌∷◌, refl}
use mir.Raw.{raw as bare}
use mir.Syntax.{Dict, dnil, impl, tcons, tnil}
use denote.Exit.{no}
use denote.Param.{arg, layout}
use denote.Param.Laws.{arg_laws, Laws}
use denote.RattleType.{RattleType}
use Rattle.std.proofs.BoxSteps.Form.{Bx}
use Rattle.std.specs.contracts.alloc.Global as Heap
use Rattle.std.specs.contracts.impls.GlobalAllocator.TheImpl.{ghosts, dict}
use Rattle.std.proofs.alloc.Global.TheLaws as heap

-- a type as an argument of a call
abbrev pub passed : RattleType → RattleType
passed row = arg (bare (layout row)) no row

-- what needs no drop
abbrev pub no_drop : RattleType → Dict
no_drop row = impl ("heap_c::Destruct++none::drop" ∷ []) (tcons (layout row) tnil) dnil

-- a box of a type parameter's
abbrev pub boxed : (row : RattleType) → Laws row → Bx
boxed row laws = record {
  row = row;
  laws = laws;
  al = record {
    row = passed Heap.the_row;
    laws = arg_laws (bare (layout Heap.the_row)) no Heap.the_row heap.the_row_laws refl;
    g = ghosts;
    d = dict;
    drops = no_drop (passed Heap.the_row);
  };
}
