-- What a mutator's handle owns, under the names of the lemmas on boxes.
use Rattle.std.proofs.Common.{refl}
use mir.Raw.{raw as bare}
use denote.Exit.{no}
use denote.Param.{layout}
use denote.Param.Laws.{arg_laws, Laws}
use denote.RattleType.{RattleType}
use Rattle.std.proofs.BoxSteps.Form.{Bx}
use Rattle.heap_c.specs.contracts.mine.Mine.{the_row}
use Rattle.heap_c.proofs.mine.Mine.TheLaws.{the_row_laws}
use Rattle.heap_c.proofs.Owner.{boxed, passed}

abbrev pub row : RattleType
row = passed the_row

abbrev pub laws : Laws row
laws = arg_laws (bare (layout the_row)) no the_row the_row_laws refl

abbrev pub E : Bx
E = boxed row laws
