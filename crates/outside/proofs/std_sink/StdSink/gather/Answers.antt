use Rattle.std.proofs.Common.{◌∙◌, rules}
use Rattle.outside.proofs.std_sink.StdSink.gather.Goals as goal
use Rattle.outside.proofs.std_sink.StdSink.gather.Goals.{
  then-len-ge-GATHERED+in_ok-finish,
  else-len-ge-GATHERED,
}

-- what was there is written out first where it is enough
pub returns-clause-ok : goal.returns-clause-ok
returns-clause-ok g c =
    elim c.if-len-ge-GATHERED.branch [
      | then-len-ge-GATHERED+in_ok-finish w ↦
          let out = w.self-is ∙ rw w.in_ok-finish.was at w.finish.ensures.ok in
          search rules
      | else-len-ge-GATHERED w ↦ search rules
    ]
