use Rattle.std.proofs.lemmas.Result.{IfOk-weaker}
use Rattle.doc_run.proofs.Summaries.{few_looked, summary_told}
use Rattle.doc_run.proofs.summary.summary_of.Goals as goal

pub is_legal-requires-clause-entries : goal.is_legal-requires-clause-entries
is_legal-requires-clause-entries c =
    few_looked c.args.made c.args.finished.now c.deref.result.now c.in_ok-merged.merged.items
    c.deref-2.result.now c.requires.comes c.deref.ensures.value c.in_ok-merged.ensures
    c.deref-2.ensures.value

pub returns : goal.returns
returns c = record {
  text = IfOk-weaker c.summary_text.result _ _
      (λ text said. summary_told c.args.made c.args.finished.now c.deref.result.now
      c.in_ok-merged.merged.items c.deref-2.result.now c.deref-3.result.now c.in_ok-legal.legal
      c.numbers.result text.items c.requires.comes c.deref.ensures.value c.in_ok-merged.ensures
      c.deref-2.ensures.value c.in_ok-legal.ensures c.numbers.ensures c.deref-3.ensures.value said)
      c.summary_text.ensures.text;
}
