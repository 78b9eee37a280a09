-- A text that grew at its end, part by part, is its parts one after another.
use Rattle.std.proofs.Common.{◌≡◌, ℕ, List, ◌++◌, subst}
use Rattle.doc_model.specs.ClientLog.{ClientLog}
use Rattle.doc_model.specs.declared.totals.Totals.{Totals}
use Rattle.cmd_text.specs.declared.form.Form.{Form}
use Rattle.result_text.specs.Output.{AddsHistory, IsOutput, logs_text_of, stats_of}
use Rattle.result_text.specs.declared.output.Shown.{Shown}

-- the replies, then the history, then the totals
pub whole : (shown : Shown) (logs : List ClientLog) (forms : List Form) (totals : Totals)
    (replies front text : List ℕ)
    → replies ≡ logs_text_of forms logs → AddsHistory shown.history logs replies front
    → text ≡ front ++ stats_of shown.stats totals → IsOutput shown logs forms totals text
whole shown logs forms totals replies front text is adds whole_is =
    (front, subst (λ r. AddsHistory shown.history logs r front) is adds, whole_is)

pub ruleset parts = (whole)
