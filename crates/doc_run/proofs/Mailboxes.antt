-- A run of a mailbox: how many lines its scripts have, and what it comes to.
use Rattle.std.proofs.Common.{◌≡◌, ◌∙◌, ◌+◌, ◌≤◌, ℕ, List, [], ◌∷◌, Option, Result, Ok, Err, OnOk}
use Rattle.std.proofs.Common.{ap, arith, length, refl, subst, sym}
use Rattle.std.specs.Prelude.{Vec, sum_by}
use Rattle.std.specs.declared.alloc.Global.{Global}
use Rattle.std.proofs.lemmas.List.Sums.{sum_by-cons}
use Rattle.mail_run.specs.Comes.{lines_in}
use Rattle.mail_run.specs.declared.finished.MailRun.{MailRun}
use Rattle.command_line.specs.Requests.{MailAsked}
use Rattle.script_files.specs.Mail.{IsMail, values_of}
use Rattle.script_files.specs.declared.fault.Fault.{Fault}
use Rattle.doc_run.specs.Mailed.{DecidesMailRun, FinishesMail}

-- The lines of all scripts.

lines_are : (scripts : List (Vec ℕ Global))
    → lines_in (values_of scripts) ≡ sum_by (λ script. length script.items) scripts
lines_are [] = refl
lines_are (script ∷ scripts) =
    ap (λ n. length script.items + n) (lines_are scripts)
    ∙ sym (sum_by-cons (λ (s : Vec ℕ Global). length s.items) script scripts)

pub few_lines : (scripts : List (Vec ℕ Global)) (most : ℕ)
    → sum_by (λ script. length script.items) scripts ≤ most → lines_in (values_of scripts) ≤ most
few_lines scripts most few = omega (arith, few, lines_are scripts)

-- The run.

pub decided : (mail : MailAsked) (told : List (Option (List ℕ))) (scripts : List (List ℕ))
    (r : Result MailRun Fault) → IsMail told (Ok scripts)
    → FinishesMail mail.cells mail.cycles scripts r → DecidesMailRun mail told r
decided mail told scripts (Ok ran) given comes = (scripts, given, comes)
decided mail told scripts (Err fault) given wants =
    subst (λ (x : Fault). DecidesMailRun mail told (Err x)) (sym wants) tt

-- what stands behind the reading of all scripts stands wherever the run comes to an end
pub on_mail : {X : Type 0} (r : Result MailRun Fault) → X → OnOk r X
on_mail (Ok ran) fact = fact
on_mail (Err fault) fact = tt
