use Rattle.std.proofs.Common.{ℕ, ap, arith, map}
use Rattle.std.specs.Prelude.{Vec}
use Rattle.std.specs.declared.alloc.Global.{Global}
use Rattle.run_limits.specs.declared.TheConstants.{MOST_COMMANDS}
use Rattle.script_files.proofs.Files.{one_refused, told_names}
use Rattle.script_files.proofs.Gathered.{all_gathered, count_of, total_of}
use Rattle.script_files.specs.Mail.{parse_mail, values_of}
use Rattle.script_files.specs.Sorts.{OfMail}
use Rattle.script_files.proofs.mail.mail_in_turn.Goals as goal

pub returns-in-Ok-clause-scripts : goal.returns-in-Ok-clause-scripts
returns-in-Ok-clause-scripts g c =
    let many = told_names (g.H.Shelf.holds c.args.shelf.now) (λ name. name.now) c.args.names.now in
    let none = c.new-scripts.ensures.items in
    let all = all_gathered 63 parse_mail (λ bytes. tt) _ (values_of c.gather.new.gathered.items)
    (values_of c.new-scripts.result.items) _ _ (omega (arith, many, c.requires.few))
    (ap values_of none) (ap (map (λ script. tt)) none) c.in-Ok.ensures.lists in
    (all.0, all.1, all.2)

pub returns-in-Ok-clause-count : goal.returns-in-Ok-clause-count
returns-in-Ok-clause-count g c =
    count_of (λ script. script.items) _ _ _ c.new-scripts.ensures.items c.in-Ok.ensures.count

pub returns-in-Ok-clause-total : goal.returns-in-Ok-clause-total
returns-in-Ok-clause-total g c =
    total_of (λ (script : Vec ℕ Global). script.items) c.gather.new.gathered.items MOST_COMMANDS
    c.in-Ok.ensures.total

pub returns-in-Err-clause-scripts : goal.returns-in-Err-clause-scripts
returns-in-Err-clause-scripts g c =
    let many = told_names (g.H.Shelf.holds c.args.shelf.now) (λ name. name.now) c.args.names.now in
    one_refused 63 OfMail parse_mail _ c.in-Err.fault (omega (arith, many, c.requires.few))
    c.in-Err.ensures.lists
