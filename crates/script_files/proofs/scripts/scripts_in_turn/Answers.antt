use Rattle.std.proofs.Common.{ap, arith}
use Rattle.cmd_text.specs.Form.{form_of}
use Rattle.std.specs.Prelude.{Vec}
use Rattle.std.specs.declared.alloc.Global.{Global}
use Rattle.doc_model.specs.declared.command.Command.{Command}
use Rattle.run_limits.specs.declared.TheConstants.{MOST_COMMANDS}
use Rattle.script_files.proofs.Files.{one_refused, told_names}
use Rattle.script_files.proofs.Gathered.{all_gathered, count_of, total_of}
use Rattle.doc_model.specs.Scripts.{lists_of}
use Rattle.script_files.specs.Scripts.{parse_script}
use Rattle.script_files.specs.Sorts.{OfScripts}
use Rattle.script_files.proofs.scripts.scripts_in_turn.Goals as goal

pub returns-in-Ok-clause-scripts : goal.returns-in-Ok-clause-scripts
returns-in-Ok-clause-scripts g c =
    let many = told_names (g.H.Shelf.holds c.args.shelf.now) (λ name. name.now) c.args.names.now in
    let scripts = c.gather.new.gathered in
    all_gathered 64 parse_script form_of _ (lists_of scripts.commands.items)
    (lists_of c.new-commands.result.items) scripts.forms.items c.new-forms.result.items
    (omega (arith, many, c.requires.few)) (ap lists_of c.new-commands.ensures.items)
    c.new-forms.ensures.items c.in-Ok.ensures.lists

pub returns-in-Ok-clause-count : goal.returns-in-Ok-clause-count
returns-in-Ok-clause-count g c =
    count_of (λ script. script.items) _ _ _ c.new-commands.ensures.items c.in-Ok.ensures.count

pub returns-in-Ok-clause-total : goal.returns-in-Ok-clause-total
returns-in-Ok-clause-total g c =
    total_of (λ (script : Vec Command Global). script.items) c.gather.new.gathered.commands.items
    MOST_COMMANDS c.in-Ok.ensures.total

pub returns-in-Err-clause-scripts : goal.returns-in-Err-clause-scripts
returns-in-Err-clause-scripts g c =
    let many = told_names (g.H.Shelf.holds c.args.shelf.now) (λ name. name.now) c.args.names.now in
    one_refused 64 OfScripts parse_script _ c.in-Err.fault (omega (arith, many, c.requires.few))
    c.in-Err.ensures.lists
