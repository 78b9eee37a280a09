use Rattle.std.proofs.Common.{arith}
use Rattle.script_files.proofs.Files.{too_many_files, told_names}
use Rattle.script_files.specs.Scripts.{parse_script}
use Rattle.script_files.proofs.scripts.scripts_in_files.Goals as goal

pub returns-then-names-gt-MOST_FILES-clause-scripts :
    goal.returns-then-names-gt-MOST_FILES-clause-scripts
returns-then-names-gt-MOST_FILES-clause-scripts g c =
    let many = told_names (g.H.Shelf.holds c.args.shelf.now) (λ name. name.now) c.args.names.now in
    too_many_files 64 parse_script _ (omega (arith, many, c.if-names-gt-MOST_FILES.true))
