use Rattle.std.proofs.Common.{Bor, List, ℕ, Ok, Err, Some, ap, map, subst}
use Rattle.std.proofs.lemmas.List.{length-map}
use Rattle.command_line.specs.Requests.{Run, run_asked_by}
use Rattle.script_files.specs.Files.{files_read}
use Rattle.script_files.specs.Formed.{AreRead}
use Rattle.script_files.specs.Reading.{lists_of}
use Rattle.script_files.specs.Scripts.{AreScripts, StopsBehind}
use Rattle.script_files.specs.Sorts.{OfScripts, Refused, sort_of}
use Rattle.doc_run.specs.Clients.{options_of}
use Rattle.doc_run.proofs.Deciding.{decided}
use Rattle.doc_run.proofs.Fetching.{ended_run, read_lent}
use Rattle.doc_run.proofs.clients.run_files.Goals as goal

pub returns-in-Ok : goal.returns-in-Ok
returns-in-Ok g c =
    let holds = g.H.Shelf.holds c.args.shelf.now in
    let run = run_asked_by c.args.run.now in
    let items = c.args.run.now.files.items in
    let lent = c.deref.result.now in
    let before = g.H.Shelf.opens c.args.shelf.now in
    let after = g.H.Shelf.opens c.scripts_in_files.new.shelf in
    let many = length-map items (λ (name : Bor (List ℕ)). name.now) in
    let scripts = c.in-Ok.scripts in
    record {
      finished = decided (map holds run.files) (options_of run) c.options.result
          (lists_of scripts.commands.items) scripts.forms.items c.run_formed.result
          (subst (λ (names : List (Bor (List ℕ))). AreRead
          (map holds (map (λ name. name.now) names)) (lists_of scripts.commands.items)
          scripts.forms.items) c.deref.ensures.value c.in-Ok.ensures.scripts)
          c.options.ensures c.run_formed.ensures;
      reads = ended_run holds (Some (Run run)) _ _ _ _ _ _ _ _ _ c.options.result
          (lists_of scripts.commands.items) scripts.forms.items c.run_formed.result
          c.run_formed.ensures
          (read_lent holds (Some (Run run)) _ _ _ _ _ _ _ _ _ (Ok scripts) items lent
          (λ n. files_read n) (λ told. StopsBehind 1 0 told before after) c.deref.ensures.value many
          (ap (λ n. files_read n) many) (λ stops. stops) c.in-Ok.ensures.read
          c.in-Ok.ensures.read_file c.in-Ok.ensures.opens c.in-Ok.ensures.all_opened
          c.in-Ok.ensures.stops c.in-Ok.ensures.calls c.in-Ok.ensures.unbroken
          c.in-Ok.ensures.orderly);
    }

pub returns-in-Err : goal.returns-in-Err
returns-in-Err g c =
    let holds = g.H.Shelf.holds c.args.shelf.now in
    let run = run_asked_by c.args.run.now in
    let items = c.args.run.now.files.items in
    let lent = c.deref.result.now in
    let before = g.H.Shelf.opens c.args.shelf.now in
    let after = g.H.Shelf.opens c.scripts_in_files.new.shelf in
    let many = length-map items (λ (name : Bor (List ℕ)). name.now) in
    let fault = c.in-Err.fault in
    record {
      finished = subst (λ (names : List (Bor (List ℕ))). Refused OfScripts (sort_of fault)
          (AreScripts (map holds (map (λ name. name.now) names)) (Err fault)) (Unit {0}))
          c.deref.ensures.value c.in-Err.ensures.scripts;
      reads = read_lent holds (Some (Run run)) _ _ _ _ _ _ _ _ _ (Err fault) items lent
          (λ n. files_read n) (λ told. StopsBehind 1 0 told before after) c.deref.ensures.value many
          (ap (λ n. files_read n) many) (λ stops. stops) c.in-Err.ensures.read
          c.in-Err.ensures.read_file c.in-Err.ensures.opens c.in-Err.ensures.all_opened
          c.in-Err.ensures.stops c.in-Err.ensures.calls c.in-Err.ensures.unbroken
          c.in-Err.ensures.orderly;
    }
