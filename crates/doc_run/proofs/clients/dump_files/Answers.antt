use Rattle.std.proofs.Common.{Bor, List, ℕ, Ok, Err, Some, ◌∙◌, ap, map, length, subst, sym}
use Rattle.std.proofs.lemmas.List.{length-map}
use Rattle.std.specs.Prelude.{Vec}
use Rattle.std.specs.declared.alloc.Global.{Global}
use Rattle.doc_model.specs.declared.command.Command.{Command}
use Rattle.command_line.specs.Requests.{Dump, names_by}
use Rattle.script_files.specs.Files.{files_read}
use Rattle.script_files.specs.Formed.{AreRead}
use Rattle.script_files.specs.Reading.{lists_of}
use Rattle.script_files.specs.Scripts.{AreScripts, StopsBehind}
use Rattle.script_files.specs.Sorts.{OfScripts, Refused, sort_of}
use Rattle.doc_run.specs.Guested.{FinishesDump, few_read}
use Rattle.doc_run.proofs.Few.{few_are_read, few_are_refused, same_read}
use Rattle.doc_run.proofs.Fetching.{ended_dump, read_lent}
use Rattle.doc_run.proofs.Guesting.{decided}
use Rattle.doc_run.proofs.clients.dump_files.Goals as goal

pub returns-in-Ok : goal.returns-in-Ok
returns-in-Ok g c =
    let holds = g.H.Shelf.holds c.args.shelf.now in
    let items = c.args.names.now.items in
    let names = names_by c.args.names.now in
    let lent = c.deref.result.now in
    let before = g.H.Shelf.opens c.args.shelf.now in
    let after = g.H.Shelf.opens c.scripts_in_files.new.shelf in
    let many = length-map items (λ (name : Bor (List ℕ)). name.now) in
    let scripts = c.in-Ok.scripts in
    let finishes = subst (λ (all : List (Vec Command Global)).
    FinishesDump (lists_of all) c.dump_all.result) c.deref-in-Ok.ensures.value c.dump_all.ensures in
    record {
      dumped = decided (map holds names) (lists_of scripts.commands.items) c.dump_all.result
          (few_are_read holds items (lists_of scripts.commands.items) scripts.forms.items
          c.requires.few
          (subst (λ (ns : List (Bor (List ℕ))). AreRead (map holds (map (λ name. name.now) ns))
          (lists_of scripts.commands.items) scripts.forms.items)
          c.deref.ensures.value c.in-Ok.ensures.scripts)) finishes;
      reads = ended_dump holds (Some (Dump names)) _ _ _ _ _ _ _ _ _
          (lists_of scripts.commands.items) c.dump_all.result finishes
          (read_lent holds (Some (Dump names)) _ _ _ _ _ _ _ _ _ (Ok scripts) items lent
          (λ n. files_read n) (λ told. StopsBehind 1 0 told before after) c.deref.ensures.value many
          (ap (λ n. few_read n) many ∙ sym (same_read (length items) c.requires.few))
          (λ stops. stops) c.in-Ok.ensures.read c.in-Ok.ensures.read_file c.in-Ok.ensures.opens
          c.in-Ok.ensures.all_opened c.in-Ok.ensures.stops c.in-Ok.ensures.calls
          c.in-Ok.ensures.unbroken c.in-Ok.ensures.orderly);
    }

pub returns-in-Err : goal.returns-in-Err
returns-in-Err g c =
    let holds = g.H.Shelf.holds c.args.shelf.now in
    let items = c.args.names.now.items in
    let names = names_by c.args.names.now in
    let lent = c.deref.result.now in
    let before = g.H.Shelf.opens c.args.shelf.now in
    let after = g.H.Shelf.opens c.scripts_in_files.new.shelf in
    let many = length-map items (λ (name : Bor (List ℕ)). name.now) in
    let fault = c.in-Err.fault in
    record {
      dumped = few_are_refused holds items fault c.requires.few
          (subst (λ (ns : List (Bor (List ℕ))). Refused OfScripts (sort_of fault)
          (AreScripts (map holds (map (λ name. name.now) ns)) (Err fault)) (Unit {0}))
          c.deref.ensures.value c.in-Err.ensures.scripts);
      reads = read_lent holds (Some (Dump names)) _ _ _ _ _ _ _ _ _ (Err fault) items lent
          (λ n. files_read n) (λ told. StopsBehind 1 0 told before after) c.deref.ensures.value many
          (ap (λ n. few_read n) many ∙ sym (same_read (length items) c.requires.few))
          (λ stops. stops) c.in-Err.ensures.read c.in-Err.ensures.read_file c.in-Err.ensures.opens
          c.in-Err.ensures.all_opened c.in-Err.ensures.stops c.in-Err.ensures.calls
          c.in-Err.ensures.unbroken c.in-Err.ensures.orderly;
    }
