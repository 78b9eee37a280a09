use Rattle.std.proofs.Common.{◌<◌, Some, arith, length}
use Rattle.command_line.specs.Requests.{Dump, names_by}
use Rattle.script_files.specs.declared.fault.Fault.TheVariants.{TooLarge}
use Rattle.doc_run.proofs.Deciding.{dump_decided, dump_refuses, refused_by}
use Rattle.doc_run.proofs.Few.{many_scripts}
use Rattle.doc_run.proofs.Fetching.{then_small}
use Rattle.doc_run.proofs.beside.dump_beside.Goals as goal

pub returns-in-Ok : goal.returns-in-Ok
returns-in-Ok g c =
    let holds = g.H.Shelf.holds c.args.shelf.now in
    let names = names_by c.args.names.now in
    let d = c.in-Ok.dumped in
    record {
      decided = dump_decided holds names d c.if_small.result c.in-Ok.ensures.dumped
          c.if_small.ensures;
      reads = then_small holds (Some (Dump names)) _ _ _ _ _ _ _ _ _ d c.if_small.result
          c.if_small.ensures c.in-Ok.ensures.reads;
    }

pub returns-then-len-gt-MOST_BESIDE-clause-decided :
    goal.returns-then-len-gt-MOST_BESIDE-clause-decided
returns-then-len-gt-MOST_BESIDE-clause-decided g c =
    let holds = g.H.Shelf.holds c.args.shelf.now in
    let items = c.args.names.now.items in
    let names = names_by c.args.names.now in
    let many : 63 < length items = omega (arith, c.if-len-gt-MOST_BESIDE.true, c.len.ensures) in
    refused_by holds (Some (Dump names)) c.by.result (TooLarge 0) c.by.ensures.fault
    c.by.ensures.dumped (dump_refuses holds names (TooLarge 0) (many_scripts holds items many))
