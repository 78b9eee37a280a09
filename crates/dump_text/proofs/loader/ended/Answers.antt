use Rattle.std.proofs.Common.{◌≡◌, ◌+◌, length, false, Err, sym, subst, arith}
use Rattle.dump_text.specs.Answers.{Lists}
use Rattle.dump_text.specs.Contents.{ended}
use Rattle.line_texts.specs.Lines.{is_end, lines_left}
use Rattle.dump_text.specs.Listing.{listed}
use Rattle.dump_text.specs.declared.fault.LoadError.{LoadError}
use Rattle.dump_text.proofs.Fronts.{follows_end}
use Rattle.dump_text.proofs.Listings.{count_listed}
use Rattle.dump_text.proofs.loader.ended.Goals as goal

pub returns-else-is_end-clause-nodes : goal.returns-else-is_end-clause-nodes
returns-else-is_end-clause-nodes c =
    let number = c.count.ensures.exact c.requires.lawful in
    let same : c.count.result + 3 ≡ length (listed c.args.tree) + 3 =
    omega (arith, number, count_listed c.args.tree) in
    let more : is_end (lines_left c.args.rest) ≡ false = cc in
    subst (λ (e : LoadError). Lists (Err e) (ended (listed c.args.tree) (lines_left c.args.rest)))
    (sym c.fault_at.ensures)
    (follows_end (c.count.result + 3) (listed c.args.tree) (lines_left c.args.rest) more same)
