use Rattle.std.proofs.Common.{◌≡◌, true, false, Err, refl, sym, subst, arith}
use Rattle.dump_text.specs.Answers.{Grows}
use Rattle.dump_text.specs.Contents.{placed}
use Rattle.dump_text.specs.Listing.{listed}
use Rattle.dump_text.specs.Order.{is_next}
use Rattle.dump_text.specs.declared.fault.LineError.{LineError}
use Rattle.dump_text.proofs.Nexts.{big_is, grows, no_order, refused_as}
use Rattle.dump_text.proofs.grow.with_node.Goals as goal

pub returns-then-not-is_next : goal.returns-then-not-is_next
returns-then-not-is_next c =
    let no : is_next c.args.last.now c.args.path.now ≡ false = cc in
    no_order c.args.last.now c.args.path.now c.args.text.now c.args.tree.now c.requires no

pub returns-in-Err : goal.returns-in-Err
returns-in-Err c =
    let yes : is_next c.args.last.now c.args.path.now ≡ true = cc in
    subst (λ (e : LineError). Grows c.args.path.now (Err e) (placed (listed c.args.tree.now)
    (record { path = c.args.path.now; text = c.args.text.now }))) (sym c.refused.ensures)
    (refused_as c.in-Err.refusal c.args.last.now c.args.path.now c.args.text.now c.args.tree.now
    c.requires yes c.in-Err.ensures.tree (c.in-Err.ensures.shallow c.requires.lawful))

pub returns-then-count-ge-MOST_NODES : goal.returns-then-count-ge-MOST_NODES
returns-then-count-ge-MOST_NODES c =
    let yes : is_next c.args.last.now c.args.path.now ≡ true = cc in
    let number = c.count.ensures.exact c.requires.lawful in
    big_is c.args.last.now c.args.path.now c.args.text.now c.args.tree.now c.in-Ok.grown c.requires
    yes c.in-Ok.ensures.tree (omega arith)

pub returns : goal.returns
returns c =
    let yes : is_next c.args.last.now c.args.path.now ≡ true = cc in
    let number = c.count.ensures.exact c.requires.lawful in
    grows c.args.last.now c.args.path.now c.args.text.now c.args.tree.now c.in-Ok.grown c.requires
    yes c.in-Ok.ensures.tree (omega arith)
    (c.in-Ok.ensures.lawful c.requires.lawful c.in-Ok.grown refl)
