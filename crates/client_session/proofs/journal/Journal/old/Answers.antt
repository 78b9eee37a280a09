use Rattle.std.proofs.Common.{◌≡◌, ◌-◌, ◌+◌, ◌≤◌, ◌<◌, ℕ, arith, ap, sym}
use Rattle.std.proofs.Common.{◌∙◌, refl}
use Rattle.std.proofs.lemmas.Result.{err_from_is_err_and}
use Rattle.client_session.proofs.Readings.{cut_ends, old_before_ends, old_ends, old_gone_ends}
use Rattle.client_session.proofs.Readings.{rests_lost}
use Rattle.client_session.proofs.journal.Journal.old.Goals as goal
use Rattle.client_history.proofs.Reading.{read_current}
use Rattle.client_history.proofs.States.{rests_none, rests_reads, rests_then}
use Rattle.doc_tree.specs.Tree.{DocTree}
use Rattle.version_rule.specs.Pass.{reading}

pub returns-then-from-shown-clause-ends : goal.returns-then-from-shown-clause-ends
returns-then-from-shown-clause-ends g c =
    let latest = c.current-latest.ensures in
    let v = c.current-latest.result.number in
    let read = read_current v latest.shows.0 latest.shows.1 latest.pass latest.seen
    (rests_none latest.rests) in
    let far : v < c.args.back = omega (arith, c.if-from-shown.true, c.from.ensures) in
    old_before_ends c.args.self.now c.requires.may c.requires.room c.args.path.now v
    c.args.back read latest.rests far

pub returns-then-back-self-clause-ends : goal.returns-then-back-self-clause-ends
returns-then-back-self-clause-ends g c =
    let latest = c.current-latest.ensures in
    let v = c.current-latest.result.number in
    let read = read_current v latest.shows.0 latest.shows.1 latest.pass latest.seen
    (rests_none latest.rests) in
    let is : v - c.args.back ≡ v - c.from-2.result =
    ap (λ (n : ℕ). v - n) (sym c.from-2.ensures) in
    let there : c.args.back ≤ v = omega (arith, c.if-from-shown.false, c.from.ensures) in
    old_gone_ends c.args.self.now c.requires.may c.requires.room c.args.path.now v
    c.args.back read latest.rests (v - c.from-2.result) is there c.if-back-self.true

pub returns-in_ok-given-in-Some-clause-ends : goal.returns-in_ok-given-in-Some-clause-ends
returns-in_ok-given-in-Some-clause-ends g c =
    let h = g.H.ClientHeap in
    let latest = c.current-latest.ensures in
    let v = c.current-latest.result.number in
    let read = read_current v latest.shows.0 latest.shows.1 latest.pass latest.seen
    (rests_none latest.rests) in
    let older = c.in-Some.ensures in
    let number = c.in-Some.found.number in
    let total : number + c.args.back ≡ v = omega (arith, older.number, c.from-3.ensures) in
    let is : v - c.args.back ≡ v - c.from-2.result =
    ap (λ (n : ℕ). v - n) (sym c.from-2.ensures) in
    let t = h.state c.older.new.self in
    let u = h.state c.tree-root.new.self in
    let root = (h.shown c.tree-root.new.self).tree c.tree-root.result in
    let pass : u.pass ≡ reading number root t.pass =
    c.tree-root.ensures.pass
    ∙ ap (λ (d : DocTree). reading number d t.pass) (sym c.tree-root.ensures.tree) in
    let given = c.in_ok-given-in-Some.ensures in
    old_ends c.args.self.now c.requires.may c.requires.room c.args.path.now v c.args.back
    read latest.rests number (v - c.from-2.result) root c.in_ok-given-in-Some.given total is
    c.if-back-self.false older.rests pass c.tree-root.ensures.rests given.told given.kept
    given.place given.plain given.rests (given.shows c.tree-root.ensures.shared)

pub returns-then-from-shown-clause-reads : goal.returns-then-from-shown-clause-reads
returns-then-from-shown-clause-reads g c = rests_reads c.current-latest.ensures.rests

pub returns-then-back-self-clause-reads : goal.returns-then-back-self-clause-reads
returns-then-back-self-clause-reads g c = rests_reads c.current-latest.ensures.rests

pub returns-in_ok-given-in-Some-clause-reads : goal.returns-in_ok-given-in-Some-clause-reads
returns-in_ok-given-in-Some-clause-reads g c =
    rests_reads (rests_then c.current-latest.ensures.rests (rests_then c.in-Some.ensures.rests
    (rests_then c.tree-root.ensures.rests c.in_ok-given-in-Some.ensures.rests)))

pub returns-in_ok-given-in-Some-clause-lent : goal.returns-in_ok-given-in-Some-clause-lent
returns-in_ok-given-in-Some-clause-lent g c =
    c.in_ok-given-in-Some.ensures.lent ∙ c.tree-root.ensures.lent ∙ c.in-Some.ensures.lent
    ∙ c.current-latest.ensures.lent

pub returns-in_err-given-in-Some-clause-ends : goal.returns-in_err-given-in-Some-clause-ends
returns-in_err-given-in-Some-clause-ends g c =
    let failed = err_from_is_err_and c.from_residual.result c.from_residual.ensures.1 in
    rw failed.1
    (rests_lost (omega (arith, c.requires.room))
    (rests_then c.current-latest.ensures.rests (rests_then c.in-Some.ensures.rests
    (rests_then c.tree-root.ensures.rests c.in_err-given-in-Some.ensures.rests))))

pub returns-in_err-given-in-Some-clause-reads : goal.returns-in_err-given-in-Some-clause-reads
returns-in_err-given-in-Some-clause-reads g c =
    rests_reads (rests_then c.current-latest.ensures.rests (rests_then c.in-Some.ensures.rests
    (rests_then c.tree-root.ensures.rests c.in_err-given-in-Some.ensures.rests)))

pub returns-in_err-given-in-Some-clause-lent : goal.returns-in_err-given-in-Some-clause-lent
returns-in_err-given-in-Some-clause-lent g c =
    c.in_err-given-in-Some.ensures.lent ∙ c.tree-root.ensures.lent ∙ c.in-Some.ensures.lent
    ∙ c.current-latest.ensures.lent

pub returns-in-None-clause-ends : goal.returns-in-None-clause-ends
returns-in-None-clause-ends g c =
    let latest = c.current-latest.ensures in
    let v = c.current-latest.result.number in
    let read = read_current v latest.shows.0 latest.shows.1 latest.pass latest.seen
    (rests_none latest.rests) in
    cut_ends v read latest.rests c.in-None.ensures.rests c.requires.room
    (c.in-None.ensures.newer refl)

pub returns-in-None-clause-reads : goal.returns-in-None-clause-reads
returns-in-None-clause-reads g c =
    rests_reads (rests_then c.current-latest.ensures.rests c.in-None.ensures.rests)

pub returns-in-None-clause-lent : goal.returns-in-None-clause-lent
returns-in-None-clause-lent g c = c.in-None.ensures.lent ∙ c.current-latest.ensures.lent
