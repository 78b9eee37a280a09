use Rattle.std.proofs.Common.{◌∙◌, refl}
use Rattle.client_session.proofs.Regrafts.{makes_on, makes_outrun, stands_on}
use Rattle.client_session.proofs.Rooms.{may_on}
use Rattle.client_session.proofs.journal.Journal.commit_along.Goals as goal
use Rattle.client_history.proofs.States.{none_then}

pub loop-init : goal.loop-init
loop-init g c = record {
  may = c.requires.may;
  stands = c.requires.stands;
  makes = λ command f b makes. makes;
  lent = refl;
}

pub loop-preserved : goal.loop-preserved
loop-preserved g c =
    let was = c.loop.invariant in
    let lost = c.in-Lost.ensures.tries in
    let none = c.carried-next.ensures.none in
    let carries = c.in-Some-next.ensures.carries in
    record {
      may = may_on was.may (none_then lost.none none);
      stands = stands_on was.stands lost none carries;
      makes = λ command f b makes.
          makes_on was.stands lost none carries c.args.self.now command f b
          (was.makes command f b makes);
      lent = c.carried-next.ensures.lent ∙ c.commit_or_wait.ensures.lent ∙ was.lent;
    }

pub returns-in-Answered-clause-ends : goal.returns-in-Answered-clause-ends
returns-in-Answered-clause-ends g c = λ command f b makes.
    let now = c.loop.invariant.makes command f b makes in
    c.in-Answered.ensures.tries command b now.begun
    (now.edit.needs c.loop.edited.opened.version.number)

pub returns-in-None-next-clause-ends : goal.returns-in-None-next-clause-ends
returns-in-None-next-clause-ends g c = λ command f b makes.
    makes_outrun c.in-Lost.ensures.tries c.carried-next.ensures.none c.carried-next.ensures.ready
    c.args.self.now command f b (c.loop.invariant.makes command f b makes)
