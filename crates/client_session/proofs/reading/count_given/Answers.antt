use Rattle.std.proofs.Common.{ℕ, ◌∙◌, ap, refl, sym}
use Rattle.client_history.proofs.States.{rests_then}
use Rattle.doc_model.specs.Answers.{count_shown, told}
use Rattle.doc_model.specs.declared.command.Reply.TheVariants as reply
use Rattle.trails.proofs.Orders.{shows_late, shows_none}
use Rattle.client_session.proofs.reading.count_given.Goals as goal

pub returns-in-Some-clause-told : goal.returns-in-Some-clause-told
returns-in-Some-clause-told g c =
    ap (count_shown c.args.shown) (sym c.in-Some.ensures.tree)
    ∙ ap (λ (n : ℕ). told (reply.Count c.args.shown n) c.args.shown)
    (sym c.count-count.ensures.count)

pub returns-in-Some-clause-kept : goal.returns-in-Some-clause-kept
returns-in-Some-clause-kept g c = refl

pub returns-in-Some-clause-plain : goal.returns-in-Some-clause-plain
returns-in-Some-clause-plain g c = record { plain = refl; spare = refl }

pub returns-in-Some-clause-shows : goal.returns-in-Some-clause-shows
returns-in-Some-clause-shows g c = λ e.
    shows_late c.in-Some.ensures.rests.lasts.grown
    (c.count-count.ensures.shows (c.in-Some.ensures.shared e))

pub returns-in-Some-clause-place : goal.returns-in-Some-clause-place
returns-in-Some-clause-place g c = refl

pub returns-in-Some-clause-pass : goal.returns-in-Some-clause-pass
returns-in-Some-clause-pass g c = c.count-count.ensures.pass ∙ c.in-Some.ensures.pass

pub returns-in-Some-clause-rests : goal.returns-in-Some-clause-rests
returns-in-Some-clause-rests g c =
    rests_then c.in-Some.ensures.rests c.count-count.ensures.rests

pub returns-in-Some-clause-lent : goal.returns-in-Some-clause-lent
returns-in-Some-clause-lent g c = c.count-count.ensures.lent ∙ c.in-Some.ensures.lent

pub returns-in-None-clause-told : goal.returns-in-None-clause-told
returns-in-None-clause-told g c = ap (count_shown c.args.shown) (sym c.in-None.ensures.tree)

pub returns-in-None-clause-kept : goal.returns-in-None-clause-kept
returns-in-None-clause-kept g c = refl

pub returns-in-None-clause-plain : goal.returns-in-None-clause-plain
returns-in-None-clause-plain g c = record { plain = refl; spare = refl }

pub returns-in-None-clause-shows : goal.returns-in-None-clause-shows
returns-in-None-clause-shows g c = λ e. shows_none c.in-None.ensures.rests.lasts.grown

pub returns-in-None-clause-place : goal.returns-in-None-clause-place
returns-in-None-clause-place g c = refl

pub returns-in-None-clause-pass : goal.returns-in-None-clause-pass
returns-in-None-clause-pass g c = c.in-None.ensures.pass

pub returns-in-None-clause-rests : goal.returns-in-None-clause-rests
returns-in-None-clause-rests g c = c.in-None.ensures.rests

pub returns-in-None-clause-lent : goal.returns-in-None-clause-lent
returns-in-None-clause-lent g c = c.in-None.ensures.lent
