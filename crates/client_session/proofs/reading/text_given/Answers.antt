use Rattle.std.proofs.Common.{List, ℕ, ◌∙◌, ap, refl, sym, subst}
use Rattle.client_history.proofs.States.{rests_then}
use Rattle.doc_model.specs.Answers.{text_shown, told}
use Rattle.doc_model.specs.declared.command.Reply.TheVariants as reply
use Rattle.doc_records.specs.Texts.{text_asks}
use Rattle.trails.specs.Asks.{Shows}
use Rattle.trails.proofs.Orders.{shows_late, shows_none}
use Rattle.client_session.proofs.reading.text_given.Goals as goal

pub returns-in_ok-kept-in-Some-clause-told : goal.returns-in_ok-kept-in-Some-clause-told
returns-in_ok-kept-in-Some-clause-told g c =
    ap (text_shown c.args.shown c.args.place) (sym c.in-Some.ensures.tree)
    ∙ ap (λ (x : List ℕ). told (reply.Val c.args.shown x) c.args.place)
    (sym c.in_ok-text-in-Some.ensures.text)

pub returns-in_ok-kept-in-Some-clause-kept : goal.returns-in_ok-kept-in-Some-clause-kept
returns-in_ok-kept-in-Some-clause-kept g c =
    ap (reply.Val c.args.shown) c.in_ok-kept-in-Some.ensures

pub returns-in_ok-kept-in-Some-clause-plain : goal.returns-in_ok-kept-in-Some-clause-plain
returns-in_ok-kept-in-Some-clause-plain g c = record { plain = refl; spare = refl }

pub returns-in_ok-kept-in-Some-clause-shows : goal.returns-in_ok-kept-in-Some-clause-shows
returns-in_ok-kept-in-Some-clause-shows g c = λ e.
    let t = g.H.ClientHeap.state c.node.new.self in
    let u = g.H.ClientHeap.state c.text.new.self in
    let read = c.in_ok-text-in-Some.ensures in
    shows_late c.in-Some.ensures.rests.lasts.grown
    (subst (λ (x : List ℕ). Shows (text_asks x) t.marks u.marks) (sym read.text)
    (read.shows (c.in-Some.ensures.shared e)))

pub returns-in_ok-kept-in-Some-clause-place : goal.returns-in_ok-kept-in-Some-clause-place
returns-in_ok-kept-in-Some-clause-place g c = refl

pub returns-in_ok-kept-in-Some-clause-pass : goal.returns-in_ok-kept-in-Some-clause-pass
returns-in_ok-kept-in-Some-clause-pass g c =
    c.in_ok-text-in-Some.ensures.pass ∙ c.in-Some.ensures.pass

pub returns-in_ok-kept-in-Some-clause-rests : goal.returns-in_ok-kept-in-Some-clause-rests
returns-in_ok-kept-in-Some-clause-rests g c =
    rests_then c.in-Some.ensures.rests c.in_ok-text-in-Some.ensures.rests

pub returns-in_ok-kept-in-Some-clause-lent : goal.returns-in_ok-kept-in-Some-clause-lent
returns-in_ok-kept-in-Some-clause-lent g c =
    c.in_ok-text-in-Some.ensures.lent ∙ c.in-Some.ensures.lent

pub returns-in_err-kept-in-Some-clause-pass : goal.returns-in_err-kept-in-Some-clause-pass
returns-in_err-kept-in-Some-clause-pass g c =
    c.in_ok-text-in-Some.ensures.pass ∙ c.in-Some.ensures.pass

pub returns-in_err-kept-in-Some-clause-rests : goal.returns-in_err-kept-in-Some-clause-rests
returns-in_err-kept-in-Some-clause-rests g c =
    rests_then c.in-Some.ensures.rests c.in_ok-text-in-Some.ensures.rests

pub returns-in_err-kept-in-Some-clause-lent : goal.returns-in_err-kept-in-Some-clause-lent
returns-in_err-kept-in-Some-clause-lent g c =
    c.in_ok-text-in-Some.ensures.lent ∙ c.in-Some.ensures.lent

pub returns-in_err-text-in-Some-clause-pass : goal.returns-in_err-text-in-Some-clause-pass
returns-in_err-text-in-Some-clause-pass g c =
    c.in_err-text-in-Some.ensures.pass ∙ c.in-Some.ensures.pass

pub returns-in_err-text-in-Some-clause-rests : goal.returns-in_err-text-in-Some-clause-rests
returns-in_err-text-in-Some-clause-rests g c =
    rests_then c.in-Some.ensures.rests c.in_err-text-in-Some.ensures.rests

pub returns-in_err-text-in-Some-clause-lent : goal.returns-in_err-text-in-Some-clause-lent
returns-in_err-text-in-Some-clause-lent g c =
    c.in_err-text-in-Some.ensures.lent ∙ c.in-Some.ensures.lent

pub returns-in-None-clause-told : goal.returns-in-None-clause-told
returns-in-None-clause-told g c =
    ap (text_shown c.args.shown c.args.place) (sym c.in-None.ensures.tree)

pub returns-in-None-clause-kept : goal.returns-in-None-clause-kept
returns-in-None-clause-kept g c = refl

pub returns-in-None-clause-plain : goal.returns-in-None-clause-plain
returns-in-None-clause-plain g c = record { plain = refl; spare = refl }

pub returns-in-None-clause-shows : goal.returns-in-None-clause-shows
returns-in-None-clause-shows g c = λ e. shows_none c.in-None.ensures.rests.lasts.grown

pub returns-in-None-clause-place : goal.returns-in-None-clause-place
returns-in-None-clause-place g c = refl

pub returns-in-None-clause-pass : goal.returns-in-None-clause-pass
returns-in-None-clause-pass g c = c.in-None.ensures.pass

pub returns-in-None-clause-rests : goal.returns-in-None-clause-rests
returns-in-None-clause-rests g c = c.in-None.ensures.rests

pub returns-in-None-clause-lent : goal.returns-in-None-clause-lent
returns-in-None-clause-lent g c = c.in-None.ensures.lent
