use Rattle.std.proofs.Common.{◌+◌, ℕ, refl}
use Rattle.cell_mailbox.proofs.Linking.{full_try, lost_post, may_link, picks_link, sent_post}
use Rattle.cell_mailbox.proofs.Linking.{walked_full, walked_linked}
use Rattle.mail_rule.specs.declared.items.Item.{Item}
use Rattle.cell_mailbox.proofs.sending.try_to_send.Goals as goal

abbrev item_of : ℕ → ℕ → ℕ → Item
item_of before sender value = record { position = before + 1; sender = sender; value = value }

pub link-requires-clause-may : goal.link-requires-clause-may
link-requires-clause-may g c =
    may_link c.args.m.now c.find_last-before.new.m c.make_item.new.m c.args.held
    c.find_last-before.result c.in-Ok.fresh c.requires.inside c.requires.held
    c.find_last-before.ensures.last (item_of c.find_last-before.result c.args.sender c.args.value)
    c.in-Ok.ensures.made refl c.requires.sender c.requires.few

pub link-requires-clause-rule : goal.link-requires-clause-rule
link-requires-clause-rule g c =
    picks_link c.args.m.now c.find_last-before.new.m c.make_item.new.m c.args.held
    c.find_last-before.result c.in-Ok.fresh c.requires.inside c.requires.held
    c.find_last-before.ensures.last (item_of c.find_last-before.result c.args.sender c.args.value)
    c.in-Ok.ensures.made refl c.requires.sender c.requires.few

pub returns-in-Ok-link-clause-ends : goal.returns-in-Ok-link-clause-ends
returns-in-Ok-link-clause-ends g c =
    sent_post c.args.m.now c.find_last-before.new.m c.make_item.new.m c.args.held
    c.find_last-before.result c.in-Ok.fresh c.requires.inside c.requires.held
    c.find_last-before.ensures.last (item_of c.find_last-before.result c.args.sender c.args.value)
    c.in-Ok.ensures.made refl c.requires.sender c.requires.few
    c.link.new.m c.in-Ok-link.ensures.made

pub returns-in-Err-link-clause-ends : goal.returns-in-Err-link-clause-ends
returns-in-Err-link-clause-ends g c =
    lost_post c.args.m.now c.find_last-before.new.m c.make_item.new.m c.args.held
    c.find_last-before.result c.in-Ok.fresh c.requires.inside c.requires.held
    c.find_last-before.ensures.last (item_of c.find_last-before.result c.args.sender c.args.value)
    c.in-Ok.ensures.made refl c.requires.sender c.requires.few
    c.link.new.m _ c.in-Err-link.ensures.moved.1 c.in-Err-link.ensures.moved.0

pub returns-in-Err-clause-ends : goal.returns-in-Err-clause-ends
returns-in-Err-clause-ends g c =
    full_try c.args.m.now c.find_last-before.new.m c.make_item.new.m c.args.held
    c.find_last-before.result c.find_last-before.ensures.last c.in-Err.full c.in-Err.ensures.full

pub returns-in-Ok-link-clause-walk : goal.returns-in-Ok-link-clause-walk
returns-in-Ok-link-clause-walk g c =
    walked_linked c.args.m.now c.find_last-before.new.m c.make_item.new.m c.args.held
    c.find_last-before.result c.in-Ok.fresh c.requires.inside c.requires.held
    c.find_last-before.ensures.last (item_of c.find_last-before.result c.args.sender c.args.value)
    c.in-Ok.ensures.made refl c.requires.sender c.requires.few
    c.link.new.m _ c.in-Ok-link.ensures.made c.find_last-before.ensures.prompt

pub returns-in-Err-link-clause-walk : goal.returns-in-Err-link-clause-walk
returns-in-Err-link-clause-walk g c =
    walked_linked c.args.m.now c.find_last-before.new.m c.make_item.new.m c.args.held
    c.find_last-before.result c.in-Ok.fresh c.requires.inside c.requires.held
    c.find_last-before.ensures.last (item_of c.find_last-before.result c.args.sender c.args.value)
    c.in-Ok.ensures.made refl c.requires.sender c.requires.few
    c.link.new.m _ c.in-Err-link.ensures.moved.1 c.find_last-before.ensures.prompt

pub returns-in-Err-clause-walk : goal.returns-in-Err-clause-walk
returns-in-Err-clause-walk g c =
    walked_full c.args.m.now c.find_last-before.new.m c.make_item.new.m c.args.held
    c.find_last-before.result c.find_last-before.ensures.last c.find_last-before.ensures.prompt
    c.in-Err.full c.in-Err.ensures.full
