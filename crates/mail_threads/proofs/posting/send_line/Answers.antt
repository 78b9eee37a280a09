use Rattle.mail_threads.proofs.Lines.{line_full, line_sent}
use Rattle.mail_threads.proofs.posting.send_line.Goals as goal

pub returns-in-Ok-clause-posts : goal.returns-in-Ok-clause-posts
returns-in-Ok-clause-posts g c =
    line_sent c.args.value c.in-Ok.position c.args.m.now c.send.new.m c.held_len-held.ensures.left
    c.in-Ok.ensures.sent

pub returns-in-Err-clause-posts : goal.returns-in-Err-clause-posts
returns-in-Err-clause-posts g c =
    line_full c.args.value c.in-Err.field-0 c.args.m.now c.send.new.m c.in-Err.ensures.full
