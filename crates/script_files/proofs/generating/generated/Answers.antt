use Rattle.script_files.specs.Generated.{generated_of}
use Rattle.script_files.proofs.Lines.{goes_on}
use Rattle.script_files.proofs.generating.generated.Goals as goal

pub loop-done-preserved : goal.loop-done-preserved
loop-done-preserved c =
    goes_on c.args.client c.loop-done.draws.state c.draw-first.new.self.state
    c.draw-second.new.self.state c.draw-first.result c.draw-second.result c.args.commands
    c.loop-done._done c.loop-done.text.items c.add_line.new.text.items
    (generated_of c.args.start c.args.client c.args.commands) c.loop-done-test.true
    c.loop-done.invariant c.draw-first.ensures.state c.draw-first.ensures.drawn
    c.draw-second.ensures.state c.draw-second.ensures.drawn c.in_ok-add_line.ensures.line
