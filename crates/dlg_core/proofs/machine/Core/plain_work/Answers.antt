use Rattle.std.proofs.Common.{◌≡◌, ◌<◌, ap, arith}
use Rattle.std.proofs.lemmas.Bool.Decides.{nat_tests}
use Rattle.cell_words.specs.declared.controls.Stage.TheVariants as stage
use Rattle.core_machine.specs.State.{State}
use Rattle.core_machine.specs.declared.events.Event.TheVariants as event
use Rattle.dlg_core.specs.Plain.{plain_work}
use Rattle.dlg_core.proofs.machine.Core.plain_work.Goals as goal

-- a cell is cleared where the cursor is on one
cleared : (s : State) → s.collector.cursor < s.cells → event.ClearCell ≡ plain_work s stage.Clear
cleared s inside = grind (arith, nat_tests)

pub returns-in-Clear : goal.returns-in-Clear
returns-in-Clear c =
    let cursor = ap (λ (s : State). s.collector.cursor) c.self.view_is in
    let cells = ap (λ (s : State). s.cells) c.self.view_is in
    rw c.in-Clear.is (cleared c.args.self.now (omega arith))
