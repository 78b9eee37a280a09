-- What is written of a run of the scripts of files: the clients' replies, or the heap that the run
-- left.
-- Source: this project's own.
use Rattle.std.specs.Prelude.{◌≡◌, ℕ, List}
use Rattle.cmd_text.specs.declared.form.Form.{Form}
use Rattle.core_machine.specs.State.{State}
use Rattle.heap_census.specs.Heap.{heap_of}
use Rattle.heap_census.specs.ImageText.{image_text}
use Rattle.heap_table.specs.Images.{ImageView, Shows}
use Rattle.result_text.specs.Output.{IsOutput}
use Rattle.result_text.specs.declared.output.Shown.{Shown}
use Rattle.store_run.specs.declared.finished.Finished.{Finished}
use Rattle.doc_run.specs.declared.report.Report.{Report}
use Rattle.doc_run.specs.declared.report.Report.TheVariants.{Replies, Heap}

-- the text of a closed heap: that of each core state that its words show
abbrev pub IsHeapText : ImageView → List ℕ → Type 0
IsHeapText image text = (s : State) → Shows image s → text ≡ image_text (heap_of s)

-- the text is this report of what a run came to, whose scripts have these forms
abbrev pub Tells : Report → Shown → Finished → List Form → List ℕ → Type 0
Tells Replies shown f forms text = IsOutput shown f.logs.items forms f.totals text
Tells Heap shown f forms text = IsHeapText f.image text
