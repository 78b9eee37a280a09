-- From the stretches of all entries of a log to what its trail shows of some of them.
use Rattle.std.proofs.Common.{◌≡◌, ℕ, ◌≤◌, ◌==◌, ◌&&◌, Bool, true, false, not, List, []}
use Rattle.std.proofs.Common.{filter, count_by, ◌∙◌, ap}
use Rattle.std.proofs.lemmas.Bool.{false≢true}
use Rattle.cell_words.specs.declared.fields.Field.TheVariants as field
use Rattle.doc_model.specs.Answers.{is_full}
use Rattle.doc_model.specs.declared.command.Entry.{Entry}
use Rattle.trails.specs.Asks.{Grown, Meets, gave_at}
use Rattle.trails.specs.Claims.{IsFull}
use Rattle.trails.specs.Marks.{Mark, saw, wrote, looked, tried}
use Rattle.trails.specs.Stretches.{Had, InTurn}
use Rattle.trails.proofs.Counts.{order_counted, turns_counted}
use Rattle.trails.proofs.Stretches.{turns_grown, turns_inner, turns_some}
use Rattle.client_history.specs.Demands.{Demand, FullFor, ReadsFor, ReadsShown, is_drafting}
use Rattle.client_history.specs.Runs.{ShowsRun, is_anchor_read, is_telling, reads_version}
use Rattle.client_history.specs.Runs.{tells_version, was_full}

reads_of : (b : Bool) (e : Entry) (marks : List Mark) → not b ≡ true → ReadsFor b e marks
    → ReadsShown e marks
reads_of true e marks is reads = absurd (false≢true is)
reads_of false e marks is reads = reads

full_of : (b : Bool) (cells : ℕ) (marks : List Mark) → b ≡ true → FullFor b cells marks
    → Had (IsFull cells) [] marks
full_of true cells marks is had = had
full_of false cells marks is had = absurd (false≢true is)

second : (a b : Bool) → (a && b) ≡ true → b ≡ true
second true b is = is
second false b is = absurd (false≢true is)

anchor_seen : (cell : ℕ) (mark : Mark) → Meets (gave_at 0 0 (field.Cell cell)) mark
    → is_anchor_read mark ≡ true
anchor_seen cell (saw other place found) meets =
    ap (λ (n : ℕ). (n == 0) && (place == 0)) meets.0 ∙ ap (λ (n : ℕ). (0 == 0) && (n == 0)) meets.1
anchor_seen cell (wrote other place old new found) meets = absurd meets
anchor_seen cell (looked control) meets = absurd meets
anchor_seen cell (tried other found) meets = absurd meets

anchor_counted : (e : Entry) (marks : List Mark) → ReadsShown e marks
    → 1 ≤ count_by is_anchor_read marks
anchor_counted e marks shown =
    order_counted is_anchor_read marks (anchor_seen shown.0) shown.1

module _ (cells : ℕ) where
  pub shows_run : (es : List Entry) (marks : List Mark) → InTurn (Demand cells) es marks
      → ShowsRun cells es marks
  shows_run es marks turns =
      let read : InTurn ReadsShown (filter reads_version es) marks =
      turns_some (Demand cells) ReadsShown reads_version
      (λ e ms is demand. reads_of (is_drafting e.command) e ms is demand.reads) es marks turns in
      let told : InTurn ReadsShown (filter tells_version es) marks =
      turns_some (Demand cells) ReadsShown tells_version
      (λ e ms is demand. reads_of (is_drafting e.command) e ms
      (second (is_telling e.reply) (not (is_drafting e.command)) is) demand.reads) es marks
      turns in
      let outer : InTurn (λ (e : Entry) (ms : List Mark). Had (IsFull cells) [] ms)
      (filter was_full es) marks =
      turns_some (Demand cells) (λ (e : Entry) (ms : List Mark). Had (IsFull cells) [] ms) was_full
      (λ e ms is demand. full_of (is_full e.reply) cells ms is demand.full) es marks turns in
      record {
        anchor = turns_counted ReadsShown is_anchor_read anchor_counted (filter reads_version es)
            marks read;
        told = told;
        full = turns_inner (λ (e : Entry) (ms : List Mark). IsFull cells ms) (filter was_full es)
            marks outer;
      }

  -- more marks after, as those of a client's end
  pub shows_run_grown : (es : List Entry) (a b : List Mark) → InTurn (Demand cells) es a
      → Grown a b → ShowsRun cells es b
  shows_run_grown es a b turns grown =
      shows_run es b (turns_grown (Demand cells) es a turns grown)
