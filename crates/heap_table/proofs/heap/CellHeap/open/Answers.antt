use Rattle.std.proofs.Common.{◌≡◌, ◌∙◌, ap, subst, sym, ℕ, [], length, arith, List}
use Rattle.atomic_table.specs.Table as table
use Rattle.heap_rule.specs.Opening.{opening_view}
use Rattle.heap_rule.specs.Rule.{Kept}
use Rattle.heap_rule.specs.Shape.{IsSound, Shape}
use Rattle.heap_table.specs.Opening.{opening_words}
use Rattle.heap_table.specs.Seats.{words_many}
use Rattle.heap_table.proofs.Laid.{opening_long, opens_with, rows_valid}
use Rattle.heap_table.proofs.heap.CellHeap.open.Goals as goal

pub words_at_opening-requires-clause-fields : goal.words_at_opening-requires-clause-fields
words_at_opening-requires-clause-fields g c =
    let few = c.requires.few_cells in
    let fit = c.requires.few_rows in
    rows_valid c.args.first.now (omega (arith, few, fit)) c.requires.rows

pub of_words-requires : goal.of_words-requires
of_words-requires g c =
    let h : Shape = record {
      cells = c.args.cells;
      mutators = c.args.mutators;
      setting = c.args.setting;
      first = c.args.first.now;
    } in
    let sound : IsSound h = record {
      rows = c.told-first;
      first = c.requires.rows;
      fit = c.requires.few_rows;
      few = c.requires.few_cells;
    } in
    let laid : c.deref.result.now ≡ opening_words h = c.deref.ensures.value
    ∙ c.in_ok-words.ensures.words c.args.setting in
    subst (λ (x : Shape). Kept g.P.Keeping.opening g.P.Keeping.holds g.P.Keeping.fixed x
    (table.opening c.deref.result.now [] (opening_view g.P.Keeping.opening x)))
    (sym c.in_ok-shape.ensures.shape)
    (opens_with g.P.Keeping.opening g.P.Keeping.holds g.P.Keeping.fixed h c.deref.result.now sound
    c.requires.rule laid)

pub invariant_of-result : goal.invariant_of-result
invariant_of-result g c =
    let h : Shape = record {
      cells = c.args.cells;
      mutators = c.args.mutators;
      setting = c.args.setting;
      first = c.args.first.now;
    } in
    let sound : IsSound h = record {
      rows = c.told-first;
      first = c.requires.rows;
      fit = c.requires.few_rows;
      few = c.requires.few_cells;
    } in
    let shape : c.in_ok-table.table.shared.key ≡ h = c.in_ok-table.ensures.5
    ∙ c.in_ok-shape.ensures.shape in
    record {
      words =
          c.in_ok-table.ensures.0
          ∙ ap (λ (ws : List ℕ). length ws)
          (c.deref.ensures.value ∙ c.in_ok-words.ensures.words c.args.setting)
          ∙ opening_long h sound ∙ ap words_many (sym shape);
      slots = c.in_ok-table.ensures.1;
      cells_are = ap (λ (x : Shape). x.cells) shape;
      mutators_are = ap (λ (x : Shape). x.mutators) shape;
      few = c.requires.few_cells;
    }
