use Rattle.std.proofs.Common.{◌≡◌, ◌<◌, ◌∙◌, ap, subst, sym, ℕ, Some}
use Rattle.core_machine.specs.WordOperations.{left_by, Store}
use Rattle.heap_rule.specs.declared.view.View.{View}
use Rattle.heap_rule.specs.Asks.{told_by}
use Rattle.heap_rule.specs.Steps.{Owes, StandsBy}
use Rattle.heap_rule.proofs.Stepping.{mutator_step}
use Rattle.heap_table.specs.Seats.{HeapId, SeatView, words_many}
use Rattle.heap_table.proofs.heap.CellHeap.mutator_store.Goals as goal

pub store-requires : goal.store-requires
store-requires g c =
    let shared = c.self.inside.table.shared in
    let raw = c.seat.inside.seat in
    let me : raw.me.0 ≡ c.args.seat.now.me = ap (λ (s : SeatView _). s.me) c.seat.view_is in
    let at : raw.table_id ≡ shared.table_id = ap (λ (s : SeatView _). s.table) c.seat.view_is
    ∙ c.requires.seat.0 ∙ ap (λ (h : HeapId). h.table) (sym c.self.view_is) in
    let many : words_many c.args.self.now.shape ≡ words_many shared.key =
    ap (λ (h : HeapId). words_many h.shape) (sym c.self.view_is) in (
      at,
      subst (λ (n : ℕ). c.args.word < n) (many ∙ sym c.self.invariant.words) c.requires.word,
      mutator_step g.P.Keeping.opening g.P.Keeping.holds g.P.Keeping.fixed shared.key
          shared.table_id.slots raw.id raw.me g.E.Intent.event c.args.word (left_by (Store c.args.new))
          (told_by (Store c.args.new)) g.E.Intent.next
          (ap (λ (v : View _). v.role) me ∙ c.requires.seat.1)
          (c.requires.made ∙ ap (λ (v : View _). Some v.number) (sym me))
          (subst (λ (v : View _). Owes g.P.Keeping.fixed v g.E.Intent.event c.args.word
          (left_by (Store c.args.new)) (told_by (Store c.args.new))) (sym me) c.requires.kind)
          (subst (λ (v : View _). StandsBy g.P.Keeping.holds g.P.Keeping.fixed g.E.Intent.next v
          g.E.Intent.event) (sym me) c.requires.rule),
    )
