use Rattle.std.proofs.Common.{◌≡◌, ◌<◌, ◌∙◌, ap, subst, sym, ℕ}
use Rattle.core_machine.specs.WordOperations.{left_by, Load}
use Rattle.heap_rule.specs.declared.view.View.{View}
use Rattle.heap_rule.specs.Asks.{told_by}
use Rattle.heap_rule.specs.Steps.{CollectorOwes}
use Rattle.heap_table.specs.Joined.{JoinedIsOver}
use Rattle.heap_table.specs.Seats.{HeapId, SeatView, words_many}
use Rattle.heap_table.proofs.Looking.{collector_look}
use Rattle.heap_table.proofs.heap.CellHeap.collector_load.Goals as goal

pub load-requires : goal.load-requires
load-requires g c =
    let shared = c.self.inside.table.shared in
    let raw = c.seat.inside.seat in
    let me : raw.me.0 ≡ c.args.seat.now.me = ap (λ (s : SeatView _). s.me) c.seat.view_is in
    let at : raw.table_id ≡ shared.table_id = ap (λ (s : SeatView _). s.table) c.seat.view_is
    ∙ c.requires.seat.0 ∙ ap (λ (h : HeapId). h.table) (sym c.self.view_is) in
    let many : words_many c.args.self.now.shape ≡ words_many shared.key =
    ap (λ (h : HeapId). words_many h.shape) (sym c.self.view_is) in (
      at,
      subst (λ (n : ℕ). c.args.word < n) (many ∙ sym c.self.invariant.words) c.requires.word,
      collector_look g.P.Keeping.opening g.P.Keeping.holds g.P.Keeping.fixed shared.key
          g.P.Keeping.shrinks shared.table_id.slots raw.id raw.me g.E.Intent.event c.args.word
          (left_by Load) (told_by Load)
          (ap (λ (v : View _). v.role) me ∙ c.requires.seat.1)
          c.requires.made
          (subst (λ (v : View _). CollectorOwes g.P.Keeping.fixed v g.E.Intent.event c.args.word
          (left_by Load) (told_by Load)) (sym me) c.requires.kind),
    )

pub returns-clause-joined : goal.returns-clause-joined
returns-clause-joined g c =
    subst (λ (v : View _). JoinedIsOver v c.args.word c.load.result)
    (ap (λ (s : SeatView _). s.me) c.seat.view_is) c.load.ensures.2.1
