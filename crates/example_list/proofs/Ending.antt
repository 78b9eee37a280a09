-- The close: what the harness says of a heap of this shape.
use Rattle.std.proofs.Common.{◌≡◌, ℕ, List, sym, subst}
use Rattle.core_machine.specs.State.{greatest_cycles}
use Rattle.heap_rule.specs.NoRule.{anything_holds, no_field_is_fixed}
use Rattle.heap_rule.specs.Shape.{Shape}
use Rattle.heap_rule.specs.declared.keeping.NoRule.{NoRule}
use Rattle.heap_rule.specs.declared.view.View.{View}
use Rattle.mutator_threads.specs.Closing.{IsClosed}
use Rattle.mutator_threads.specs.declared.closing.Closed.{Closed}
use Rattle.example_list.specs.Leaving.{Leaves, list_shape, nothing_known}

pub leaves : (cells threads : ℕ) (views : List (View NoRule)) (closed : Closed NoRule) (h : Shape)
    → h ≡ list_shape cells threads
    → IsClosed nothing_known anything_holds no_field_is_fixed h greatest_cycles views closed
    → Leaves cells threads closed.freed closed.image closed.passes
leaves cells threads views closed h is =
    subst (λ (k : Shape).
    IsClosed nothing_known anything_holds no_field_is_fixed k greatest_cycles views closed
    → Leaves cells threads closed.freed closed.image closed.passes) (sym is)
    (λ done. record {
      ended = done.has_closed.ended;
      shows = done.has_closed.shows;
      collected = done.has_closed.collected;
    })
