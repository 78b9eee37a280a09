-- The client's rule after a step of a mutator: by its own law, from the boxes that the event would
-- leave if nothing became unreachable.
use Rattle.std.proofs.Common.{◌≡◌, ℕ, Bool, List, refl, sym, subst}
use Rattle.atomic_table.proofs.Lists.{set_again}
use Rattle.core_machine.specs.declared.events.Event.{Event}
use Rattle.core_machine.specs.declared.events.Event.TheVariants as event
use Rattle.core_machine.specs.declared.events.Found.{Found}
use Rattle.core_machine.specs.Next.{after}
use Rattle.core_machine.specs.State.{State}
use Rattle.heap_rule.specs.declared.known.Learned.{Learned}
use Rattle.heap_rule.specs.declared.view.View.{View}
use Rattle.heap_rule.specs.Boxes.{Map, Smaller, boxes_by, boxes_of}
use Rattle.heap_rule.specs.Lore.{Lore, lore_after}
use Rattle.heap_rule.specs.Steps.{Picks, StandsBy, same_pass}
use Rattle.heap_rule.proofs.SmallerAfter.{smaller_after}

module _ {P : Type 0} (holds : Map → List P → Type 0) (fixed : ℕ → Bool) (v : View P) where
  -- where a client leaves its pass, it has nothing to show of an event that writes no box and names
  -- none: a read is one
  pub still_picks : (e : Event) → ((s : State) (l : Lore) → boxes_by s l e ≡ boxes_of s l)
      → Picks holds fixed same_pass v e
  still_picks e same s l passes mine happens proper pass kept =
      subst (λ (ps : List P). holds (boxes_by s l e) ps)
      (sym (set_again passes v.number v.pass pass))
      (subst (λ (m : Map). holds m passes) (sym (same s l)) kept)

  pub read_picks : (i place f : ℕ) → Picks holds fixed same_pass v (event.Read i place f)
  read_picks i place f = still_picks (event.Read i place f) (λ s l. refl)

  pub fetch_picks : (i place f : ℕ) → Picks holds fixed same_pass v (event.Fetch i place f)
  fetch_picks i place f = still_picks (event.Fetch i place f) (λ s l. refl)

module _ {P : Type 0} (holds : Map → List P → Type 0) (fixed : ℕ → Bool)
    (shrinks : (old new : Map) (passes : List P) → Smaller old new → holds old passes
    → holds new passes) where
  pub stands_by : (next : Learned → Found → P → P) (v : View P) (e : Event)
      → Picks holds fixed next v e
      → StandsBy holds fixed next v e
  stands_by next v e picks s l passes mine happens proper pass kept =
      shrinks (boxes_by s l e) (boxes_of (after s e) (lore_after s l e)) _
      (smaller_after fixed s l mine.shown.shaped mine.shown.consistent mine.shown.facts e happens
      proper)
      (picks s l passes mine happens proper pass kept)

  -- where the event shows no box and writes none, and the pass stays
  pub stands_still : (v : View P) (e : Event)
      → ((s : State) (l : Lore) → boxes_by s l e ≡ boxes_of s l)
      → StandsBy holds fixed same_pass v e
  stands_still v e same = stands_by same_pass v e (still_picks holds fixed v e same)
