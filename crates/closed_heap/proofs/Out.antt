-- Who is out at the close: whose seat was joined is over, and past the last mutator there is none.
use Rattle.std.proofs.Common.{◌≤◌, ℕ, Bool, List, length, inl, inr, ap, arith}
use Rattle.std.proofs.lemmas.Bool.{cases_lt}
use Rattle.std.proofs.lemmas.List.{get_or_past}
use Rattle.cell_words.specs.declared.presences.Presence.{Presence}
use Rattle.closed_heap.specs.Closing.{AreJoined}
use Rattle.core_machine.specs.State.{no_presence}
use Rattle.dlg_core.specs.Collects.{AreOut}
use Rattle.heap_rule.specs.Boxes.{Map}
use Rattle.heap_rule.specs.Laws.{Ended}
use Rattle.heap_rule.specs.Shape.{Shape}
use Rattle.heap_rule.specs.declared.view.View.{View}

pub joined_out : {S P : Type 0} {opens : ℕ → ℕ → P} {holding : Map → List P → Type 0}
    {fixed : ℕ → Bool} (h : Shape) (words : List ℕ) (v : View P)
    (ended : Ended opens holding fixed h S words v) → AreJoined h.mutators v.places
    → AreOut ended.shows.core
joined_out h words v ended joined i = elim (cases_lt i h.mutators) [
  | inl lt ↦
      let is = joined i lt in
      (ended.collector.joined i is.share is.share_at).over.0
  | inr ge ↦
      let fit = ended.shows.shaped.mutators_fit.presences_fit in
      let same = ended.shows.last_of.mutators in
      let past : length ended.shows.core.presences ≤ i = omega (arith, fit, same, ge) in
      ap (λ (p : Presence). p.inside) (get_or_past ended.shows.core.presences i no_presence past)
]
