use Rattle.std.proofs.Common.{◌≡◌, ◌<◌, ◌∙◌, ℕ, None, true, length}
use Rattle.std.proofs.Common.{Some, refl, sym, ap}
use Rattle.std.proofs.lemmas.Bool.{eqb-true}
use Rattle.cell_words.specs.Term.{Term}
use Rattle.core_machine.specs.declared.events.Event.TheVariants as event
use Rattle.core_machine.specs.declared.events.Found.TheVariants as finds
use Rattle.core_machine.specs.WordOperations.{Load}
use Rattle.heap_rule.specs.Asks.{known_of, target}
use Rattle.heap_rule.specs.declared.known.Known.TheVariants as knows
use Rattle.heap_rule.proofs.Owing.{owes_keep}
use Rattle.mutator_events.proofs.Begun.{begun_in, none_begun}
use Rattle.mutator_events.proofs.Calls.{same_within, seat_told, within, without}
use Rattle.mutator_events.proofs.Owed.{status_owed, still_as}
use Rattle.mutator_events.proofs.Sameness.{after_keep_all, may_keep_all, one_term}
use Rattle.mutator_events.proofs.seat.MutSeat.is_same.Goals as goal

pub mutator_load-requires-clause-made : goal.mutator_load-requires-clause-made
mutator_load-requires-clause-made g c =
    ap (λ (n : ℕ). Some n) (sym c.self.invariant.0.number_is)

pub mutator_load-requires-clause-kind : goal.mutator_load-requires-clause-kind
mutator_load-requires-clause-kind g c =
    let n = c.held_len-places.result in
    let all = same_within (λ v. length v.own.held) c.self.view_is c.held_len-places.ensures.len in
    let is_in = within (λ v. v.presence.inside ≡ true) c.self.view_is c.requires.inside in
    let settled = within (λ v. v.own.pending ≡ None) c.self.view_is c.requires.settled in
    let me = c.self.inside.seat.me in
    status_owed g.P.Keeping.fixed c.self.invariant.0 (λ k. event.Keep k n 0 0) Load
    c.status_word-word.ensures.word
    (λ s l mine. owes_keep g.P.Keeping.fixed me s l mine n 0 0 settled
    (may_keep_all c.self.invariant.0 n all is_in))

pub mutator_load-requires-clause-rule : goal.mutator_load-requires-clause-rule
mutator_load-requires-clause-rule g c =
    still_as g.P.Keeping.fixed c.self.invariant.0 g.P.Keeping.holds g.P.Keeping.shrinks
    (event.Keep c.self.inside.number c.held_len-places.result 0 0) (λ s l. refl)

pub invariant_of-self : goal.invariant_of-self
invariant_of-self g c =
    let all = same_within (λ v. length v.own.held) c.self.view_is c.held_len-places.ensures.len in
    let is_in = within (λ v. v.presence.inside ≡ true) c.self.view_is c.requires.inside in
    let settled = within (λ v. v.own.pending ≡ None) c.self.view_is c.requires.settled in
    let after = after_keep_all c.self.invariant.0 c.held_len-places.result all is_in
    c.mutator_load.ensures.step in
    (after.keeps, c.self.invariant.1, begun_in after.view (none_begun settled))

pub returns-clause-terms : goal.returns-clause-terms
returns-clause-terms g c = λ same.
    let at = c.mutator_load.ensures.step in
    let first = c.args.first in
    let second = c.args.second in
    without (λ v. (t u : Term) → known_of v first ≡ knows.Record t
    → known_of v second ≡ knows.Record u → t ≡ u) c.self.view_is
    (one_term c.self.inside.seat.me at.core at.lore at.mine first second
    (within (λ v. first < length v.own.held) c.self.view_is c.requires.first)
    (within (λ v. second < length v.own.held) c.self.view_is c.requires.second)
    (sym (same_within (λ v. target v first) c.self.view_is c.cell.ensures.cell)
    ∙ eqb-true c.cell.result c.cell-2.result same
    ∙ same_within (λ v. target v second) c.self.view_is c.cell-2.ensures.cell))

pub returns-clause-told : goal.returns-clause-told
returns-clause-told g c =
    let all = same_within (λ v. length v.own.held) c.self.view_is c.held_len-places.ensures.len in
    let is_in = within (λ v. v.presence.inside ≡ true) c.self.view_is c.requires.inside in
    seat_told c.mutator_load.new.seat (λ v. event.Keep v.number (length v.own.held) 0 0)
    (λ v. finds.Presence v.presence) c.self.view_is c.mutator_load.ensures.same
    (after_keep_all c.self.invariant.0 c.held_len-places.result all is_in
    c.mutator_load.ensures.step).view
