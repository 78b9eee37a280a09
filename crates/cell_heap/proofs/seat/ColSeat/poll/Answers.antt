use Rattle.std.proofs.Common.{◌<◌, ◌∙◌, ℕ, ap, refl, subst, sym}
use Rattle.cell_heap.proofs.Joined.{joined_over}
use Rattle.cell_heap.proofs.Made.{finds_known, finds_valid, made}
use Rattle.cell_heap.proofs.Owed.{below, owes}
use Rattle.cell_words.specs.Presence.{pack_presence_of}
use Rattle.core_machine.specs.WordOperations.{Load}
use Rattle.core_machine.specs.declared.events.Event.TheVariants as event
use Rattle.core_machine.specs.declared.events.Found.TheVariants as finds
use Rattle.core_machine.proofs.Conditions.{poll_needs}
use Rattle.cell_heap.proofs.seat.ColSeat.poll.Goals as goal

pub collector_load-found-requires-clause-word : goal.collector_load-found-requires-clause-word
collector_load-found-requires-clause-word g c =
    below c.args.heap.now (event.Poll c.args.mutator) c.self.view_is
    c.requires.seat c.self.invariant refl c.requires.can
    (sym (c.status_word-word.ensures.index 0))

pub collector_load-found-requires-clause-kind : goal.collector_load-found-requires-clause-kind
collector_load-found-requires-clause-kind g c =
    owes g.P.Keeping.fixed (event.Poll c.args.mutator)
    c.status_word-word.result Load c.self.view_is refl c.requires.can
    (sym (c.status_word-word.ensures.index 0)) refl

pub returns-clause-known : goal.returns-clause-known
returns-clause-known g c =
    let step = c.collector_load-found.ensures.step in
    let m = made c.self.view_is c.collector_load-found.ensures.same step in
    let me = c.self.inside.seat.me in
    let result = c.presence_of.result in
    let same = sym (c.presence_of.ensures.presence _ (finds_valid m) step.says) in
    finds_known m (finds.Presence result) (ap finds.Presence same)
    (joined_over me c.args.mutator _ _ result
    (subst (λ (n : ℕ). c.args.mutator < n) step.ours.mutators
    (poll_needs step.core c.args.mutator step.happens).mutator)
    c.collector_load-found.ensures.joined
    (c.status_word-word.ensures.index me.shape.mutators)
    (ap pack_presence_of (sym same) ∙ step.says))
