use Rattle.std.proofs.Common.{◌≤◌, ℕ, length, map, sym, ◌∙◌, ap, subst}
use Rattle.core_machine.specs.Places.{unmark}
use Rattle.cell_words.specs.declared.presences.Presence.{Presence}
use Rattle.heap_rule.specs.declared.keeping.NoRule.{NoRule}
use Rattle.heap_table.specs.Seats.{SeatView}
use Rattle.cell_tests.proofs.fetching.fetch_and_store.Goals as goal

pub store_if_free-found-requires-clause-looked : goal.store_if_free-found-requires-clause-looked
store_if_free-found-requires-clause-looked c =
    let look = c.look-control.ensures.told in
    let begin = c.begin.ensures.told.1 in
    record {
      inside = ap (λ (s : SeatView NoRule). s.me.presence.inside) look
          ∙ ap (λ (s : SeatView NoRule). s.me.presence.inside) begin;
      settled = ap (λ (s : SeatView NoRule). s.me.own.pending) look
          ∙ ap (λ (s : SeatView NoRule). s.me.own.pending) begin
          ∙ c.is_in-inside.ensures.idle c.requires.may.out;
      mode = ap (λ (s : SeatView NoRule). s.me.own.mode) look;
      held = ap (λ (s : SeatView NoRule). length s.me.own.held) look
          ∙ ap (λ (s : SeatView NoRule). length (map unmark s.me.own.held)) begin;
      fits = subst (λ (n : ℕ). 2 ≤ n)
          (sym (ap (λ (s : SeatView NoRule). s.me.room) look
          ∙ ap (λ (s : SeatView NoRule). s.me.room) begin)) c.requires.room;
    }

pub end-requires-clause-inside : goal.end-requires-clause-inside
end-requires-clause-inside c =
    ap (λ (p : Presence). p.inside) c.store_if_free-found.ensures.presence
    ∙ ap (λ (s : SeatView NoRule). s.me.presence.inside) c.look-control.ensures.told
    ∙ ap (λ (s : SeatView NoRule). s.me.presence.inside) c.begin.ensures.told.1

pub returns-clause-may : goal.returns-clause-may
returns-clause-may c =
    let end = c.end.ensures.told in
    record {
      out = ap (λ (s : SeatView NoRule). s.me.presence.inside) end;
      not_over = ap (λ (s : SeatView NoRule). s.me.presence.over) end
          ∙ ap (λ (p : Presence). p.over) c.store_if_free-found.ensures.presence
          ∙ ap (λ (s : SeatView NoRule). s.me.presence.over) c.look-control.ensures.told
          ∙ ap (λ (s : SeatView NoRule). s.me.presence.over) c.begin.ensures.told.1
          ∙ c.requires.may.not_over;
    }
