use Rattle.std.proofs.Common.{Option, sym, ◌∙◌, ap}
use Rattle.cell_words.specs.Modes.{barrier_of}
use Rattle.cell_words.specs.declared.controls.Control.{Control}
use Rattle.cell_words.specs.declared.presences.Status.{Status}
use Rattle.core_machine.specs.Words.{barrier_in, lets_store}
use Rattle.std.proofs.Common.{Some}
use Rattle.cell_tests.proofs.fetching.store_if_free.Goals as goal

pub store_seven-requires-clause-free : goal.store_seven-requires-clause-free
store_seven-requires-clause-free c =
    let looked = c.requires.looked in
    let v = c.args.seat.now.me in
    let own = c.status-own.ensures.status in
    record {
      inside = looked.inside;
      settled = looked.settled;
      nothing = ap (λ (m : Option Control). barrier_in v.presence.status m) looked.mode
          ∙ ap (λ (s : Status). barrier_of s c.args.control) (sym own)
          ∙ c.is_free.ensures.nothing c.if-is_free.true;
      lets = ap (λ (m : Option Control). lets_store v.presence.status m) looked.mode
          ∙ ap (λ (s : Status). lets_store s (Some c.args.control)) (sym own)
          ∙ c.is_free.ensures.lets c.if-is_free.true;
      anchor = c.held_len-many.ensures.anchor looked.inside;
      held = looked.held;
      fits = looked.fits;
    }
