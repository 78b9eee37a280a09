-- Answers to handshakes leave all that a session needs of its mutator.
--
-- The held list, what is known of it, the pass and the claims are as before, and the trail shows
-- more looks: so it is as if a turn was lost.
use Rattle.std.proofs.Common.{◌≡◌, ℕ, List, length, sym}
use Rattle.std.proofs.Common.{◌∙◌, ap, subst}
use Rattle.std.proofs.Common.{arith}
use Rattle.client_heap.specs.Sound.{IsSound}
use Rattle.client_trees.specs.Records.{stands_on, term_at}
use Rattle.client_session.specs.Turns.{bounds}
use Rattle.client_history.specs.State.{IsReady}
use Rattle.client_history.specs.Turns.{Lost}
use Rattle.client_history.proofs.States.{small_still}
use Rattle.client_history.proofs.Stepping.{in_step_lost}
use Rattle.core_machine.specs.Own.{no_own}
use Rattle.core_machine.specs.Trail.{own_along}
use Rattle.core_machine.specs.declared.events.Taken.{Taken}
use Rattle.doc_records.specs.Trees.{IsTreeNode}
use Rattle.heap_rule.specs.declared.known.Known.{Known}
use Rattle.mutator_seat.specs.Bound.{Bound}
use Rattle.mutator_seat.specs.Stretches.{Calm, Kept}
use Rattle.trails.specs.Asks.{Grown}
use Rattle.trails.specs.Marks.{marks_from, marks_of}
use Rattle.trails.proofs.Marks.{marks_append}
use Rattle.version_rule.specs.Fits.{Grows}
use Rattle.version_rule.specs.Pass.{Pass, commit_numbers}
use Rattle.version_rule.proofs.Trees.{grows_still}
use Rattle.held_places.proofs.Going.{calm_trail, many_cells}
use Rattle.client_run.specs.Own.{MayAnswer, client_state}
use Rattle.client_run.specs.declared.session.Session.{Session}

pub calm_grown : (F : List Taken → Type 0) (a b : Bound Pass) → Calm F a b
    → Grown (marks_of a.seat.me.trail) (marks_of b.seat.me.trail)
calm_grown F a b calm = record {
  added = marks_from (own_along no_own a.seat.me.trail) calm.added;
  is = ap marks_of (calm_trail F a b calm) ∙ marks_append no_own a.seat.me.trail calm.added;
}

module _ (a b : Bound Pass) (stays : Kept a b)
    (grown : Grown (marks_of a.seat.me.trail) (marks_of b.seat.me.trail)) where
  -- as many cells are held
  same_many : length b.seat.me.own.held ≡ length a.seat.me.own.held
  same_many = sym (many_cells b) ∙ ap (λ (cs : List ℕ). length cs) stays.held ∙ many_cells a

  module _ (s : Session) (may : MayAnswer s a) where
    same_term : term_at b.seat.me.known s.nursery.heap.records s.draft
        ≡ term_at a.seat.me.known s.nursery.heap.records s.draft
    same_term =
        ap (λ (ks : List Known). term_at ks s.nursery.heap.records s.draft) stays.known

    still_sound : IsSound b s.nursery.heap s.draft s.base
    still_sound =
        let many = same_many in
        let room = stays.room in
        let few = may.sound.kept in
        let places = may.sound.places in
        let ready = may.sound.ready in
        record {
          inside = stays.inside ∙ may.sound.inside;
          some = may.sound.some;
          kept = omega (arith, many, few);
          stands = subst (λ (ks : List Known). stands_on ks s.nursery.heap.records s.base s.draft)
              (sym stays.known) may.sound.stands;
          node = subst IsTreeNode (sym same_term) may.sound.node;
          records = may.sound.records;
          places = omega (arith, room, places);
          ready = omega (arith, room, ready);
        }

    still_ready : IsReady (client_state s b)
    still_ready =
        let ready = may.sound.ready in
        let enough = may.ready in
        let many = same_many in
        let room = stays.room in
        omega (arith, enough, many, room)

    lost : Lost (client_state s a) (client_state s b)
    lost = record {
      lasts = record {
        cells = ap (λ h. h.cells) stays.shape;
        passes = subst (λ (p : Pass). Grows a.seat.me.pass p) (sym stays.pass)
            (grows_still a.seat.me.pass);
        grown = grown;
        claims = let same = stays.claims in omega (arith, same);
      };
      ready = still_ready;
      commits = ap commit_numbers stays.pass;
      draft = same_term;
      small = small_still (client_state s a);
    }

    pub kept_may : MayAnswer s b
    kept_may = record {
      client = may.client;
      step = in_step_lost (bounds s.journal.limits) s.journal.last s.journal.log may.step lost;
      sound = still_sound;
      ready = still_ready;
      settled = same_many ∙ may.settled;
      whole = may.whole;
      copied = may.copied;
    }
