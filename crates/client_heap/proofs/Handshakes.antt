-- A handshake leaves what is held and what is known of it, and so carries all on.
use Rattle.std.proofs.Common.{◌≡◌, List, [], length, arith, subst, sym}
use Rattle.core_machine.specs.declared.events.Taken.{Taken}
use Rattle.held_places.proofs.Going.{calm_goes, kept_holds, many_held}
use Rattle.minor_heap.specs.Nursery.{IsOrdered, Nursery}
use Rattle.mutator_seat.specs.Bound.{Bound}
use Rattle.mutator_seat.specs.Stretches.{Calm}
use Rattle.version_rule.specs.Fits.{Grows}
use Rattle.version_rule.specs.Pass.{Pass}
use Rattle.version_rule.specs.Versions.{is_fixed}
use Rattle.version_rule.proofs.Trees.{grows_still}
use Rattle.version_store.specs.Calls.{Holds}
use Rattle.version_store.specs.Lasts.{LastsAcross}
use Rattle.version_store.proofs.Lasting.{goes_same, lasts_by}
use Rattle.client_heap.specs.Carries.{Carries}
use Rattle.client_heap.proofs.Commits.{holds_carries}

module _ (F : List Taken → Type 0) (m n : Bound Pass) (calm : Calm F m n) where
  calm_holds : Holds [] m n
  calm_holds = kept_holds is_fixed m n calm.kept

  calm_lasts : LastsAcross m n
  calm_lasts =
      lasts_by m n (calm_goes F m n calm)
      (subst (λ (q : Pass). Grows m.seat.me.pass q) (sym calm.kept.pass)
      (grows_still m.seat.me.pass))
      (let same = calm.kept.claims in omega (arith, same))

  pub calm_held : length n.seat.me.own.held ≡ length m.seat.me.own.held
  calm_held = let many = many_held m n [] calm_holds.held in omega (arith, many)

  pub calm_carries : (minor : Nursery) → IsOrdered 0 minor.records
      → Carries (length m.seat.me.own.held) m n minor minor
  calm_carries minor ordered =
      holds_carries m n minor [] calm_holds ordered calm_lasts
      (goes_same m n (calm_goes F m n calm))
