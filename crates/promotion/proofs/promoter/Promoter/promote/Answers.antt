use Rattle.std.proofs.Common.{◌≡◌, ◌∙◌, ◌∷◌, ℕ, Result, OnOk, IfErr, OnErr, List, [], length}
use Rattle.std.proofs.Common.{sym, ap, subst, arith}
use Rattle.std.specs.Prelude.{IfOk, slice_index_or}
use Rattle.heap_rule.specs.Facts.{is_term}
use Rattle.minor_heap.specs.declared.fields.MinorRef.{MinorRef}
use Rattle.mutator_seat.specs.declared.full.HeapFull.{HeapFull}
use Rattle.mutator_seat.specs.Bound.{Bound}
use Rattle.promotion.specs.Hinting.{Hinted}
use Rattle.promotion.specs.Linking.{KeepsCopies, LinksNothing}
use Rattle.promotion.specs.Promoting.{Adds, Promoted, Refused}
use Rattle.promotion.specs.declared.promoter.Promoter.TheInside.{Inside}
use Rattle.promotion.proofs.Finishing.{may_promote, promoted_as, promoted_links, refused_as}
use Rattle.promotion.proofs.Finishing.{refused_links}
use Rattle.promotion.proofs.Hinting.{hinted_kept}
use Rattle.promotion.proofs.Linked.{keeping_event}
use Rattle.promotion.proofs.promoter.Promoter.promote.Goals as goal
use Rattle.promotion.proofs.promoter.Promoter.promote.Goals.{in-Ok, in-Err}

pub keep-requires : goal.keep-requires
keep-requires g c =
    let a = c.args.m.now in
    let b = c.copy_reached.new.m in
    let so = c.in-Ok.ensures in
    let at = so.copied 0 c.args.r (omega arith) in
    record {
      may = may_promote a b so.grown c.held_len-held.result
          (slice_index_or c.copy_reached.new.places c.args.r.number 0)
          (length c.args.minor.now.records) c.requires.inside
          (c.held_len-held.ensures.some c.requires.inside) c.held_len-held.ensures.len
          (omega (arith, c.requires.room, c.held_len-held.ensures.len))
          (omega (arith, c.requires.stands))
          (so.fit (omega arith)) (ap is_term at);
    }

pub returns-clause-promoted : goal.returns-clause-promoted
returns-clause-promoted g c =
    let a = c.args.m.now in
    let b = c.copy_reached.new.m in
    let records = c.args.minor.now.records in
    let r = c.args.r in
    elim c.match-copy_reached.branch [
      | in-Ok w ↦
          let so = w.in-Ok.ensures in
          let place = slice_index_or c.copy_reached.new.places r.number 0 in
          let at = so.copied 0 r (omega arith) in
          subst (λ (x : Result ℕ HeapFull). OnOk x (Promoted a records r c.match-copy_reached.m))
          (sym w.result-is)
          (subst (λ (m : Bound _). Promoted a records r m) (sym w.m-is)
          (promoted_as a b w.keep.new.self so.grown records r c.held_len-held.result place
          c.held_len-held.ensures.len (so.fit (omega arith)) at so.claims w.keep.ensures.told))
      | in-Err w ↦
          subst (λ (x : Result ℕ HeapFull). OnOk x (Promoted a records r c.match-copy_reached.m))
          (sym w.result-is) tt
    ]

pub returns-clause-full : goal.returns-clause-full
returns-clause-full g c =
    let a = c.args.m.now in
    let b = c.copy_reached.new.m in
    elim c.match-copy_reached.branch [
      | in-Ok w ↦
          subst (λ (x : Result ℕ HeapFull).
          IfErr x (λ full. Refused a full c.match-copy_reached.m)) (sym w.result-is) tt
      | in-Err w ↦
          subst (λ (x : Result ℕ HeapFull).
          IfErr x (λ full. Refused a full c.match-copy_reached.m)) (sym w.result-is)
          (subst (λ (m : Bound _). Refused a w.in-Err.full m) (sym w.m-is)
          (refused_as a b w.give_back.new.m w.in-Err.full c.held_len-held.result
          w.in-Err.ensures.full c.held_len-held.ensures.len w.give_back.ensures.same
          w.give_back.ensures.cut))
    ]

pub returns-clause-unlinked : goal.returns-clause-unlinked
returns-clause-unlinked g c =
    let a = c.args.m.now in
    let b = c.copy_reached.new.m in
    let F = LinksNothing a.seat.me.number (length a.seat.me.own.held) in
    elim c.match-copy_reached.branch [
      | in-Ok w ↦
          subst (λ (x : Result ℕ HeapFull). OnErr x (Adds F a c.match-copy_reached.m))
          (sym w.result-is) tt
      | in-Err w ↦
          subst (λ (x : Result ℕ HeapFull). OnErr x (Adds F a c.match-copy_reached.m))
          (sym w.result-is)
          (subst (λ (m : Bound _). Adds F a m) (sym w.m-is)
          (refused_links a b w.give_back.new.m w.in-Err.full c.held_len-held.result
          w.in-Err.ensures.full c.copy_reached.ensures.copies c.held_len-held.ensures.len
          w.give_back.ensures.same w.give_back.ensures.cut))
    ]

pub returns-clause-copies : goal.returns-clause-copies
returns-clause-copies g c =
    let a = c.args.m.now in
    let b = c.copy_reached.new.m in
    let held = length a.seat.me.own.held in
    let F = KeepsCopies a.seat.me.number held held in
    elim c.match-copy_reached.branch [
      | in-Ok w ↦
          subst (λ (x : Result ℕ HeapFull). OnOk x (Adds F a c.match-copy_reached.m))
          (sym w.result-is)
          (subst (λ (m : Bound _). Adds F a m) (sym w.m-is)
          (promoted_links a b w.keep.new.self w.in-Ok.ensures.grown c.held_len-held.result
          (slice_index_or c.copy_reached.new.places c.args.r.number 0)
          c.held_len-held.ensures.len c.copy_reached.ensures.copies w.keep.ensures.told))
      | in-Err w ↦
          subst (λ (x : Result ℕ HeapFull). OnOk x (Adds F a c.match-copy_reached.m))
          (sym w.result-is) tt
    ]

pub returns-clause-hinted : goal.returns-clause-hinted
returns-clause-hinted g c =
    let a = c.args.m.now in
    let b = c.copy_reached.new.m in
    let records = c.args.minor.now.records in
    let before = c.args.hints.now in
    let after = c.copy_reached.new.hints in
    let roots : List MinorRef = c.args.r ∷ [] in
    elim c.match-copy_reached.branch [
      | in-Ok w ↦
          subst (λ (x : Result ℕ HeapFull).
          OnOk x (Hinted a records roots before after c.match-copy_reached.m)) (sym w.result-is)
          (subst (λ (m : Bound _). Hinted a records roots before after m) (sym w.m-is)
          (hinted_kept records roots before after a b w.keep.new.self w.in-Ok.ensures.hinted
          (keeping_event a.seat.me.number 0 b w.keep.new.self c.held_len-held.result
          (slice_index_or c.copy_reached.new.places c.args.r.number 0) 1
          w.in-Ok.ensures.grown.stays.number (omega arith) w.keep.ensures.told)))
      | in-Err w ↦
          subst (λ (x : Result ℕ HeapFull).
          OnOk x (Hinted a records roots before after c.match-copy_reached.m)) (sym w.result-is) tt
    ]

pub returns-clause-place : goal.returns-clause-place
returns-clause-place g c =
    let held = length c.args.m.now.seat.me.own.held in
    elim c.match-copy_reached.branch [
      | in-Ok w ↦
          subst (λ (x : Result ℕ HeapFull). IfOk x (λ place. place ≡ held)) (sym w.result-is)
          c.held_len-held.ensures.len
      | in-Err w ↦
          subst (λ (x : Result ℕ HeapFull). IfOk x (λ place. place ≡ held)) (sym w.result-is) tt
    ]

pub returns-clause-room : goal.returns-clause-room
returns-clause-room g c =
    elim c.match-copy_reached.branch [
      | in-Ok w ↦ ap (λ (s : Inside). s.room) w.self-inside-is ∙ c.self.view_is
      | in-Err w ↦ ap (λ (s : Inside). s.room) w.self-inside-is ∙ c.self.view_is
    ]

pub returns-clause-queue : goal.returns-clause-queue
returns-clause-queue g c = c.copy_reached.ensures.queue

pub returns-clause-takes : goal.returns-clause-takes
returns-clause-takes g c = c.copy_reached.ensures.takes
