use Rattle.std.proofs.Common.{◌≡◌, ◌∙◌, ℕ, Result, OnOk, IfErr, OnErr, length, map}
use Rattle.std.proofs.Common.{refl, sym, ap, subst, arith}
use Rattle.std.specs.Prelude.{IfOk, slice_index_or}
use Rattle.std.proofs.lemmas.List.{length-map}
use Rattle.minor_heap.specs.declared.fields.MinorRef.{MinorRef}
use Rattle.mutator_seat.specs.declared.full.HeapFull.{HeapFull}
use Rattle.heap_rule.specs.Lore.{known_at}
use Rattle.mutator_seat.specs.Bound.{Bound, held_cells}
use Rattle.promotion.specs.Hinting.{Hinted}
use Rattle.promotion.specs.Linking.{KeepsCopies, LinksNothing}
use Rattle.promotion.specs.Promoting.{Adds, Collected, Refused}
use Rattle.promotion.specs.declared.promoter.Promoter.TheInside.{Inside}
use Rattle.promotion.proofs.Finishing.{collected_as, collected_keeps, collected_links, may_collect}
use Rattle.promotion.proofs.Finishing.{refused_as, refused_links}
use Rattle.promotion.proofs.Hinting.{hinted_kept}
use Rattle.promotion.proofs.promoter.Promoter.collect.Goals as goal
use Rattle.promotion.proofs.promoter.Promoter.collect.Goals.{in-Ok, in-Err}

pub returns-clause-collected : goal.returns-clause-collected
returns-clause-collected g c =
    let a = c.args.m.now in
    let b = c.copy_reached.new.m in
    let records = c.args.minor.now.records in
    let roots = c.args.roots.now in
    elim c.match-copy_reached.branch [
      | in-Ok w ↦
          let so = w.in-Ok.ensures in
          subst (λ (x : Result ℕ HeapFull).
          OnOk x (Collected a records roots c.args.base c.match-copy_reached.m)) (sym w.result-is)
          (subst (λ (m : Bound _). Collected a records roots c.args.base m) (sym w.m-is)
          (collected_as a b w.hold_roots.new.m w.keep.new.self so.grown records roots
          (λ r. slice_index_or c.copy_reached.new.places r.number 0) c.args.base
          w.held_len-first.result (length roots) w.hold_roots.ensures.appended
          (omega (arith, c.requires.base)) w.held_len-first.ensures.len refl so.none so.fit
          so.copied so.claims w.keep.ensures.told))
      | in-Err w ↦
          subst (λ (x : Result ℕ HeapFull).
          OnOk x (Collected a records roots c.args.base c.match-copy_reached.m))
          (sym w.result-is) tt
    ]

pub returns-clause-full : goal.returns-clause-full
returns-clause-full g c =
    let a = c.args.m.now in
    let b = c.copy_reached.new.m in
    elim c.match-copy_reached.branch [
      | in-Ok w ↦
          subst (λ (x : Result ℕ HeapFull).
          IfErr x (λ full. Refused a full c.match-copy_reached.m)) (sym w.result-is) tt
      | in-Err w ↦
          subst (λ (x : Result ℕ HeapFull).
          IfErr x (λ full. Refused a full c.match-copy_reached.m)) (sym w.result-is)
          (subst (λ (m : Bound _). Refused a w.in-Err.full m) (sym w.m-is)
          (refused_as a b w.give_back.new.m w.in-Err.full c.held_len-held.result
          w.in-Err.ensures.full c.held_len-held.ensures.len w.give_back.ensures.same
          w.give_back.ensures.cut))
    ]

pub returns-clause-unlinked : goal.returns-clause-unlinked
returns-clause-unlinked g c =
    let a = c.args.m.now in
    let b = c.copy_reached.new.m in
    let F = LinksNothing a.seat.me.number (length a.seat.me.own.held) in
    elim c.match-copy_reached.branch [
      | in-Ok w ↦
          subst (λ (x : Result ℕ HeapFull). OnErr x (Adds F a c.match-copy_reached.m))
          (sym w.result-is) tt
      | in-Err w ↦
          subst (λ (x : Result ℕ HeapFull). OnErr x (Adds F a c.match-copy_reached.m))
          (sym w.result-is)
          (subst (λ (m : Bound _). Adds F a m) (sym w.m-is)
          (refused_links a b w.give_back.new.m w.in-Err.full c.held_len-held.result
          w.in-Err.ensures.full c.copy_reached.ensures.copies c.held_len-held.ensures.len
          w.give_back.ensures.same w.give_back.ensures.cut))
    ]

pub returns-clause-copies : goal.returns-clause-copies
returns-clause-copies g c =
    let a = c.args.m.now in
    let b = c.copy_reached.new.m in
    let roots = c.args.roots.now in
    let places = c.copy_reached.new.places in
    let F = KeepsCopies a.seat.me.number c.args.base (length a.seat.me.own.held) in
    elim c.match-copy_reached.branch [
      | in-Ok w ↦
          subst (λ (x : Result ℕ HeapFull). OnOk x (Adds F a c.match-copy_reached.m))
          (sym w.result-is)
          (subst (λ (m : Bound _). Adds F a m) (sym w.m-is)
          (collected_links a b w.hold_roots.new.m w.keep.new.self w.in-Ok.ensures.grown
          (map (λ r. slice_index_or (held_cells b) (slice_index_or places r.number 0) 0) roots)
          (map (λ r. known_at b.seat.me.known (slice_index_or places r.number 0)) roots)
          w.hold_roots.ensures.appended c.args.base w.held_len-first.result (length roots)
          (omega (arith, c.requires.base)) c.copy_reached.ensures.copies w.keep.ensures.told))
      | in-Err w ↦
          subst (λ (x : Result ℕ HeapFull). OnOk x (Adds F a c.match-copy_reached.m))
          (sym w.result-is) tt
    ]

pub returns-clause-hinted : goal.returns-clause-hinted
returns-clause-hinted g c =
    let a = c.args.m.now in
    let b = c.copy_reached.new.m in
    let records = c.args.minor.now.records in
    let roots = c.args.roots.now in
    let places = c.copy_reached.new.places in
    let before = c.args.hints.now in
    let after = c.copy_reached.new.hints in
    elim c.match-copy_reached.branch [
      | in-Ok w ↦
          subst (λ (x : Result ℕ HeapFull).
          OnOk x (Hinted a records roots before after c.match-copy_reached.m)) (sym w.result-is)
          (subst (λ (m : Bound _). Hinted a records roots before after m) (sym w.m-is)
          (hinted_kept records roots before after a b w.keep.new.self w.in-Ok.ensures.hinted
          (collected_keeps a b w.hold_roots.new.m w.keep.new.self w.in-Ok.ensures.grown
          (map (λ r. slice_index_or (held_cells b) (slice_index_or places r.number 0) 0) roots)
          (map (λ r. known_at b.seat.me.known (slice_index_or places r.number 0)) roots)
          w.hold_roots.ensures.appended 0 c.args.base w.held_len-first.result (length roots)
          (omega arith) (omega arith) w.keep.ensures.told)))
      | in-Err w ↦
          subst (λ (x : Result ℕ HeapFull).
          OnOk x (Hinted a records roots before after c.match-copy_reached.m)) (sym w.result-is) tt
    ]

pub keep-requires : goal.keep-requires
keep-requires g c =
    let b = c.copy_reached.new.m in
    let roots = c.args.roots.now in
    let places = c.copy_reached.new.places in
    record {
      may = may_collect c.args.m.now b c.hold_roots.new.m c.in-Ok.ensures.grown
          (map (λ r. slice_index_or (held_cells b) (slice_index_or places r.number 0) 0) roots)
          (map (λ r. known_at b.seat.me.known (slice_index_or places r.number 0)) roots)
          c.hold_roots.ensures.appended c.args.base c.held_len-first.result (length roots)
          (length c.args.minor.now.records) c.requires.inside c.requires.some c.requires.base
          c.held_len-first.ensures.len (sym (length-map roots (λ (r : MinorRef).
          slice_index_or (held_cells b) (slice_index_or places r.number 0) 0))) c.requires.room;
    }

pub returns-clause-base : goal.returns-clause-base
returns-clause-base g c =
    elim c.match-copy_reached.branch [
      | in-Ok w ↦
          subst (λ (x : Result ℕ HeapFull). IfOk x (λ first. first ≡ c.args.base))
          (sym w.result-is) refl
      | in-Err w ↦
          subst (λ (x : Result ℕ HeapFull). IfOk x (λ first. first ≡ c.args.base))
          (sym w.result-is) tt
    ]

pub returns-clause-room : goal.returns-clause-room
returns-clause-room g c =
    elim c.match-copy_reached.branch [
      | in-Ok w ↦ ap (λ (s : Inside). s.room) w.self-inside-is ∙ c.self.view_is
      | in-Err w ↦ ap (λ (s : Inside). s.room) w.self-inside-is ∙ c.self.view_is
    ]

pub returns-clause-queue : goal.returns-clause-queue
returns-clause-queue g c = c.copy_reached.ensures.queue

pub returns-clause-takes : goal.returns-clause-takes
returns-clause-takes g c = c.copy_reached.ensures.takes
