-- What each event needs, read off its test (`KIND_needs`), and that a mutator's event which has it
-- can happen (`can_KIND`).
use Rattle.std.proofs.Common.{◌≡◌, ℕ, true, not, Option, Some, None, is_none, refl}
use Rattle.std.proofs.lemmas.Bool.{and_parts, ltb-true, leb-true, eqb-true, not-true, and_from}
use Rattle.std.proofs.lemmas.Bool.{lt-ltb, le-leb, not_from_false}
use Rattle.cell_words.specs.declared.controls.Stage.{Stage}
use Rattle.cell_words.specs.declared.controls.Stage.TheVariants as stage
use Rattle.cell_words.specs.declared.fields.Field.{Field}
use Rattle.core_machine.specs.declared.progress.Scanning.{Scanning}
use Rattle.core_machine.specs.declared.progress.Sweeping.{Sweeping}
use Rattle.core_machine.specs.declared.progress.Sweeping.TheVariants as sweeping
use Rattle.core_machine.specs.Conditions.{CanComeIn, CanLook, CanRead, CanFetch, CanMark, CanWrite}
use Rattle.core_machine.specs.Conditions.{CanStore, CanClaim, CanFill, CanSeal, CanAnswer, CanKeep}
use Rattle.core_machine.specs.Conditions.{CanPostIdle, CanPostSync1}
use Rattle.core_machine.specs.Conditions.{CanPostClear, CanPostSync2, CanPostTrace, CanPostSweep}
use Rattle.core_machine.specs.Conditions.{CanPoll, CanAnswerOut, CanClear, CanMarkAnchor, CanSee}
use Rattle.core_machine.specs.Conditions.{CanScan, CanShade, CanBlacken, CanSweepLook, CanAdvance}
use Rattle.core_machine.specs.Handshakes.{post_can, poll_can, answer_out_can}
use Rattle.core_machine.specs.Mutation.{mark_can, write_can, store_can, claim_can, fill_can}
use Rattle.core_machine.specs.Mutation.{seal_can}
use Rattle.core_machine.specs.Operations.{may_begin, look_can, read_can, fetch_can, answer_can}
use Rattle.core_machine.specs.Operations.{keep_can}
use Rattle.cell_words.specs.declared.fields.Kind.{Kind}
use Rattle.core_machine.specs.declared.events.Event.TheVariants as event
use Rattle.core_machine.specs.Next.{can}
use Rattle.core_machine.specs.State.{State}
use Rattle.core_machine.specs.Sweep.{is_fresh, is_done, sweep_look_can, advance_can}
use Rattle.core_machine.specs.Tracing.{may_scan, may_shade, may_blacken, clear_can, anchor_can}
use Rattle.core_machine.specs.Tracing.{see_can, scan_can, shade_can, blacken_can}
use Rattle.core_machine.specs.Words.{same_stage}

-- Of a mutator. A chain of tests falls apart from its end.

pub come_in_needs : (s : State) (i : ℕ) → may_begin s i ≡ true → CanComeIn s i
come_in_needs s i h = let p = and_parts _ _ h in
    record { out = not-true _ p.0; not_over = not-true _ p.1 }

pub look_needs : (s : State) (i : ℕ) → look_can s i ≡ true → CanLook s i
look_needs s i h =
    let p = and_parts _ _ h in
    record { inside = p.0; nothing_pending = not-true _ p.1 }

pub read_needs : (s : State) (i place f : ℕ) → read_can s i place f ≡ true → CanRead s i place f
read_needs s i place f h =
    let r = and_parts _ _ h in
    let q = and_parts _ _ r.0 in
    let p = and_parts _ _ q.0 in
    record {
      inside = p.0;
      there = ltb-true _ _ p.1;
      payload = leb-true _ _ q.1;
      room = ltb-true _ _
          r.1;
    }

pub fetch_needs : (s : State) (i place f : ℕ) → fetch_can s i place f ≡ true → CanFetch s i place f
fetch_needs s i place f h =
    let room = and_parts _ _ h in
    let box = and_parts _ _ room.0 in
    let payload = and_parts _ _ box.0 in
    let place = and_parts _ _ payload.0 in
    let lets = and_parts _ _ place.0 in
    let pending = and_parts _ _ lets.0 in
    record {
      inside = pending.0;
      nothing_pending = not-true _ pending.1;
      lets = lets.1;
      there = ltb-true _ _ place.1;
      payload = leb-true _ _ payload.1;
      room = ltb-true _ _ room.1;
      box = box.1;
    }

pub mark_needs : (s : State) (i place : ℕ) → mark_can s i place ≡ true → CanMark s i place
mark_needs s i place h =
    let q = and_parts _ _ h in
    let p = and_parts _ _ q.0 in
    record { inside = p.0; there = ltb-true _ _ p.1; barrier = q.1 }

pub write_needs : (s : State) (i place f : ℕ) (old new : Field) → write_can s i place f old new
    ≡ true
    → CanWrite s i place f old new
write_needs s i place f old new h =
    let marks = and_parts _ _ h in
    let sealed = and_parts _ _ marks.0 in
    let fresh = and_parts _ _ sealed.0 in
    let stale = and_parts _ _ fresh.0 in
    let box = and_parts _ _ stale.0 in
    let payload = and_parts _ _ box.0 in
    let place = and_parts _ _ payload.0 in
    let pending = and_parts _ _ place.0 in
    let mode = and_parts _ _ pending.0 in
    record {
      inside = mode.0;
      mode = mode.1;
      nothing_pending = not-true _ pending.1;
      there = ltb-true _ _ place.1;
      payload = leb-true _ _ payload.1;
      names_old = stale.1;
      names_new = fresh.1;
      marks = marks.1;
      box = box.1;
      sealed = not-true _ sealed.1;
    }

pub store_needs : (s : State) (i : ℕ) (new : Field) → store_can s i new ≡ true → CanStore s i new
store_needs s i new h =
    let marks = and_parts _ _ h in
    let sealed = and_parts _ _ marks.0 in
    let names = and_parts _ _ sealed.0 in
    let begun = and_parts _ _ names.0 in
    record {
      inside = begun.0;
      begun = begun.1;
      names = names.1;
      marks = marks.1;
      sealed = not-true _ sealed.1;
    }

pub claim_needs : (s : State) (i c : ℕ) → claim_can s i c ≡ true → CanClaim s i c
claim_needs s i c h =
    let room = and_parts _ _ h in
    let cell = and_parts _ _ room.0 in
    let pending = and_parts _ _ cell.0 in
    let mode = and_parts _ _ pending.0 in
    record {
      inside = mode.0;
      mode = mode.1;
      nothing_pending = not-true _ pending.1;
      cell = ltb-true _ _ cell.1;
      room = ltb-true _ _ room.1;
    }

pub fill_needs : (s : State) (i place f : ℕ) (value : Field) → fill_can s i place f value ≡ true
    → CanFill s i place f value
fill_needs s i place f value h =
    let clear = and_parts _ _ h in
    let sealed = and_parts _ _ clear.0 in
    let names = and_parts _ _ sealed.0 in
    let payload = and_parts _ _ names.0 in
    let raw = and_parts _ _ payload.0 in
    let place = and_parts _ _ raw.0 in
    record {
      inside = place.0;
      there = ltb-true _ _ place.1;
      payload = leb-true _ _ payload.1;
      names = names.1;
      raw = raw.1;
      sealed = not-true _ sealed.1;
      clear = not-true _ clear.1;
    }

pub seal_needs : (s : State) (i place : ℕ) → seal_can s i place ≡ true → CanSeal s i place
seal_needs s i place h =
    let q = and_parts _ _ h in
    let p = and_parts _ _ q.0 in
    record { inside = p.0; there = ltb-true _ _ p.1; raw = q.1 }

pub answer_needs : (s : State) (i : ℕ) → answer_can s i ≡ true → CanAnswer s i
answer_needs s i h =
    let third = and_parts _ _ h in
    let requested = and_parts _ _ third.0 in
    let pending = and_parts _ _ requested.0 in
    record {
      inside = pending.0;
      nothing_pending = not-true _ pending.1;
      requested = requested.1;
      third = third.1;
    }

pub keep_needs : (s : State) (i count from copies : ℕ) → keep_can s i count from copies ≡ true
    → CanKeep s i count from copies
keep_needs s i count from copies h =
    let r = and_parts _ _ h in
    let q = and_parts _ _ r.0 in
    let p = and_parts _ _ q.0 in
    let o = and_parts _ _ p.0 in
    let pending = and_parts _ _ o.0 in
    record {
      inside = pending.0;
      nothing_pending = not-true _ pending.1;
      some = leb-true _ _ o.1;
      kept = leb-true _ _ p.1;
      copied = leb-true _ _ q.1;
      room = leb-true _ _ r.1;
    }

-- Of the collector.

pub same_stage_is : (a b : Stage) → same_stage a b ≡ true → a ≡ b
same_stage_is stage.Idle stage.Idle is = refl
same_stage_is stage.Sync1 stage.Sync1 is = refl
same_stage_is stage.Clear stage.Clear is = refl
same_stage_is stage.Sync2 stage.Sync2 is = refl
same_stage_is stage.Trace stage.Trace is = refl
same_stage_is stage.Sweep stage.Sweep is = refl
same_stage_is _ _ is = cc

pub post_idle_needs : (s : State) → post_can s stage.Idle ≡ true → CanPostIdle s
post_idle_needs s h =
    let p = and_parts _ _ h in
    record { now = same_stage_is _ _ p.0; end = eqb-true _ _ p.1 }

pub post_sync1_needs : (s : State) → post_can s stage.Sync1 ≡ true → CanPostSync1 s
post_sync1_needs s h =
    let p = and_parts _ _ h in
    record { now = same_stage_is _ _ p.0; cycles = ltb-true _ _ p.1 }

pub post_clear_needs : (s : State) → post_can s stage.Clear ≡ true → CanPostClear s
post_clear_needs s h =
    let p = and_parts _ _ h in
    record { now = same_stage_is _ _ p.0; answered = p.1 }

pub post_sync2_needs : (s : State) → post_can s stage.Sync2 ≡ true → CanPostSync2 s
post_sync2_needs s h =
    let p = and_parts _ _ h in
    record { now = same_stage_is _ _ p.0; end = eqb-true _ _ p.1 }

pub post_trace_needs : (s : State) → post_can s stage.Trace ≡ true → CanPostTrace s
post_trace_needs s h =
    let q = and_parts _ _ h in
    let p = and_parts _ _ q.0 in
    record { now = same_stage_is _ _ p.0; answered = p.1; anchor = q.1 }

pub post_sweep_needs : (s : State) → post_can s stage.Sweep ≡ true → CanPostSweep s
post_sweep_needs s h =
    let clean = and_parts _ _ h in
    let end = and_parts _ _ clean.0 in
    let scan = and_parts _ _ end.0 in
    let p = and_parts _ _ scan.0 in
    record {
      now = same_stage_is _ _ p.0;
      answered = p.1;
      no_scan = scan.1;
      end = eqb-true _ _ end.1;
      clean = clean.1;
    }

pub poll_needs : (s : State) (i : ℕ) → poll_can s i ≡ true → CanPoll s i
poll_needs s i h = let p = and_parts _ _ h in record { handshake = p.0; mutator = ltb-true _ _ p.1 }

pub answer_out_needs : (s : State) (i : ℕ) → answer_out_can s i ≡ true → CanAnswerOut s i
answer_out_needs s i h =
    let q = and_parts _ _ h in
    let p = and_parts _ _ q.0 in
    record { handshake = p.0; mutator = ltb-true _ _ p.1; unanswered = not-true _ q.1 }

pub clear_needs : (s : State) → clear_can s ≡ true → CanClear s
clear_needs s h = let p = and_parts _ _ h in
    record { now = same_stage_is _ _ p.0; cell = ltb-true _ _ p.1 }

pub anchor_needs : (s : State) → anchor_can s ≡ true → CanMarkAnchor s
anchor_needs s h = let p = and_parts _ _ h in record { now = same_stage_is _ _ p.0; answered = p.1 }

pub see_needs : (s : State) (c : ℕ) → see_can s c ≡ true → CanSee s c
see_needs s c h =
    let r = and_parts _ _ h in
    let q = and_parts _ _ r.0 in
    let p = and_parts _ _ q.0 in
    record { now = same_stage_is _ _ p.0; answered = p.1; no_scan = q.1; cell = ltb-true _ _ r.1 }

-- Where the test of a scan holds there is one.

scan_from : (s : State) (scan : Option Scanning) → s.collector.scan ≡ scan → may_scan scan ≡ true
    → (x : Scanning) × CanScan s x
scan_from s None is h = absurd cc
scan_from s (Some x) is h =
    let p = and_parts _ _ h in
    (x, record { now = is; field = ltb-true _ _ p.0; no_child = p.1 })

pub scan_needs : (s : State) → scan_can s ≡ true → (x : Scanning) × CanScan s x
scan_needs s h = scan_from s s.collector.scan refl h

child_from : (s : State) (x : Scanning) (child : Option ℕ) → s.collector.scan ≡ Some x → x.child
    ≡ child
    → not (is_none child) ≡ true → (c : ℕ) × CanShade s x c
child_from s x None is at h = absurd cc
child_from s x (Some c) is at h = (c, record { now = is; found = at })

shade_from : (s : State) (scan : Option Scanning) → s.collector.scan ≡ scan → may_shade scan ≡ true
    → (x : Scanning) × ((c : ℕ) × CanShade s x c)
shade_from s None is h = absurd cc
shade_from s (Some x) is h = (x, child_from s x x.child is refl h)

pub shade_needs : (s : State) → shade_can s ≡ true → (x : Scanning) × ((c : ℕ) × CanShade s x c)
shade_needs s h = shade_from s s.collector.scan refl h

blacken_from : (s : State) (scan : Option Scanning) → s.collector.scan ≡ scan → may_blacken scan
    ≡ true
    → (x : Scanning) × CanBlacken s x
blacken_from s None is h = absurd cc
blacken_from s (Some x) is h = (x, record { now = is; end = eqb-true _ _ h })

pub blacken_needs : (s : State) → blacken_can s ≡ true → (x : Scanning) × CanBlacken s x
blacken_needs s h = blacken_from s s.collector.scan refl h

pub fresh_is : (sweep : Sweeping) → is_fresh sweep ≡ true → sweep ≡ sweeping.Fresh
fresh_is sweeping.Fresh h = refl
fresh_is (sweeping.Wiping k) h = absurd cc
fresh_is sweeping.BlackFound h = absurd cc
fresh_is sweeping.Done h = absurd cc

pub done_is : (sweep : Sweeping) → is_done sweep ≡ true → sweep ≡ sweeping.Done
done_is sweeping.Fresh h = absurd cc
done_is (sweeping.Wiping k) h = absurd cc
done_is sweeping.BlackFound h = absurd cc
done_is sweeping.Done h = refl

pub sweep_look_needs : (s : State) → sweep_look_can s ≡ true → CanSweepLook s
sweep_look_needs s h =
    let r = and_parts _ _ h in
    let q = and_parts _ _ r.0 in
    let p = and_parts _ _ q.0 in
    record {
      now = same_stage_is _ _ p.0;
      cell = ltb-true _ _ p.1;
      fresh = fresh_is _ q.1;
      not_gray = not-true _ r.1;
    }

pub advance_needs : (s : State) → advance_can s ≡ true → CanAdvance s
advance_needs s h =
    let q = and_parts _ _ h in
    let p = and_parts _ _ q.0 in
    record { now = same_stage_is _ _ p.0; cell = ltb-true _ _ p.1; done = done_is _ q.1 }

-- The other way: where an event has what it needs, it can happen.

pub can_begin : (s : State) (i : ℕ) → CanComeIn s i → can s (event.Begin i) ≡ true
can_begin s i needs = and_from _ _ (not_from_false _ needs.out) (not_from_false _ needs.not_over)

pub can_look : (s : State) (i : ℕ) → CanLook s i → can s (event.Look i) ≡ true
can_look s i needs = and_from _ _ needs.inside (not_from_false _ needs.nothing_pending)

pub can_read : (s : State) (i place f : ℕ) → CanRead s i place f
    → can s (event.Read i place f) ≡ true
can_read s i place f needs =
    and_from _ _ (and_from _ _ (and_from _ _ needs.inside (lt-ltb _ _ needs.there))
    (le-leb _ _ needs.payload))
    (lt-ltb _ _ needs.room)

pub can_fetch : (s : State) (i place f : ℕ) → CanFetch s i place f
    → can s (event.Fetch i place f) ≡ true
can_fetch s i place f needs =
    let settled = and_from _ _ needs.inside (not_from_false _ needs.nothing_pending) in
    let held = and_from _ _ (and_from _ _ settled needs.lets) (lt-ltb _ _ needs.there) in
    let box = and_from _ _ (and_from _ _ held (le-leb _ _ needs.payload)) needs.box in
    and_from _ _ box (lt-ltb _ _ needs.room)

pub can_mark : (s : State) (i place : ℕ) → CanMark s i place → can s (event.Mark i place) ≡ true
can_mark s i place needs =
    and_from _ _ (and_from _ _ needs.inside (lt-ltb _ _ needs.there)) needs.barrier

pub can_write : (s : State) (i place f : ℕ) (old new : Field) → CanWrite s i place f old new
    → can s (event.Write i place f old new) ≡ true
can_write s i place f old new needs =
    let settled = and_from _ _ (and_from _ _ needs.inside needs.mode)
    (not_from_false _ needs.nothing_pending) in
    let held = and_from _ _ settled (lt-ltb _ _ needs.there) in
    let box = and_from _ _ (and_from _ _ held (le-leb _ _ needs.payload)) needs.box in
    let names = and_from _ _ (and_from _ _ box needs.names_old) needs.names_new in
    and_from _ _ (and_from _ _ names (not_from_false _ needs.sealed)) needs.marks

pub can_store : (s : State) (i : ℕ) (new : Field) → CanStore s i new
    → can s (event.Store i new) ≡ true
can_store s i new needs =
    let names = and_from _ _ (and_from _ _ needs.inside needs.begun) needs.names in
    and_from _ _ (and_from _ _ names (not_from_false _ needs.sealed)) needs.marks

pub can_claim : (s : State) (i c : ℕ) → CanClaim s i c → can s (event.Claim i c) ≡ true
can_claim s i c needs =
    let settled = and_from _ _ (and_from _ _ needs.inside needs.mode)
    (not_from_false _ needs.nothing_pending) in
    and_from _ _ (and_from _ _ settled (lt-ltb _ _ needs.cell)) (lt-ltb _ _ needs.room)

pub can_fill : (s : State) (i place f : ℕ) (value : Field) → CanFill s i place f value
    → can s (event.Fill i place f value) ≡ true
can_fill s i place f value needs =
    let raw = and_from _ _ (and_from _ _ needs.inside (lt-ltb _ _ needs.there)) needs.raw in
    let names = and_from _ _ (and_from _ _ raw (le-leb _ _ needs.payload)) needs.names in
    and_from _ _ (and_from _ _ names (not_from_false _ needs.sealed)) (not_from_false _ needs.clear)

pub can_seal : (s : State) (i place : ℕ) (kind : Kind) → CanSeal s i place
    → can s (event.Seal i place kind) ≡ true
can_seal s i place kind needs = and_from _ _
    (and_from _ _ needs.inside (lt-ltb _ _ needs.there)) needs.raw

pub can_answer : (s : State) (i : ℕ) → CanAnswer s i → can s (event.Answer i) ≡ true
can_answer s i needs =
    let settled = and_from _ _ needs.inside (not_from_false _ needs.nothing_pending) in
    and_from _ _ (and_from _ _ settled needs.requested) needs.third

pub can_keep : (s : State) (i count from copies : ℕ) → CanKeep s i count from copies
    → can s (event.Keep i count from copies) ≡ true
can_keep s i count from copies needs =
    let settled = and_from _ _ needs.inside (not_from_false _ needs.nothing_pending) in
    let kept = and_from _ _ (and_from _ _ settled (le-leb _ _ needs.some))
    (le-leb _ _ needs.kept) in
    and_from _ _ (and_from _ _ kept (le-leb _ _ needs.copied)) (le-leb _ _ needs.room)

pub can_over : (s : State) (i : ℕ) → CanComeIn s i → can s (event.Over i) ≡ true
can_over s i needs = and_from _ _ (not_from_false _ needs.out) (not_from_false _ needs.not_over)
