-- The result of a run during which a version was dumped: from the opening and the parts of the run
-- to what is known where the heap is closed, and from there to all of it.
--
-- The guest is a client with an empty log. So the law of agreeing logs is cited with one log more,
-- and Without takes that log away again. What the guest's pass holds of a version fits the list of
-- versions that the heap has at its close (`Fits`), so its tree is that of the history.
use Rattle.std.proofs.Common.{◌≡◌, ◌<◌, ◌+◌, ◌++◌, ℕ, Bool, List, [], ◌∷◌}
use Rattle.std.proofs.Common.{length, map, take, Option, Some, None, refl, sym, ◌∙◌, ap, subst}
use Rattle.std.proofs.Common.{arith}
use Rattle.std.specs.List.{list_any}
use Rattle.std.specs.Prelude.{Vec}
use Rattle.std.specs.declared.alloc.Global.{Global}
use Rattle.std.proofs.Math.Seq.{take-append_seam}
use Rattle.std.proofs.lemmas.List.{length-append, length-map, length_push, map-append}
use Rattle.atomic_table.proofs.Lists.{at_last, at_longer}
use mathlib.Core.Option.{some}
use lib.ListN.{get_elem?}
use Rattle.beside_collector.proofs.Places.{all_both}
use Rattle.client_run.specs.Options.{IsWithin, client_limits, limits_of, shape_of}
use Rattle.client_run.specs.declared.options.Options.{Options}
use Rattle.client_session.specs.declared.journal.Limits.{Limits as ClientLimits}
use Rattle.client_threads.specs.Clients.{IsDone, places_for, store_limits}
use Rattle.client_threads.specs.Ends.{IsTiedTo}
use Rattle.client_threads.specs.Taken.{AllHadRoom, commands_in, has_failed, log_of}
use Rattle.client_threads.specs.declared.clients.Client.{Client}
use Rattle.client_threads.proofs.AtClose.{AtClose, agreed, tied}
use Rattle.client_threads.proofs.OneMore.{left_push, rooms_push}
use Rattle.client_threads.proofs.TakingBack.{HaveLeft, have_left_at}
use Rattle.client_history.specs.Runs.{ShowsRun}
use Rattle.doc_model.specs.Agreement.{Agree, rising}
use Rattle.doc_model.specs.ClientLog.{ClientLog}
use Rattle.doc_model.specs.declared.command.Command.{Command}
use Rattle.doc_model.proofs.Composes.{composes}
use Rattle.doc_tree.specs.Tree.{DocTree, count}
use Rattle.heap_rule.specs.Rule.{share_of}
use Rattle.heap_rule.specs.Shape.{Shape}
use Rattle.heap_rule.specs.declared.view.Place.TheVariants as places
use Rattle.heap_rule.specs.declared.view.Share.{Share}
use Rattle.heap_rule.specs.declared.view.View.{View}
use Rattle.heap_table.specs.Seats.{HeapId}
use Rattle.mutator_threads.proofs.EachDone.{all_so, part_at}
use Rattle.mutator_threads.specs.Closing.{HasCollected, joined_parts}
use Rattle.mutator_threads.specs.Mutators.{AreOver, IsOver, own_of, views_of}
use Rattle.mutator_threads.specs.declared.worker.Worker.{Worker}
use Rattle.client_history.specs.Agreed.{HasEnded}
use Rattle.client_history.specs.Left.{AreLeft}
use Rattle.client_history.proofs.Indices.{at_below, at_once, at_there, rising_at}
use Rattle.trails.specs.Marks.{marks_of}
use Rattle.version_rule.specs.Fits.{Fits, HasTree}
use Rattle.version_rule.specs.Pass.{Pass}
use Rattle.version_rule.specs.Tied.{Tied}
use Rattle.version_rule.proofs.Passing.{all_at}
use Rattle.doc_export.specs.Dumps.{Dumps}
use Rattle.doc_export.specs.Guests.{IsDumpOf, MayTell, Tells}
use Rattle.doc_export.specs.Parts.{MayDump}
use Rattle.doc_export.specs.Workers.{HaveWorked}
use Rattle.doc_export.specs.declared.guest.Copied.{Copied}
use Rattle.doc_export.proofs.Leaving.{guest_left, no_log}
use Rattle.doc_export.proofs.Without.{agree_without}

-- From what is known at the close, of the clients' logs and of one that is empty.
module _ (o : Options) (lists : List (List Command)) (logs : List ClientLog) (g : ClientLog)
    (none : g.entries ≡ []) (v : View Pass)
    (at : AtClose o (length lists + 1) (length lists + 1) (logs ++ g ∷ []) v)
    (answered : map commands_in logs ≡ lists) (words : List ℕ)
    (ended : HasEnded (shape_of o (length lists + 1)) words v) where
  many : length logs ≡ length lists
  many = sym (length-map logs commands_in) ∙ ap (λ (cs : List (List Command)). length cs) answered

  numbered : map (λ (log : ClientLog). log.client) logs ≡ rising 0 (length logs)
  numbered = rising_at (λ (log : ClientLog). log.client) logs 0 (λ i log log_at.
      let below = at_below logs i log log_at in
      let one = at.left i (omega (arith, below, many)) in
      let same = at_once (logs ++ g ∷ []) i one.log log one.log_at
      (at_longer logs (g ∷ []) i log log_at) in
      let is : log.client ≡ i + 1 =
      subst (λ (x : ClientLog). x.client ≡ i + 1) same one.left.client_is in
      omega (arith, is))

  tied_one : (i : ℕ) → i < length lists
      → IsTiedTo (limits_of o) o.cells (places_for o.minor) logs v.places i
  tied_one i lt =
      let t = tied o (length lists + 1) (length lists + 1) (logs ++ g ∷ []) words v at ended i
      (omega (arith, lt)) (omega arith) in
      let own = at_there logs i (omega (arith, lt, many)) in
      let same = at_once (logs ++ g ∷ []) i t.log own.0 t.log_at
      (at_longer logs (g ∷ []) i own.0 own.1) in
      record {
        log = own.0;
        log_at = own.1;
        share = t.share;
        share_at = t.share_at;
        room_is = t.room_is;
        tied = subst (λ (x : ClientLog). Tied (limits_of o) t.share.pass x) same t.tied;
        shows = subst (λ (x : ClientLog). ShowsRun o.cells x.entries (marks_of t.share.trail)) same
            t.shows;
      }

  agrees : Agree (limits_of o) ended.shows.kept.trees logs
  agrees = agree_without (limits_of o) ended.shows.kept.trees logs g none numbered
      (agreed o (length lists + 1) (length lists + 1) (logs ++ g ∷ []) words v at ended).agree

  module _ (share : Share Pass)
      (share_at : get_elem? v.places (length lists) ≡ some (places.Joined share))
      (commits : share.pass.commits ≡ []) (version nodes : ℕ) (bytes : Option (Vec ℕ Global))
      (told : Tells share.pass (marks_of share.trail) version nodes bytes) (freed : ℕ)
      (collected : HasCollected (shape_of o (length lists + 1)) o.cycles freed ended.shows.core
      v) where
    fits : Fits ended.shows.kept.trees share.pass
    fits =
        all_at (Fits ended.shows.kept.trees) ended.shows.passes (length lists) share.pass
        (ended.collector.joined (length lists) share share_at).pass
        ended.shows.kept.versions.fits

    has : HasTree ended.shows.kept.trees version told.tree
    has = told.fits ended.shows.kept.trees fits

    pub dumps : Dumps o lists logs v version nodes bytes
    dumps = record {
      clients = numbered ∙ ap (λ (n : ℕ). rising 0 n) many;
      answered = answered;
      words = words;
      ended = ended;
      tied = tied_one;
      agree = agrees;
      merged = λ entries merge.
          composes (limits_of o) ended.shows.kept.trees logs entries agrees merge;
      service = collected.service;
      cycles = collected.cycles_are;
      tidy = collected.tidy;
      taken = record {
        share = share;
        share_at = share_at;
        latest = told.latest;
        cell = told.cell;
        read = told.read;
        commits = commits;
      };
      there = has.there;
      counted = told.counted ∙ ap (λ (t : DocTree). count t) (sym has.is);
      dumped = subst (λ (t : DocTree). IsDumpOf version t bytes) (sym has.is) told.dumped;
    }

-- From the parts of the run: what all workers leave.
module _ (heap : HeapId) (limits : ClientLimits) (scripts : List (Vec Command Global))
    (workers : List (Worker Pass Client)) (copied : Option Copied)
    (w : HaveWorked heap limits scripts workers copied) where
  abbrev last : List (Worker Pass Client)
  last = w.guest ∷ []

  abbrev those : List (Worker Pass Client)
  those = w.clients ++ last

  pub all_over : AreOver heap workers
  all_over =
      let many = w.many in
      let here : length scripts ≡ 0 + length w.clients = omega (arith, many) in
      let through = w.through in
      let over : IsOver heap (length scripts) w.guest.seat = record {
        seat_is = through.seat_is;
        number_is = through.number_is;
        over = through.over;
      } in
      subst (λ (ws : List (Worker Pass Client)). AreOver heap ws) (sym w.workers_are)
      (all_both (λ number (c : Worker Pass Client). IsOver heap number c.seat) 0 w.clients last
      (all_so (λ (number : ℕ) (c : Worker Pass Client). IsDone heap limits scripts number c)
      (λ (number : ℕ) (c : Worker Pass Client). IsOver heap number c.seat)
      (λ number c done. done.is_over) 0 w.clients w.done)
      (subst (λ (k : ℕ). IsOver heap k w.guest.seat) here over, tt))

  pub all_workers : length workers ≡ length scripts + 1
  all_workers =
      ap (λ (ws : List (Worker Pass Client)). length ws) w.workers_are
      ∙ length_push w.clients w.guest ∙ ap (λ (k : ℕ). k + 1) w.many

  -- what the clients have of their own is what is left of all
  pub own_are : (all own : List Client) → all ≡ own_of workers → own ≡ take (length scripts) all
      → own ≡ own_of w.clients
  own_are all own all_is is =
      let theirs = own_of w.clients in
      let many : length scripts ≡ length theirs =
      sym w.many ∙ sym (length-map w.clients (λ (c : Worker Pass Client). c.own)) in
      is ∙ ap (λ (xs : List Client). take (length scripts) xs)
      (all_is ∙ ap (λ (ws : List (Worker Pass Client)). own_of ws) w.workers_are
      ∙ map-append (λ (c : Worker Pass Client). c.own) w.clients last)
      ∙ ap (λ (k : ℕ). take k (theirs ++ own_of last)) many
      ∙ take-append_seam theirs (own_of last)

  pub own_many : (all own : List Client) → all ≡ own_of workers
      → own ≡ take (length scripts) all → length own ≡ length scripts
  own_many all own all_is is =
      ap (λ (xs : List Client). length xs) (own_are all own all_is is)
      ∙ length-map w.clients (λ (c : Worker Pass Client). c.own) ∙ w.many

  -- where all seats were joined, and the logs of the clients taken
  module _ (all own : List Client) (all_is : all ≡ own_of workers)
      (own_is : own ≡ take (length scripts) all) (logs : List ClientLog) (failed : Bool)
      (logs_are : logs ≡ map log_of own) (failed_is : failed ≡ list_any has_failed own)
      (v : View Pass) (joined : v.places ≡ joined_parts (views_of workers)) where
    parts : v.places ≡ joined_parts (views_of those)
    parts =
        joined ∙ ap (λ (ws : List (Worker Pass Client)). joined_parts (views_of ws)) w.workers_are

    pub left : HaveLeft heap.shape.cells limits scripts logs failed v.places
    left =
        have_left_at heap limits scripts w.clients w.done w.many own logs failed v.places
        (λ i c at. part_at those v.places parts i c (at_longer w.clients last i c at))
        (own_are all own all_is own_is) logs_are failed_is

    guest_at : get_elem? v.places (length scripts)
        ≡ some (places.Joined (share_of w.guest.seat.me))
    guest_at =
        part_at those v.places parts (length scripts) w.guest
        (at_last w.clients w.guest (length scripts) w.many)

    abbrev whole : List ClientLog
    whole = logs ++ no_log (length scripts + 1) ∷ []

    left_all : AreLeft (store_limits limits) heap.shape.cells whole v.places (length scripts + 1)
    left_all =
        left_push (length scripts) v.places (share_of w.guest.seat.me) guest_at
        (store_limits limits) heap.shape.cells logs (no_log (length scripts + 1)) left.taken.many
        left.taken.left
        (guest_left heap limits (length scripts)
        (record { seat = w.guest.seat; copied = copied }) w.through)

    rooms_all : AllHadRoom (places_for limits.minor) v.places (length scripts + 1)
    rooms_all =
        rooms_push (length scripts) v.places (share_of w.guest.seat.me) guest_at
        (places_for limits.minor) left.taken.rooms w.through.room

    module _ (o : Options) (within : IsWithin o) (limits_are : limits ≡ client_limits o)
        (shape : heap.shape ≡ shape_of o (length scripts + 1)) where
      ends : AtClose o (length scripts + 1) (length scripts + 1) whole v
      ends =
          let longer = length-append logs (no_log (length scripts + 1) ∷ []) in
          let count = left.taken.many in
          record {
            least = omega arith;
            within = within;
            many = omega (arith, longer, count);
            left = subst (λ (h : Shape).
                AreLeft (limits_of o) h.cells whole v.places (length scripts + 1)) shape
                (subst (λ (l : ClientLimits). AreLeft (store_limits l) heap.shape.cells whole
                v.places (length scripts + 1)) limits_are left_all);
            rooms = subst (λ (l : ClientLimits).
                AllHadRoom (places_for l.minor) v.places (length scripts + 1)) limits_are rooms_all;
          }

      abbrev lists : List (List Command)
      lists = map commands_in logs

      count_is : length lists ≡ length scripts
      count_is = length-map logs commands_in ∙ left.taken.many

      module _ (words : List ℕ) (ended : HasEnded (shape_of o (length lists + 1)) words v)
          (freed : ℕ)
          (collected : HasCollected (shape_of o (length lists + 1)) o.cycles freed
          ended.shows.core v) where
        comes : (version nodes : ℕ) (bytes : Option (Vec ℕ Global))
            → Tells w.guest.seat.me.pass (marks_of w.guest.seat.me.trail) version nodes bytes
            → Dumps o lists logs v version nodes bytes
        comes version nodes bytes told =
            dumps o lists logs (no_log (length scripts + 1)) refl v
            (subst (λ (n : ℕ). AtClose o (n + 1) (n + 1) whole v) (sym count_is) ends) refl words
            ended (share_of w.guest.seat.me)
            (subst (λ (n : ℕ). get_elem? v.places n
            ≡ some (places.Joined (share_of w.guest.seat.me))) (sym count_is) guest_at)
            w.through.commits version nodes bytes told freed collected

        comes_if : (c : Option Copied)
            → MayTell w.guest.seat.me.pass (marks_of w.guest.seat.me.trail) c
            → MayDump o lists logs v c
        comes_if None told = tt
        comes_if (Some c) told = comes c.version c.count c.bytes told

      -- the heap's shape is that of the run
      pub may_dump : (words : List ℕ) (freed : ℕ) (ended : HasEnded heap.shape words v)
          → HasCollected heap.shape o.cycles freed ended.shows.core v
          → MayDump o lists logs v copied
      may_dump words freed =
          subst (λ (h : Shape). (ended : HasEnded h words v)
          → HasCollected h o.cycles freed ended.shows.core v → MayDump o lists logs v copied)
          (sym (shape ∙ ap (λ (n : ℕ). shape_of o (n + 1)) (sym count_is)))
          (λ ended collected. comes_if words ended freed collected copied w.through.tells)
