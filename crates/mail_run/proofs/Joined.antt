-- What is so at the close, where the harness has joined the seats of the senders and then that of
-- the receiver.
use Rattle.std.proofs.Common.{◌≡◌, ◌<◌, ◌+◌, ◌++◌, ℕ, zero, suc, List, [], ◌∷◌, length, take}
use Rattle.std.proofs.Common.{Option, refl, sym, ◌∙◌, ap, subst, arith}
use Rattle.std.specs.Prelude.{Vec}
use Rattle.std.specs.declared.alloc.Global.{Global}
use Rattle.std.proofs.Math.Seq.{take-append_seam}
use Rattle.std.proofs.lemmas.List.{length-map, length_push, map-append}
use Rattle.atomic_table.proofs.Lists.{at_last, at_longer, at_map}
use mathlib.Core.Option.{some}
use lib.ListN.{get_elem?}
use Rattle.beside_collector.specs.Scripts.{script_of}
use Rattle.beside_collector.proofs.Places.{all_both}
use Rattle.heap_rule.specs.Rule.{share_of}
use Rattle.heap_rule.specs.Shape.{Shape}
use Rattle.heap_rule.specs.declared.view.Place.{Place}
use Rattle.heap_rule.specs.declared.view.Place.TheVariants as places
use Rattle.heap_table.specs.Seats.{HeapId}
use Rattle.mail_rule.specs.Mail.{HoldsMail, is_fixed}
use Rattle.mail_rule.specs.Passes.{opening_pass}
use Rattle.mail_rule.specs.declared.mail_pass.MailPass.{MailPass}
use Rattle.mail_threads.specs.Opened.{mail_shape}
use Rattle.mail_threads.specs.Posts.{Posts}
use Rattle.mail_threads.specs.Receipts.{Empties, Receives}
use Rattle.mail_threads.specs.Taken.{lists_of}
use Rattle.mail_threads.specs.Workers.{HaveWorked, IsDone, Mailer}
use Rattle.mail_threads.specs.declared.workers.Received.{Received}
use Rattle.mail_run.specs.Closed.{AreThrough, IsClosed}
use Rattle.mail_run.specs.Comes.{lines_in}
use Rattle.mail_run.specs.declared.closed.Closed.{Closed}
use Rattle.mutator_threads.proofs.EachDone.{all_so, part_at, stands_at}
use Rattle.mutator_threads.specs.Closing.{HasClosed, joined_parts}
use Rattle.mutator_threads.specs.Closing.{IsClosed as IsClosedHeap}
use Rattle.mutator_threads.specs.Mutators.{AreOver, IsOver, own_of, views_of}
use Rattle.trails.specs.Marks.{marks_of}

pub so_many : (scripts : List (Vec ℕ Global)) → length (lists_of scripts) ≡ length scripts
so_many scripts = length-map scripts (λ (script : Vec ℕ Global). script.items)

-- the script of a place is the list that stands there
list_there : (scripts : List (Vec ℕ Global)) (i : ℕ) → i < length scripts
    → get_elem? (lists_of scripts) i ≡ some (script_of scripts i)
list_there [] i lt = absurd (omega (arith, lt))
list_there (s ∷ ss) zero lt = refl
list_there (s ∷ ss) (suc i) lt = list_there ss i (omega (arith, lt))

module _ (heap : HeapId) (scripts : List (Vec ℕ Global)) (lines : ℕ) (mailers : List Mailer)
    (received : Received) (w : HaveWorked heap scripts lines mailers received) where
  abbrev last : List Mailer
  last = w.receiver ∷ []

  pub all_over : AreOver heap mailers
  all_over =
      let over = w.taken.is_over in
      let many = w.many in
      let here : length scripts ≡ 0 + length w.senders = omega (arith, many) in
      subst (λ (ms : List Mailer). AreOver heap ms) (sym w.mailers_are)
      (all_both (λ number (m : Mailer). IsOver heap number m.seat) 0 w.senders last
      (all_so (λ (number : ℕ) (m : Mailer). IsDone heap scripts number m)
      (λ (number : ℕ) (m : Mailer). IsOver heap number m.seat) (λ number m done. done.is_over) 0
      w.senders w.done)
      (subst (λ (k : ℕ). IsOver heap k w.receiver.seat) here over, tt))

  pub all_mailers : length mailers ≡ length scripts + 1
  all_mailers =
      ap (λ (ms : List Mailer). length ms) w.mailers_are ∙ length_push w.senders w.receiver
      ∙ ap (λ (k : ℕ). k + 1) w.many

  -- what the senders have of their own is what is left of all
  answers_are : (all sent : List (Vec (Option ℕ) Global)) → all ≡ own_of mailers
      → sent ≡ take (length scripts) all → sent ≡ own_of w.senders
  answers_are all sent all_is is =
      let own = own_of w.senders in
      let many : length scripts ≡ length own =
      sym w.many ∙ sym (length-map w.senders (λ (m : Mailer). m.own)) in
      is ∙ ap (λ (xs : List (Vec (Option ℕ) Global)). take (length scripts) xs)
      (all_is ∙ ap (λ (ms : List Mailer). own_of ms) w.mailers_are
      ∙ map-append (λ (m : Mailer). m.own) w.senders last)
      ∙ ap (λ (k : ℕ). take k (own ++ own_of last)) many
      ∙ take-append_seam own (own_of last)

  pub through : (cells : ℕ) (joined : List (Place MailPass))
      (all sent : List (Vec (Option ℕ) Global)) → heap.shape.cells ≡ cells
      → lines ≡ lines_in (lists_of scripts)
      → joined ≡ joined_parts (views_of mailers) → all ≡ own_of mailers
      → sent ≡ take (length scripts) all
      → AreThrough cells (lists_of scripts) sent received.items.items received.failed joined
  through cells joined all sent cells_are lines_are is all_is sent_is =
      let same = so_many scripts in
      let own = answers_are all sent all_is sent_is in
      let parts = is ∙ ap (λ (ms : List Mailer). joined_parts (views_of ms)) w.mailers_are in
      let many : length sent ≡ length scripts =
      ap (λ (xs : List (Vec (Option ℕ) Global)). length xs) own
      ∙ length-map w.senders (λ (m : Mailer). m.own) ∙ w.many in
      record {
        many = many ∙ sym same;
        posted = λ i lt.
            let fits = w.many in
            let its = stands_at (λ (number : ℕ) (m : Mailer). IsDone heap scripts number m)
            w.senders i (omega (arith, lt, same, fits)) w.done in
            record {
              lines = script_of scripts i;
              lines_at = list_there scripts i (omega (arith, lt, same));
              answers = its.one.own.items;
              answers_at = at_map (λ (xs : Vec (Option ℕ) Global). xs.items) sent i its.one.own
                  (ap (λ (xs : List (Vec (Option ℕ) Global)). get_elem? xs i) own
                  ∙ at_map (λ (m : Mailer). m.own) w.senders i its.one its.at);
              share = share_of its.one.seat.me;
              share_at = part_at (w.senders ++ last) joined parts i its.one
                  (at_longer w.senders last i its.one its.at);
              posts = subst (λ (k : ℕ). Posts k (script_of scripts i) its.one.own.items
                  its.one.seat.me.pass (marks_of its.one.seat.me.trail)) cells_are
                  its.holds.posts;
            };
        drained = record {
          share = share_of w.receiver.seat.me;
          share_at = part_at (w.senders ++ last) joined parts (length (lists_of scripts))
              w.receiver
              (at_last w.senders w.receiver (length (lists_of scripts)) (w.many ∙ sym same));
          receives = λ whole. subst (λ (k : ℕ). Receives k received.items.items
              w.receiver.seat.me.pass (marks_of w.receiver.seat.me.trail)) lines_are
              (w.taken.taken whole);
          emptied = λ whole. subst (λ (k : ℕ). Empties k
              (marks_of w.receiver.seat.me.trail)) lines_are (w.taken.emptied whole);
        };
      }

  -- and the image then
  pub closed : (cells cycles : ℕ) (c : Closed) (all : List (Vec (Option ℕ) Global))
      → heap.shape ≡ mail_shape cells (length scripts) → lines ≡ lines_in (lists_of scripts)
      → IsClosedHeap opening_pass HoldsMail is_fixed heap.shape cycles (views_of mailers) c.heap
      → c.received ≡ received → all ≡ own_of mailers
      → c.sent.items ≡ take (length scripts) all
      → IsClosed cells cycles (lists_of scripts) c
  closed cells cycles c all shape lines_are is received_is all_is sent_is =
      let has = is.has_closed in
      let same : heap.shape ≡ mail_shape cells (length (lists_of scripts)) =
      shape ∙ ap (λ (k : ℕ). mail_shape cells k) (sym (so_many scripts)) in
      let at = subst (λ (h : Shape). HasClosed opening_pass HoldsMail is_fixed h cycles
      (joined_parts (views_of mailers)) c.heap) same has in
      record {
        ended = at.ended;
        shown = at.shows;
        through = subst (λ (r : Received). AreThrough cells (lists_of scripts) c.sent.items
            r.items.items r.failed c.heap.passes.places) (sym received_is)
            (through cells c.heap.passes.places all c.sent.items
            (ap (λ (h : Shape). h.cells) shape) lines_are has.places_are all_is sent_is);
        collected = at.collected;
      }
