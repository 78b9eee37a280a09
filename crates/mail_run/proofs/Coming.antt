-- The result of a run, from what holds at the close of its heap.
use Rattle.std.proofs.Common.{◌≡◌, ◌≤◌, ◌<◌, ◌+◌, ◌-◌, ◌++◌, ℕ, suc, false, List, [], ◌∷◌}
use Rattle.std.proofs.Common.{All, length}
use Rattle.std.proofs.Common.{Contains, flat_map, map, Option, None, inl, inr, refl, sym, ◌∙◌, ap}
use Rattle.std.proofs.Common.{subst, arith}
use Rattle.std.specs.Prelude.{Vec}
use Rattle.std.specs.declared.alloc.Global.{Global}
use Rattle.std.specs.List.{range_with_len}
use Rattle.std.specs.List.Sorted.{IsStrictlyIncreasing}
use Rattle.std.proofs.lemmas.Bool.{cases_lt}
use Rattle.std.proofs.lemmas.List.{length-map}
use mathlib.Core.Option.{some, some-injective}
use lib.ListN.{get_elem?}
use Rattle.closed_heap.proofs.Claiming.{all_claimed}
use Rattle.dlg_core.specs.Sums.{claims_of}
use Rattle.heap_rule.specs.Boxes.{Map, boxes_of}
use Rattle.heap_rule.specs.Laws.{Ended}
use Rattle.heap_rule.specs.declared.view.Place.TheVariants as places
use Rattle.heap_rule.specs.declared.view.Share.{Share}
use Rattle.heap_rule.specs.declared.view.View.{View}
use Rattle.heap_rule.proofs.Moving.{some_below}
use Rattle.mail_rule.specs.Counted.{EachOnce, WasSent, all_sent, sent_in}
use Rattle.mail_rule.specs.Items.{item_at, positions_of}
use Rattle.mail_rule.specs.Mail.{HoldsMail, is_fixed}
use Rattle.mail_rule.specs.Passes.{opening_pass}
use Rattle.mail_rule.specs.declared.items.Item.{Item}
use Rattle.mail_rule.specs.declared.items.Sent.{Sent}
use Rattle.mail_rule.specs.declared.mail_pass.MailPass.{MailPass}
use Rattle.mail_rule.proofs.Counts.{sends_many, sends_once, sends_rise, was_sent}
use Rattle.mail_rule.proofs.Standing.{taken_low}
use Rattle.mail_threads.specs.Opened.{mail_shape}
use Rattle.mail_threads.specs.Taken.{HasPosted, answers_of}
use Rattle.mail_run.specs.Closed.{AreThrough}
use Rattle.mail_run.specs.Comes.{ComesMail, HasRisen, IsLine, positions_in}
use Rattle.mail_run.specs.Rest.{rest_in}
use Rattle.mail_run.proofs.Answered.{found_full, is_send, positions_of_all, positions_sent}
use Rattle.mail_run.proofs.Behind.{rest_is}
use Rattle.mail_run.proofs.Lists.{each_made, made_back, made_parts}
use Rattle.mail_run.proofs.Takers.{one_took}
use Rattle.mutator_threads.specs.Closing.{HasCollected}
use Rattle.trails.specs.Marks.{marks_of}

-- there is one element at an index
once_at : {A : Type 0} (xs : List A) (i : ℕ) (x y : A) → get_elem? xs i ≡ some x
    → get_elem? xs i ≡ some y → x ≡ y
once_at xs i x y one other = some-injective x y (sym one ∙ other)

-- a list of numbers that maps to no element is empty
none_in_row : {B : Type 0} (f : ℕ → B) (ns : List ℕ) → [] ≡ map f ns → ns ≡ []
none_in_row f [] is = refl
none_in_row f (n ∷ ns) is = absurd (
    let many : 0 ≡ suc (length (map f ns)) = ap length is in omega (arith, many))

module _ (cells : ℕ) (scripts : List (List ℕ)) (sent : List (Vec (Option ℕ) Global))
    (taken : List Item) (words : List ℕ) (v : View MailPass)
    (ended : Ended opening_pass HoldsMail is_fixed (mail_shape cells (length scripts)) (Unit {0})
    words v) (through : AreThrough cells scripts sent taken false v.places) where
  abbrev answers : List (List (Option ℕ))
  answers = answers_of sent

  abbrev the_map : Map
  the_map = boxes_of ended.shows.core ended.shows.lore

  abbrev passes : List MailPass
  passes = ended.shows.passes

  abbrev rule : HoldsMail the_map passes
  rule = ended.shows.kept

  so_many : length answers ≡ length scripts
  so_many = length-map sent (λ (xs : Vec (Option ℕ) Global). xs.items) ∙ through.many

  pass_of : (i : ℕ) (share : Share MailPass) → get_elem? v.places i ≡ some (places.Joined share)
      → get_elem? passes i ≡ some share.pass
  pass_of i share at = (ended.collector.joined i share at).pass

  -- A sender.
  module _ (i : ℕ) (lt : i < length scripts) where
    posted : HasPosted cells scripts answers v.places i
    posted = through.posted i lt

    sender_pass : get_elem? passes i ≡ some posted.share.pass
    sender_pass = pass_of i posted.share posted.share_at

    sender_positions : sent_in posted.share.pass ≡ positions_in posted.answers
    sender_positions =
        ap (λ (ss : List Sent). map (λ (s : Sent). s.position) ss) posted.posts.sends
        ∙ positions_sent posted.lines posted.answers posted.posts.many

    risen : HasRisen answers i
    risen = record {
      answers = posted.answers;
      answers_at = posted.answers_at;
      rise = subst IsStrictlyIncreasing sender_positions
          (sends_rise the_map passes rule i posted.share.pass sender_pass);
    }

    took_none : positions_of i 1 rule.takers ≡ []
    took_none = none_in_row (item_at rule.letters) (positions_of i 1 rule.takers)
        (sym posted.posts.takes ∙ (rule.own i posted.share.pass sender_pass).takes)

  -- The receiver.
  receiver_pass : get_elem? passes (length scripts) ≡ some through.drained.share.pass
  receiver_pass = pass_of (length scripts) through.drained.share through.drained.share_at

  receiver_none : sent_in through.drained.share.pass ≡ []
  receiver_none = ap (λ (ss : List Sent). map (λ (s : Sent). s.position) ss)
      (through.drained.receives refl).sends

  -- The positions of all lines.
  all_positions : all_sent passes ≡ flat_map positions_in answers
  all_positions = positions_of_all passes answers
      (let fit = ended.passes_fit in let m = so_many in omega (arith, fit, m))
      (λ i pass those at those_at.
      let lt : i < length scripts =
      (let below = some_below answers i those those_at in let m = so_many in
      omega (arith, below, m)) in
      let p = posted i lt in
      ap sent_in (once_at passes i pass p.share.pass at (sender_pass i lt))
      ∙ sender_positions i lt
      ∙ ap positions_in (once_at answers i p.answers those p.answers_at those_at))
      (λ pass at. ap sent_in (once_at passes (length scripts) pass through.drained.share.pass
      (subst (λ (k : ℕ). get_elem? passes k ≡ some pass) so_many at) receiver_pass)
      ∙ receiver_none)

  pub positions_once : EachOnce (flat_map positions_in answers)
  positions_once = subst EachOnce all_positions (sends_once the_map passes rule)

  how_many : length rule.letters ≡ length (flat_map positions_in answers)
  how_many = sym (sends_many the_map passes rule) ∙ ap length all_positions

  -- The items.
  all_took : positions_of (length scripts) 1 rule.takers
      ≡ range_with_len 1 (length rule.takers)
  all_took = one_took (length scripts) 1 rule.takers
      (subst (λ (k : ℕ). All (λ (number : ℕ). number < k) rule.takers) ended.passes_fit
      rule.received) took_none

  taken_are : taken ≡ map (item_at rule.letters) (range_with_len 1 (length rule.takers))
  taken_are = sym (through.drained.receives refl).takes
      ∙ (rule.own (length scripts) through.drained.share.pass receiver_pass).takes
      ∙ ap (map (item_at rule.letters)) all_took

  items_are : taken ++ rest_in ended.shows.core
      ≡ map (item_at rule.letters) (range_with_len 1 (length (flat_map positions_in answers)))
  items_are =
      let few = taken_low the_map passes rule in
      let t = length rule.takers in
      let k = length rule.letters in
      let whole : t + (k - t) ≡ length (flat_map positions_in answers) =
      (let m = how_many in omega (arith, few, m)) in
      ap (λ (xs : List Item). xs ++ rest_in ended.shows.core) taken_are
      ∙ ap (λ (xs : List Item). map (item_at rule.letters) (range_with_len 1 t) ++ xs)
      (rest_is ended.shows.core ended.shows.lore ended.shows.facts passes rule)
      ∙ made_parts (item_at rule.letters) 1 t (k - t)
      ∙ ap (λ (m : ℕ). map (item_at rule.letters) (range_with_len 1 m)) whole

  item_positions : map (λ (item : Item). item.position) (taken ++ rest_in ended.shows.core)
      ≡ range_with_len 1 (length (flat_map positions_in answers))
  item_positions = ap (map (λ (item : Item). item.position)) items_are
      ∙ made_back (item_at rule.letters) (λ (item : Item). item.position) (λ m. refl)
      (range_with_len 1 (length (flat_map positions_in answers)))

  -- an item that was sent is a line
  is_line : (item : Item) → WasSent passes item → IsLine scripts answers item
  is_line item was = elim (cases_lt was.number (length scripts)) [
    | inl lt ↦
        let p = posted was.number lt in
        let same : was.pass ≡ p.share.pass =
        once_at passes was.number was.pass p.share.pass was.pass_is (sender_pass was.number lt) in
        let is = is_send p.lines p.answers
        (record { position = item.position; value = item.value })
        (subst (λ (ss : List Sent). Contains ss
        (record { position = item.position; value = item.value }))
        (ap (λ (q : MailPass). q.sends) same ∙ p.posts.sends) was.has) in
        record {
          i = was.number;
          sender_is = was.sender_is;
          lines = p.lines;
          lines_at = p.lines_at;
          answers = p.answers;
          answers_at = p.answers_at;
          place = is.place;
          value_at = is.value_at;
          position_at = is.position_at;
        }
    | inr from ↦ absurd (
        let below = some_below passes was.number was.pass was.pass_is in
        let fit = ended.passes_fit in
        let number_is : was.number ≡ length scripts = omega (arith, below, fit, from) in
        let same : was.pass ≡ through.drained.share.pass =
        once_at passes (length scripts) was.pass through.drained.share.pass
        (subst (λ (k : ℕ). get_elem? passes k ≡ some was.pass) number_is was.pass_is)
        receiver_pass in
        let has = subst (λ (ss : List Sent). Contains ss
        (record { position = item.position; value = item.value }))
        (ap (λ (q : MailPass). q.sends) same ∙ (through.drained.receives refl).sends) was.has in
        let lt = has.1 in omega (arith, lt))
  ]

  items_lines : (item : Item) → Contains (taken ++ rest_in ended.shows.core) item
      → IsLine scripts answers item
  items_lines item has = each_made (item_at rule.letters) (IsLine scripts answers) 1
      (length (flat_map positions_in answers))
      (λ m low lt. is_line (item_at rule.letters m)
      (was_sent the_map passes rule m low (let k = how_many in omega (arith, lt, k))))
      item
      (subst (λ (xs : List Item). Contains xs item) items_are has)

  full_here : (i : ℕ) (those : List (Option ℕ)) → get_elem? answers i ≡ some those
      → Contains those None
      → cells ≤ claims_of ended.shows.core + 2
  full_here i those at has =
      let lt : i < length scripts =
      (let below = some_below answers i those at in let m = so_many in omega (arith, below, m)) in
      let p = posted i lt in
      let found = found_full cells p.answers (marks_of p.share.trail) p.posts.shown
      (subst (λ (xs : List (Option ℕ)). Contains xs None)
      (once_at answers i those p.answers at p.answers_at) has) in
      all_claimed (mail_shape cells (length scripts)) words v ended i p.share
      found.before found.stretch found.after p.share_at found.is found.meets

  pub comes : (cycles freed : ℕ)
      → HasCollected (mail_shape cells (length scripts)) cycles freed ended.shows.core v
      → ComesMail cells cycles scripts sent (taken ++ rest_in ended.shows.core) v
  comes cycles freed collected = record {
    words = words;
    ended = ended;
    many = through.many;
    posted = λ i lt. posted i lt;
    rise = λ i lt. risen i lt;
    once = positions_once;
    positions = item_positions;
    lines = items_lines;
    taken = taken;
    rest = rest_in ended.shows.core;
    items_are = refl;
    received = record {
      share = through.drained.share;
      share_at = through.drained.share_at;
      receives = through.drained.receives refl;
      emptied = through.drained.emptied refl;
    };
    full = full_here;
    service = collected.service;
    cycles_are = collected.cycles_are;
    tidy = collected.tidy;
  }
