-- The walk to the last item.
use Rattle.std.proofs.Common.{◌≡◌, ◌<◌, ◌≤◌, ◌+◌, ℕ, List, [], ◌∷◌, ◌++◌, length, get_or, take}
use Rattle.std.proofs.Common.{sym, ◌∙◌, ap, subst, arith}
use Rattle.std.proofs.lemmas.List.{append-nil, append_assoc, take_at}
use Rattle.core_machine.specs.declared.events.Event.TheVariants as event
use Rattle.core_machine.specs.declared.events.Found.{Found}
use Rattle.core_machine.specs.declared.events.Taken.{Taken}
use Rattle.heap_rule.specs.declared.known.Known.{Known}
use Rattle.heap_rule.specs.Asks.{MayKeep, known_of}
use Rattle.mail_rule.specs.Knowing.{IsItemKnown, KnowsItem}
use Rattle.mail_rule.specs.declared.items.Item.{Item}
use Rattle.mail_rule.specs.declared.mail_pass.MailPass.{MailPass}
use Rattle.mutator_seat.specs.Bound.{Bound, held_cells, takes}
use Rattle.mutator_seat.specs.Stretches.{Calm}
use Rattle.held_places.specs.Calls.{IsIn, StaysKnown}
use Rattle.trails.specs.Asks.{Ask}
use Rattle.mail_rule.specs.Mail.{is_fixed}
use Rattle.cell_mailbox.specs.Ends.{AllKnown}
use Rattle.cell_mailbox.specs.Finds.{FindsItem, FindsLast, FindsNext, FindsPart, Reads}
use Rattle.cell_mailbox.specs.Walks.{EndsAt, Stands}
use Rattle.cell_mailbox.proofs.Calling.{fresh_apart, fresh_still, reads_in, reads_still}
use Rattle.cell_mailbox.proofs.Calling.{reads_unasked}
use Rattle.held_places.proofs.Going.{calm_goes, goes_then, in_still, many_cells}
use Rattle.held_places.proofs.Going.{kept_known, known_below, known_then, many_held}
use Rattle.held_places.proofs.Going.{target_still}
use Rattle.held_places.proofs.Narrowing.{keep_cells, keep_goes, keep_last, keep_many, keep_stays}
use Rattle.cell_mailbox.proofs.Trying.{item_kept}

pub stands_first : (a b : Bound MailPass) (latest held : ℕ) → held ≡ length a.seat.me.own.held
    → FindsItem a b 0 0 latest → Stands a b held
stands_first a b latest held is first = record {
  goes = (reads_unasked _ (first.cell ∷ []) a b first.reads).goes;
  cell = first.cell;
  cells = first.reads.holds.held;
  item = first.item;
  knows = subst (λ (p : ℕ). KnowsItem b.seat.me p first.item) (first.found_is ∙ sym is)
      first.knows;
  known = first.reads.holds.known;
  small = first.small;
  pass = first.reads.pass;
  many = first.reads.many;
}

module _ (a b : Bound MailPass) (held : ℕ) (is : held ≡ length a.seat.me.own.held)
    (stands : Stands a b held) where
  -- an answer leaves it
  pub stands_calm : (F : List Taken → Type 0) (c : Bound MailPass) → Calm F b c
      → Stands a c held
  stands_calm F c calm = record {
    goes = goes_then stands.goes (calm_goes F b c calm);
    cell = stands.cell;
    cells = calm.kept.held ∙ stands.cells;
    item = stands.item;
    knows = item_kept b c calm.kept held stands.item stands.knows;
    known = known_then is_fixed (length a.seat.me.own.held) a b c stands.known
        (kept_known is_fixed (length a.seat.me.own.held) b c calm.kept);
    small = stands.small;
    pass = calm.kept.pass ∙ stands.pass;
    many = ap (λ (ks : List Known). length ks) calm.kept.known ∙ stands.many
        ∙ (let here = many_cells b in let there = many_cells c in
        let same = ap (λ (cs : List ℕ). length cs) calm.kept.held in
        omega (arith, here, there, same));
  }

  pub stands_in : IsIn a → IsIn b
  stands_in inside = in_still a b (stands.cell ∷ []) [] inside stands.goes stands.cells

  pub stands_many : length b.seat.me.own.held ≡ length a.seat.me.own.held + 1
  stands_many = many_held a b (stands.cell ∷ []) stands.cells

  pub stands_room : length a.seat.me.own.held + 1 < a.seat.me.room
      → length b.seat.me.own.held < b.seat.me.room
  stands_room room =
      let many = stands_many in let same = stands.goes.room in omega (arith, room, many, same)

  -- what was known before is known after a read
  known_behind : (c : Bound MailPass) (asks : List Ask) (cells : List ℕ) → Reads asks cells b c
      → AllKnown a c
  known_behind c asks cells reads =
      known_then is_fixed (length a.seat.me.own.held) a b c stands.known
      (known_below is_fixed (length b.seat.me.own.held) (length a.seat.me.own.held) b c
      (let many = stands_many in omega (arith, many)) reads.holds.known)

  -- The item after it.

  module _ (c : Bound MailPass) (next : ℕ) (finds : FindsNext b c held next) where
    abbrev cell : ℕ
    cell = finds.finds.cell

    more : held_cells c ≡ held_cells a ++ ((stands.cell ∷ []) ++ cell ∷ [])
    more = finds.finds.reads.holds.held
        ∙ ap (λ (cs : List ℕ). cs ++ cell ∷ []) stands.cells
        ∙ append_assoc (held_cells a) (stands.cell ∷ []) (cell ∷ [])

    longer : length c.seat.me.own.held ≡ length a.seat.me.own.held + 2
    longer = many_held a c ((stands.cell ∷ []) ++ cell ∷ []) more

    next_is : next ≡ length a.seat.me.own.held + 1
    next_is = finds.finds.found_is ∙ stands_many

    pub may_keep : IsIn a → length a.seat.me.own.held + 1 < a.seat.me.room
        → MayKeep c.seat.me held next 1
    may_keep inside room =
        let first = inside.some in
        let long = longer in
        let at = next_is in
        let same = stands.goes.room in
        let still = finds.finds.reads.goes.room in
        record {
          inside = finds.finds.reads.goes.inside ∙ stands.goes.inside ∙ inside.inside;
          some = omega (arith, is, first);
          kept = omega (arith, is, long);
          copied = omega (arith, at, long);
          room = omega (arith, is, room, same, still);
        }

    pub stands_next : (d : Bound MailPass) (p : Found)
        → d ≡ takes c (event.Keep c.seat.me.number held next 1) p → Stands a d held
    stands_next d p told =
        let long = longer in
        let at = next_is in
        let there : next < length c.seat.me.own.held = omega (arith, at, long) in
        let front : held ≤ length c.seat.me.own.held = omega (arith, is, long) in
        let cells = keep_cells c d held next p told there front finds.finds.reads.many in
        let last = get_or (held_cells c) next 0 in
        let now : held_cells d ≡ held_cells a ++ last ∷ [] =
        cells ∙ ap (λ (cs : List ℕ). cs ++ last ∷ [])
        (ap (take held) more
        ∙ take_at (held_cells a) ((stands.cell ∷ []) ++ cell ∷ []) held
        (many_cells a ∙ sym is)) in
        let many_now = many_held a d (last ∷ []) now in
        record {
          goes = goes_then (goes_then stands.goes
              (reads_unasked _ (cell ∷ []) b c finds.finds.reads).goes)
              (keep_goes c d held next p told);
          cell = last;
          cells = now;
          item = finds.finds.item;
          knows = record {
            there = omega (arith, is, many_now);
            known = subst (λ (k : Known). IsItemKnown k finds.finds.item)
                (sym (keep_last c d held next p told there front finds.finds.reads.many))
                finds.finds.knows.known;
          };
          known = known_then is_fixed (length a.seat.me.own.held) a c d
              (known_behind c _ _ finds.finds.reads)
              (subst (λ (k : ℕ). StaysKnown is_fixed k c d) is
              (keep_stays c d held next p told there front finds.finds.reads.many is_fixed));
          small = finds.finds.small;
          pass = ap (λ (m : Bound MailPass). m.seat.me.pass) told ∙ finds.finds.reads.pass
              ∙ stands.pass;
          many = keep_many c d held next p told there front finds.finds.reads.many;
        }

  -- No item comes after it.

  module _ (c d : Bound MailPass) (position : ℕ) (last : FindsLast b c held)
      (part : FindsPart c d held 0 position) where
    last_knows : KnowsItem c.seat.me held stands.item
    last_knows = reads_still _ [] b c last.reads held stands.item stands.knows

    known_c : AllKnown a c
    known_c = known_behind c _ [] last.reads

    held_c : held_cells c ≡ held_cells a ++ stands.cell ∷ []
    held_c = last.reads.holds.held ∙ append-nil (held_cells b) ∙ stands.cells

    pub ends_at : EndsAt a d held position
    ends_at = record {
      stands = record {
        goes = goes_then (goes_then stands.goes (reads_unasked _ [] b c last.reads).goes)
            (reads_unasked _ [] c d part.reads).goes;
        cell = stands.cell;
        cells = part.reads.holds.held ∙ append-nil (held_cells c) ∙ last.reads.holds.held
            ∙ append-nil (held_cells b) ∙ stands.cells;
        item = stands.item;
        knows = reads_still _ [] c d part.reads held stands.item last_knows;
        known = known_then is_fixed (length a.seat.me.own.held) a c d known_c
            (known_below is_fixed (length c.seat.me.own.held) (length a.seat.me.own.held) c d
            (let many = many_held a c (stands.cell ∷ []) held_c in omega (arith, many))
            part.reads.holds.known);
        small = stands.small;
        pass = part.reads.pass ∙ last.reads.pass ∙ stands.pass;
        many = part.reads.many;
      };
      position_is = part.is stands.item last_knows;
      apart = λ place lt fresh same.
          fresh_apart c.seat.me part.reads.coherent place held stands.item
          (let many = many_held a c (stands.cell ∷ []) held_c in omega (arith, many, lt))
          last_knows
          (fresh_still (known_of a.seat.me place) (known_of c.seat.me place) (known_c place lt)
          fresh)
          (target_still a c (stands.cell ∷ []) held_c place lt ∙ same
          ∙ target_still c d [] part.reads.holds.held held last_knows.there);
    }

  pub last_item : (c : Bound MailPass) (last : FindsLast b c held)
      → (item : Item) × KnowsItem c.seat.me held item
  last_item c last = (stands.item, reads_still _ [] b c last.reads held stands.item stands.knows)

  pub last_in : IsIn a → (c : Bound MailPass) (last : FindsLast b c held) → IsIn c
  last_in inside c last = reads_in _ [] b c (stands_in inside) last.reads

  pub last_room : length a.seat.me.own.held + 1 < a.seat.me.room → (c : Bound MailPass)
      → FindsLast b c held → length c.seat.me.own.held < c.seat.me.room
  last_room room c last =
      let many = many_held b c [] last.reads.holds.held in
      let same = last.reads.goes.room in
      let here = stands_room room in
      omega (arith, many, same, here)
