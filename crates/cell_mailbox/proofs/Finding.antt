-- One read of a mailbox: what it finds, and what is then known.
use Rattle.std.proofs.Common.{◌≡◌, ◌<◌, ◌≤◌, ◌+◌, ◌⊎◌, ℕ, zero, suc, List, [], ◌∷◌, ◌++◌, length}
use Rattle.std.proofs.Common.{Option, Some, None, inl, inr, refl, sym, ◌∙◌, ap, subst, arith}
use Rattle.std.proofs.Common.{slice_index_or}
use Rattle.cell_words.specs.declared.fields.Field.{Field}
use Rattle.cell_words.specs.declared.fields.Field.TheVariants as field
use Rattle.cell_words.specs.Term.{Term, num}
use Rattle.core_machine.specs.declared.events.Event.TheVariants as event
use Rattle.core_machine.specs.declared.events.Found.TheVariants as finds
use Rattle.core_machine.specs.Next.{found_by}
use Rattle.core_machine.specs.State.{State}
use Rattle.heap_rule.specs.declared.known.Known.{Known}
use Rattle.heap_rule.specs.declared.known.Known.TheVariants as knows
use Rattle.heap_rule.specs.declared.known.Learned.{Learned}
use Rattle.heap_rule.specs.declared.view.View.{View}
use Rattle.heap_rule.specs.Asks.{known_of, target}
use Rattle.heap_rule.specs.Lore.{Lore, learned}
use Rattle.heap_rule.specs.Steps.{same_pass}
use Rattle.heap_rule.proofs.AfterReads.{found_known}
use Rattle.mail_rule.specs.Knowing.{IsItemKnown, KnowsItem}
use Rattle.mail_rule.specs.Mail.{HoldsMail, is_fixed}
use Rattle.mail_rule.specs.Told.{TellsFollowing, TellsItem}
use Rattle.mail_rule.specs.declared.items.Item.{Item}
use Rattle.mail_rule.specs.declared.mail_pass.MailPass.{MailPass}
use Rattle.mail_rule.proofs.Seen.{item_small, tells_latest, tells_next, tells_position}
use Rattle.mail_rule.proofs.Seen.{tells_sender, tells_value}
use Rattle.mutator_events.specs.declared.values.Value.TheVariants as values
use Rattle.mutator_events.specs.Events.{AtEvent}
use Rattle.mutator_events.specs.Values.{value_found}
use Rattle.mutator_seat.specs.Bound.{Bound, held_cells}
use Rattle.trails.specs.Asks.{gave_at}
use Rattle.held_places.specs.Calls.{IsIn, StaysKnown, StillKnown, cells_found}
use Rattle.cell_mailbox.specs.Finds.{FindsItem, FindsLast, FindsNext, FindsPart, Reads, part_of}
use Rattle.held_places.proofs.Going.{many_held}
use Rattle.held_places.proofs.Steps.{same_value, was_read}
use Rattle.held_places.proofs.ReadValues.{found_held, found_null, found_number}

-- what is known of an item is still known
pub item_known : (j k : Known) (item : Item) → StillKnown is_fixed j k → IsItemKnown j item
    → IsItemKnown k item
item_known j k item still is =
    let boxed = subst (λ (x : Known). StillKnown is_fixed x k) is.is still in
    record {
      told = boxed.0;
      is = boxed.1.0;
      position_is = boxed.1.1 0 (num item.position) (omega arith) refl is.position_is;
      sender_is = boxed.1.1 1 (num item.sender) (omega arith) refl is.sender_is;
      value_is = boxed.1.1 2 (num item.value) (omega arith) refl is.value_is;
    }

-- an item that is held is still held
pub item_still : (a b : Bound MailPass) (cells : List ℕ) → held_cells b ≡ held_cells a ++ cells
    → StaysKnown is_fixed (length a.seat.me.own.held) a b → (place : ℕ) (item : Item)
    → KnowsItem a.seat.me place item → KnowsItem b.seat.me place item
item_still a b cells held stays place item knows = record {
  there =
      let many = many_held a b cells held in
      let there = knows.there in omega (arith, many, there);
  known = item_known (known_of a.seat.me place) (known_of b.seat.me place) item
      (stays place knows.there) knows.known;
}

-- at most one item is known at a place
pub one_item : (v : View MailPass) (place : ℕ) (one other : Item) → KnowsItem v place one
    → KnowsItem v place other → one ≡ other
one_item v place one other p q =
    let told : knows.Boxed p.known.told ≡ knows.Boxed q.known.told = sym p.known.is ∙ q.known.is in
    let same : p.known.told ≡ q.known.told = cc in
    let at : (f : ℕ) → slice_index_or p.known.told f None ≡ slice_index_or q.known.told f None =
    (λ f. ap (λ (ts : List (Option Term)). slice_index_or ts f None) same) in
    let position : Some (num one.position) ≡ Some (num other.position) =
    sym p.known.position_is ∙ at 0 ∙ q.known.position_is in
    let sender : Some (num one.sender) ≡ Some (num other.sender) =
    sym p.known.sender_is ∙ at 1 ∙ q.known.sender_is in
    let value : Some (num one.value) ≡ Some (num other.value) =
    sym p.known.value_is ∙ at 2 ∙ q.known.value_is in
    same_item (num_some one.position other.position position)
    (num_some one.sender other.sender sender) (num_some one.value other.value value)
  where
    num_some : (m n : ℕ) → Some (num m) ≡ Some (num n) → m ≡ n
    num_some m n e = cc

    same_item : one.position ≡ other.position → one.sender ≡ other.sender
        → one.value ≡ other.value
        → one ≡ other
    same_item p s v = λ t. record { position = p t; sender = s t; value = v t }

module _ (a b : Bound MailPass) (heap : b.heap ≡ a.heap) (table : b.seat.table ≡ a.seat.table)
    (place f : ℕ) (there : place < length a.seat.me.own.held) (found : Field)
    (step : AtEvent HoldsMail is_fixed a.seat.me (event.Read a.seat.me.number place f) same_pass
    (finds.Field found) b.seat.me) where
  abbrev s : State
  s = step.core

  abbrev l : Lore
  l = step.lore

  abbrev tells : Learned
  tells = learned s l (event.Read a.seat.me.number place f)

  pub reads_one : Reads (gave_at (target a.seat.me place) f found ∷ []) (cells_found found) a b
  reads_one =
      let read = was_read is_fixed HoldsMail same_pass a b place f found heap table there step in
      record {
        goes = read.goes;
        holds = read.holds;
        pass = ap (λ (v : View MailPass). v.pass) step.new;
        coherent = read.coherent;
        many = read.many;
      }

  -- a read that tells of an item finds it
  finds_item : (item : Item)
      → TellsItem tells (found_by s (event.Read a.seat.me.number place f)) item → (next : ℕ)
      → values.Held next ≡ value_found (length a.seat.me.own.held) found
      → FindsItem a b place f next
  finds_item item is next value =
      let word : found ≡ field.Cell is.cell =
      same_value found (field.Cell is.cell) (sym step.found_is ∙ is.found_is) in
      let placed = (found_held (length a.seat.me.own.held) next found value).1.1 in
      let reads = subst (λ (x : Field). Reads (gave_at (target a.seat.me place) f x ∷ [])
      (cells_found x) a b) word reads_one in
      record {
        cell = is.cell;
        item = item;
        reads = reads;
        found_is = placed;
        knows = record {
          there =
              let longer = many_held a b (is.cell ∷ []) reads.holds.held in
              omega (arith, longer, placed);
          known = subst (λ (k : Known). IsItemKnown k item)
              (sym (ap (known_of b.seat.me) placed
              ∙ found_known is_fixed a.seat.me b.seat.me s l step.mine place f
              (finds.Field found) tells a.seat.me.pass step.new is.cell (ap finds.Field word)))
              is.known;
        };
        small = is.small;
      }

-- The anchor.

module _ (a b : Bound MailPass) (heap : b.heap ≡ a.heap) (table : b.seat.table ≡ a.seat.table)
    (is : IsIn a) (found : Field)
    (step : AtEvent HoldsMail is_fixed a.seat.me (event.Read a.seat.me.number 0 0) same_pass
    (finds.Field found) b.seat.me) where
  pub latest_cell : (cell : ℕ) × (found ≡ field.Cell cell)
  latest_cell =
      let told = tells_latest a.seat.me step.core step.lore step.passes step.mine step.kept 0
      is.anchor in (
        told.tells_item.cell,
        same_value found (field.Cell told.tells_item.cell)
            (sym step.found_is ∙ told.tells_item.found_is),
      )

  pub finds_latest : (next : ℕ)
      → values.Held next ≡ value_found (length a.seat.me.own.held) found
      → FindsItem a b 0 0 next
  finds_latest next value =
      let told = tells_latest a.seat.me step.core step.lore step.passes step.mine step.kept 0
      is.anchor in
      finds_item a b heap table 0 0 is.some found step told.item told.tells_item next value

-- The field that names the next item.

module _ (a b : Bound MailPass) (heap : b.heap ≡ a.heap) (table : b.seat.table ≡ a.seat.table)
    (place : ℕ) (item : Item) (knows : KnowsItem a.seat.me place item) (found : Field)
    (step : AtEvent HoldsMail is_fixed a.seat.me (event.Read a.seat.me.number place 3) same_pass
    (finds.Field found) b.seat.me) where
  abbrev Told : Type 0
  Told = (found_by step.core (event.Read a.seat.me.number place 3) ≡ finds.Field field.Null)
      ⊎ TellsFollowing item.position
      (learned step.core step.lore (event.Read a.seat.me.number place 3))
      (found_by step.core (event.Read a.seat.me.number place 3))

  told_next : Told
  told_next = tells_next a.seat.me step.core step.lore step.passes step.mine step.kept place item
      knows

  pub finds_next : (next : ℕ)
      → values.Held next ≡ value_found (length a.seat.me.own.held) found
      → FindsNext a b place next
  unfolding finds_item
  finds_next next value = by_told told_next
    where
      by_told : Told → FindsNext a b place next
      by_told (inl none) = absurd (
          let word : found ≡ field.Null = same_value found field.Null (sym step.found_is ∙ none) in
          let cell = (found_held (length a.seat.me.own.held) next found value).1.0 in
          let e : field.Null ≡ field.Cell _ = sym word ∙ cell in cc)
      by_told (inr more) = record {
        finds = finds_item a b heap table place 3 knows.there found step more.item more.tells_item
            next value;
        follows = λ other known.
            more.follows ∙ ap (λ (i : Item). i.position + 1)
            (one_item a.seat.me place item other knows known);
      }

  pub finds_last : values.Null ≡ value_found (length a.seat.me.own.held) found
      → FindsLast a b place
  finds_last value =
      let word = found_null (length a.seat.me.own.held) found value in
      record {
        reads = subst (λ (x : Field). Reads (gave_at (target a.seat.me place) 3 x ∷ [])
            (cells_found x) a b) word
            (reads_one a b heap table place 3 knows.there found step);
      }

  pub next_no_number : (n : ℕ)
      → values.Num n ≡ value_found (length a.seat.me.own.held) found → ⊥
  next_no_number n value = by_told told_next
    where
      word : found ≡ field.Num n
      word = found_number (length a.seat.me.own.held) n found value

      by_told : Told → ⊥
      by_told (inl none) =
          let e : field.Num n ≡ field.Null = sym word
          ∙ same_value found field.Null (sym step.found_is ∙ none) in cc
      by_told (inr more) =
          let e : field.Num n ≡ field.Cell more.tells_item.cell = sym word
          ∙ same_value found (field.Cell more.tells_item.cell)
          (sym step.found_is ∙ more.tells_item.found_is) in cc

-- A part of an item.

module _ (a b : Bound MailPass) (heap : b.heap ≡ a.heap) (table : b.seat.table ≡ a.seat.table)
    (place part : ℕ) (low : part ≤ 2) (known : Item) (knows : KnowsItem a.seat.me place known)
    (found : Field)
    (step : AtEvent HoldsMail is_fixed a.seat.me (event.Read a.seat.me.number place part)
    same_pass (finds.Field found) b.seat.me) where
  pub part_is : (item : Item) → KnowsItem a.seat.me place item
      → found ≡ field.Num (part_of part item)
  part_is item has = same_value found (field.Num (part_of part item))
      (sym step.found_is ∙ by_part part low)
    where
      by_part : (part : ℕ) → part ≤ 2
          → found_by step.core (event.Read a.seat.me.number place part)
          ≡ finds.Field (field.Num (part_of part item))
      by_part zero low = tells_position a.seat.me step.core step.lore step.passes step.mine
          step.kept place item has
      by_part (suc zero) low = tells_sender a.seat.me step.core step.lore step.passes step.mine
          step.kept place item has
      by_part (suc (suc zero)) low = tells_value a.seat.me step.core step.lore step.passes
          step.mine step.kept place item has
      by_part (suc (suc (suc n))) low = absurd (omega (arith, low))

  pub finds_part : (number : ℕ)
      → values.Num number ≡ value_found (length a.seat.me.own.held) found
      → FindsPart a b place part number
  finds_part number value =
      let word = found_number (length a.seat.me.own.held) number found value in
      record {
        reads = subst (λ (x : Field). Reads (gave_at (target a.seat.me place) part x ∷ [])
            (cells_found x) a b) word
            (reads_one a b heap table place part knows.there found step);
        is = λ item has.
            let e : field.Num number ≡ field.Num (part_of part item) = sym word
            ∙ part_is item has in cc;
        small = λ item has. item_small a.seat.me step.core step.lore step.passes step.mine
            step.kept place item has;
      }
