-- Private records stay in force while what they name stays known.
use Rattle.std.proofs.Common.{◌≡◌, ◌≤◌, ◌∙◌, ℕ, List, ap, arith, length, subst, sym}
use Rattle.heap_rule.specs.declared.known.Known.{Known}
use Rattle.heap_table.specs.Seats.{HeapId, SeatView}
use Rattle.local_records.specs.Local.{IsLocal, Local}
use Rattle.local_records.proofs.Keeping.{local_later}
use Rattle.record_copying.specs.Copies.{StillRecords}
use Rattle.sorted_boxes.specs.Calls.{KeepsRecords}
use Rattle.sorted_boxes.specs.Sorts.{SortList}
use Rattle.sorted_rule.specs.declared.sorting.Sorting.{Sorting}
use Rattle.heap_c.specs.Calls.{ComesIn}
use Rattle.heap_c.specs.Holding.{Held, IsMine, IsOwned, held_by}
use Rattle.heap_c.specs.declared.codes.Code.{Code}
use Rattle.heap_c.specs.declared.codes.Code.TheVariants as code

-- the places from before are held, and maybe others after them
pub local_on : (l : Local) (known later : List Known) → StillRecords known later
    → length known ≤ length later → IsLocal l known → IsLocal l later
local_on l known later still longer so =
    local_later known l.named l.records l.copied l.places l.roots so later
    (λ place t lt is. still place t is)
    (let within = so.within in omega (arith, within, longer))

-- so many of the first places are
pub local_first : (l : Local) (known later : List Known) (n : ℕ) → l.named ≤ n
    → KeepsRecords n known later
    → ((m : ℕ) → m ≤ n → m ≤ length known → m ≤ length later) → IsLocal l known → IsLocal l later
local_first l known later n le keeps longer so =
    local_later known l.named l.records l.copied l.places l.roots so later
    (λ place t lt is. keeps place t (omega (arith, lt, le)) is) (longer l.named le so.within)

module _ (heap : HeapId) (old new : SeatView Sorting) (sorts later : SortList) (l : Local)
    (owned : IsOwned heap old sorts l) (mine : IsMine heap new later)
    (inside : new.me.presence.inside ≡ old.me.presence.inside) where
  pub owned_on : StillRecords old.me.known new.me.known
      → length old.me.known ≤ length new.me.known → IsOwned heap new later l
  owned_on still longer = record {
    mine = mine;
    inside = λ is. local_on l old.me.known new.me.known still longer
        (owned.inside (sym inside ∙ is));
    outside = λ is. owned.outside (sym inside ∙ is);
    apart = owned.apart;
  }

  pub owned_first : (n : ℕ) → l.named ≤ n → KeepsRecords n old.me.known new.me.known
      → ((m : ℕ) → m ≤ n → m ≤ length old.me.known → m ≤ length new.me.known)
      → IsOwned heap new later l
  owned_first n le keeps longer = record {
    mine = mine;
    inside = λ is. local_first l old.me.known new.me.known n le keeps longer
        (owned.inside (sym inside ∙ is));
    outside = λ is. owned.outside (sym inside ∙ is);
    apart = owned.apart;
  }

-- coming in: whoever is out has private records that name no place
pub owned_begun : (heap : HeapId) (old new : SeatView Sorting) (sorts : SortList) (l : Local)
    (c : Code) → IsOwned heap old sorts l → IsMine heap new sorts
    → ComesIn (held_by heap old sorts) (held_by heap new sorts) c → IsOwned heap new sorts l
owned_begun heap old new sorts l code.Ok owned mine begun = record {
  mine = mine;
  inside = λ is. owned.outside begun.0 new.me.known;
  outside = λ is. owned.outside begun.0;
  apart = owned.apart;
}
owned_begun heap old new sorts l code.IsIn owned mine begun =
    subst (λ (seat : SeatView Sorting). IsOwned heap seat sorts l)
    (sym (ap (λ (h : Held). h.bound.seat) begun.1)) owned
owned_begun heap old new sorts l code.NoMemory owned mine begun = absurd begun
owned_begun heap old new sorts l code.BadPlace owned mine begun = absurd begun
owned_begun heap old new sorts l code.BadField owned mine begun = absurd begun
owned_begun heap old new sorts l code.NoRoom owned mine begun = absurd begun
owned_begun heap old new sorts l code.Wait owned mine begun = absurd begun
owned_begun heap old new sorts l code.Moved owned mine begun = absurd begun
owned_begun heap old new sorts l code.NotIn owned mine begun = absurd begun
owned_begun heap old new sorts l code.BadValue owned mine begun = absurd begun
owned_begun heap old new sorts l code.NoHandle owned mine begun = absurd begun
owned_begun heap old new sorts l code.Full owned mine begun = absurd begun
owned_begun heap old new sorts l code.NoSeat owned mine begun = absurd begun
owned_begun heap old new sorts l code.Spent owned mine begun = absurd begun
owned_begun heap old new sorts l code.BadSize owned mine begun = absurd begun
owned_begun heap old new sorts l code.NotZero owned mine begun = absurd begun
owned_begun heap old new sorts l code.NoRecords owned mine begun = absurd begun
owned_begun heap old new sorts l code.Part owned mine begun = absurd begun
