-- What is borrowed for a command stays what it was.
use Rattle.std.proofs.Common.{◌≡◌, ℕ, ap}
use Rattle.free_cells.specs.declared.queue.FreeQueue.{FreeQueue}
use Rattle.mutator_seat.specs.Bound.{Bound}
use Rattle.version_rule.specs.Pass.{Pass}
use Rattle.version_store.specs.Lasts.{IsSameMutator}
use Rattle.client_heap.specs.Lent.{Identity, Lent, identity_of}

abbrev lent_by : (mutator hints nursery promoter : ℕ) → Bound Pass → FreeQueue
    → (records copies : ℕ) → Lent
lent_by mutator hints nursery promoter m queue records copies = record {
  mutator_name = mutator;
  hints_name = hints;
  nursery_name = nursery;
  promoter_name = promoter;
  mutator = identity_of m;
  queue = queue;
  records = records;
  copies = copies;
}

module _ (m n : Bound Pass) where
  -- the same mutator, as eight equations and as one
  identity_stays : IsSameMutator m n → identity_of n ≡ identity_of m
  identity_stays same = λ j. record {
    heap = same.heap j;
    table = same.table j;
    shape = same.shape j;
    role = same.role j;
    number = same.number j;
    room = same.room j;
    inside = same.inside j;
    over = same.over j;
  }

  pub same_identity : identity_of n ≡ identity_of m → IsSameMutator m n
  same_identity is = record {
    heap = ap (λ (i : Identity). i.heap) is;
    table = ap (λ (i : Identity). i.table) is;
    shape = ap (λ (i : Identity). i.shape) is;
    role = ap (λ (i : Identity). i.role) is;
    number = ap (λ (i : Identity). i.number) is;
    room = ap (λ (i : Identity). i.room) is;
    inside = ap (λ (i : Identity). i.inside) is;
    over = ap (λ (i : Identity). i.over) is;
  }

  -- under the same names the same mutator is lent, and what else stays
  pub lent_stays : {a b c d : ℕ} {q r : FreeQueue} {records many copies all : ℕ}
      → IsSameMutator m n → r ≡ q → many ≡ records → all ≡ copies
      → lent_by a b c d n r many all ≡ lent_by a b c d m q records copies
  lent_stays {a = a} {b = b} {c = c} {d = d} same queue rooms copied = λ j. record {
    mutator_name = a;
    hints_name = b;
    nursery_name = c;
    promoter_name = d;
    mutator = identity_stays same j;
    queue = queue j;
    records = rooms j;
    copies = copied j;
  }
