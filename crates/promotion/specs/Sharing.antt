-- What a mutator's private records stand for, given its held list: the terms of its places, and the
-- condition on the places that records share.
-- Source: this project's.
use Rattle.std.specs.Prelude.{ℕ, ◌≡◌, ◌<◌, true, List, map}
use Rattle.std.specs.List.{Contains}
use Rattle.cell_words.specs.Term.{Term, null}
use Rattle.heap_rule.specs.Facts.{is_term}
use Rattle.heap_rule.specs.Lore.{known_at, term_or}
use Rattle.heap_rule.specs.declared.known.Known.{Known}
use Rattle.minor_heap.specs.declared.fields.MinorField.{MinorField}
use Rattle.minor_heap.specs.declared.fields.MinorField.TheVariants as field
use Rattle.minor_heap.specs.declared.fields.MinorRef.{MinorRef}
use Rattle.minor_heap.specs.Nursery.{field_at}
use Rattle.minor_heap.specs.Reaches.{Reaches}

-- the terms of the places, as far as they are known; null of any other
abbrev pub known_terms : List Known → List Term
known_terms known = map (term_or null) known

-- a place that the field shares is in range and known as a record
abbrev pub SharesRecord : List Known → MinorField → Type 0
SharesRecord known field.Null = Unit {0}
SharesRecord known (field.Num n) = Unit {0}
SharesRecord known (field.Minor r) = Unit {0}
SharesRecord known (field.Shared place) = is_term (known_at known place) ≡ true

-- and this is so of each record that these reach
abbrev pub ShareRecords : List Known → List (List MinorField) → List MinorRef → Type 0
ShareRecords known records from =
    (r : MinorRef) (i : ℕ) → Reaches records (Contains from) r → i < 5
    → SharesRecord known (field_at records r.number i)
