-- The boxes of a heap, as a client's rule sees them: a finite map from each reachable box that is
-- not fresh to what its payload stands for. And when one map is a smaller one.
-- Source: this project's.
use Rattle.std.specs.Prelude.{ℕ, ◌≡◌, ◌<◌, ◌&&◌, Bool, true, false, Option, Some, None, is_none}
use Rattle.cell_words.specs.declared.fields.Field.{Field}
use Rattle.core_machine.specs.declared.events.Event.{Event}
use Rattle.core_machine.specs.declared.events.Event.TheVariants as event
use Rattle.core_machine.specs.State.{State, begun_of, field_of, target_of}
use Rattle.core_machine.specs.Words.{is_box_kind, same_field}
use Rattle.dlg_core.specs.Reachable.{reach}
use Rattle.heap_rule.specs.Lore.{Entry, Named, Lore, entry_of, put, revealed}

abbrev pub Payload : Type 0
Payload = ℕ → Entry

abbrev pub Map : Type 0
Map = ℕ → Option Payload

abbrev pub payload_of : State → Lore → ℕ → Payload
payload_of s l x f = entry_of l.terms (field_of s x f)

-- a box that is reachable and not fresh
abbrev pub is_shown : State → Lore → ℕ → Bool
is_shown s l x = reach s x && (is_box_kind (field_of s x 5) && is_none (l.fresh x))

abbrev pub where_shown : Bool → Payload → Option Payload
where_shown true p = Some p
where_shown false p = None

abbrev pub boxes_of : State → Lore → Map
boxes_of s l x = where_shown (is_shown s l x) (payload_of s l x)

-- The new map has some of the old boxes as they were: the anchor, and with each box every old one
-- that it names.
pub record Smaller (old new : Map) : Type 0 where
  pub anchor : new 0 ≡ old 0
  pub within : (x : ℕ) (p : Payload) → new x ≡ Some p → old x ≡ Some p
  pub closed : (x y f : ℕ) (p q : Payload) → new x ≡ Some p → f < 5 → p f ≡ Named y → old y ≡ Some q
      → new y ≡ Some q

-- Where a cell is named it is seen from then on; where a field is written its entry changes.

-- what a value names is fresh no longer
abbrev pub revealing : Lore → Field → Lore
revealing l value = record l { fresh = revealed l.fresh value }

abbrev pub with_entry : Option Payload → ℕ → Entry → Option Payload
with_entry None f entry = None
with_entry (Some p) f entry = Some (put p f entry)

-- the map with another entry in one field of one box, if it has the box
abbrev pub written_map : Map → ℕ → ℕ → Entry → Map
written_map map x f entry = put map x (with_entry (map x) f entry)

abbrev pub written_if : Bool → State → Lore → ℕ → ℕ → Field → Map
written_if true s l x f new = written_map (boxes_of s (revealing l new)) x f (entry_of l.terms new)
written_if false s l x f new = boxes_of s l

-- The boxes that an event would leave if no cell became unreachable by it: those that there were;
-- after a Write that was made and after a Store, whatever that field held, with the new entry; and
-- after these and a Fill with what they name. Every event leaves this map or a smaller one: so a
-- client shows its rule on a map that it can write down.
abbrev pub boxes_by : State → Lore → Event → Map
boxes_by s l (event.Write i place f old new) =
    written_if (same_field (field_of s (target_of s i place) f) old) s l (target_of s i place) f new
boxes_by s l (event.Store i new) =
    written_map (boxes_of s (revealing l new)) (target_of s i (begun_of s i).place) (begun_of s i).f
    (entry_of l.terms new)
boxes_by s l (event.Fill i place f value) = boxes_of s (revealing l value)
boxes_by s l _ = boxes_of s l
