-- The moves of seats that are no events: a mutator is split off the collector's seat, and joined
-- again. The pass of a spent seat is the opening pass of mutator 0, since a view has to have one.
-- Source: this project's.
use Rattle.std.specs.Prelude.{ℕ, [], slice_set, None}
use Rattle.core_machine.specs.Own.{no_own}
use Rattle.core_machine.specs.State.{opening_collector, opening_control, opening_presence}
use Rattle.heap_rule.specs.declared.view.Place.TheVariants as places
use Rattle.heap_rule.specs.declared.view.Role.TheVariants as role
use Rattle.heap_rule.specs.declared.view.View.{View}
use Rattle.heap_rule.specs.Rule.{share_of}
use Rattle.heap_rule.specs.Shape.{Shape}

abbrev pub no_shape : Shape
no_shape = record { cells = 0; mutators = 0; setting = 0; first = [] }

module _ {P : Type 0} where
  -- the collector's view once mutator i is away with a seat
  abbrev pub split_view : ℕ → View P → View P
  split_view i v = record v { places = slice_set v.places i places.Away }

  -- the view of that seat, with so many places of room
  abbrev pub given_view : (ℕ → ℕ → P) → ℕ → ℕ → View P → View P
  given_view opens i room v = record {
    shape = v.shape;
    role = role.Mutator;
    number = i;
    room = room;
    own = no_own;
    presence = opening_presence;
    known = [];
    pass = opens i v.shape.setting;
    control = opening_control;
    part = v.part;
    places = [];
    over = [];
    alone = None;
    trail = [];
  }

  -- the collector's view once the seat of a mutator is joined
  abbrev pub joined_view : View P → View P → View P
  joined_view v u = record v { places = slice_set v.places u.number (places.Joined (share_of u)) }

  -- what is left of it: it shows nothing
  abbrev pub spent_view : (ℕ → ℕ → P) → View P
  spent_view opens = record {
    shape = no_shape;
    role = role.Spent;
    number = 0;
    room = 0;
    own = no_own;
    presence = opening_presence;
    known = [];
    pass = opens 0 0;
    control = opening_control;
    part = opening_collector 0 0;
    places = [];
    over = [];
    alone = None;
    trail = [];
  }
