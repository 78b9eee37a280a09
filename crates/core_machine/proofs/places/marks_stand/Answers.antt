use Rattle.core_machine.proofs.places.marks_stand.Goals as goal

-- both values have to be marked
pub returns-then-is_marked_value : goal.returns-then-is_marked_value
returns-then-is_marked_value c =
    record {
      stand = rw (c.in-Both.is, ← c.if-is_marked_value.ensures.marked)
          c.is_marked_value-then-is_marked_value.ensures.marked;
    }
