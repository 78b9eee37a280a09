use Rattle.std.proofs.Common.{ℕ, ◌≤◌, List, Some, length, arith, ap, refl}
use Rattle.std.proofs.lemmas.List.{get_or_past, length-map}
use Rattle.outside.specs.Named.{files_of}
use Rattle.outside.proofs.sure_shelf.SureShelfShelf.open.Goals as goal
use Rattle.outside.proofs.sure_shelf.SureShelfShelf.open.Goals.{in-Some, in-None}

-- a name that is absent is a place past the last file
pub returns-clause-whole : goal.returns-clause-whole
returns-clause-whole c = rw (← c.self.view_is) (
    elim c.match-index_of.branch [
      | in-Some w ↦ rw (w.index-is, rw c.deref.ensures.value at w.in-Some.ensures.found) refl
      | in-None w ↦
          let past : length (files_of c.self.inside.files.items) ≤ c.match-index_of.index =
          simp length-map (omega arith) in
          rw (rw c.deref.ensures.value at w.in-None.ensures.absent)
          (ap (λ (file : List ℕ × List ℕ). Some file.1) (get_or_past _ _ _ past))
    ])
