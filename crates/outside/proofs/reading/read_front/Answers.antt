use Rattle.std.proofs.Common.{ℕ, ◌≤◌, List, ◌++◌, Option, Some, None, ◌∙◌, length, take, ap, subst}
use Rattle.std.proofs.Common.{sym, arith, rules, length-append}
use Rattle.std.proofs.lemmas.List.{append-nil, take_all}
use Rattle.std.proofs.KnownBytes.{Consumes-trans}
use Rattle.std.specs.Io.KnownBytes.{Consumes, IsAtEnd}
use Rattle.outside.specs.Pieces.{IsFrontOf}
use Rattle.outside.proofs.reading.read_front.Goals as goal

-- what was taken up to the end of the file is its front
front_at_end : (a b : Option (List ℕ)) (limit : ℕ) (bytes : List ℕ)
    → Consumes a b bytes → IsAtEnd b → length bytes ≤ limit → IsFrontOf a limit bytes
front_at_end None b limit bytes taken end within = tt
front_at_end (Some all) None limit bytes taken end within = absurd taken
front_at_end (Some all) (Some left) limit bytes taken end within =
    sym (ap (take limit) (taken ∙ ap (λ xs. bytes ++ xs) end ∙ append-nil bytes)
    ∙ take_all limit bytes within)

-- a turn that added nothing shows the end
pub returns-then-count-eq0-clause-content : goal.returns-then-count-eq0-clause-content
returns-then-count-eq0-clause-content g c =
    let more = c.in_ok-count.ensures.bytes in
    let none = c.if-count-eq0.true in
    subst (λ bytes. IsFrontOf (g.H.Shelf.left c.args.shelf.now) c.args.limit bytes) (sym more.1)
    (front_at_end _ (g.H.Shelf.left c.read_more.new.shelf) _ _
    (Consumes-trans _ (g.H.Shelf.left c.loop-bytes.shelf) _ _ _
    c.loop-bytes.invariant.taken more.3)
    (c.in_ok-count.ensures.end none (search rules))
    (omega (arith, more.2, length-append c.loop-bytes.bytes.items more.0)))
