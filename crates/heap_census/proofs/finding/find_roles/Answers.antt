use Rattle.std.proofs.Common.{◌≡◌, ◌<◌, ◌∙◌, ap, length, refl, subst, sym}
use Rattle.heap_census.specs.declared.layouts.Role.TheVariants as role
use Rattle.heap_census.specs.Roles.{TellsRoles}
use Rattle.heap_census.specs.Search.{IsSearch, WaitsFound, with_found}
use Rattle.heap_census.proofs.Found.{nothing, start_found, start_size, start_search, search_more}
use Rattle.heap_census.proofs.Found.{waits_more, search_less, tells_roles, next_found, next_below}
use Rattle.heap_census.proofs.finding.find_roles.Goals as goal

pub add_named-requires : goal.add_named-requires
add_named-requires g c = record {
  size = ap length c.take.ensures.marks ∙ c.loop-next.invariant.size;
  cell = subst (λ n. c.in-Some.next.cell < n) c.loop-next.invariant.size
      (next_below c.loop-next.found c.take.new.self.waiting c.in-Some.next
      c.loop-next.invariant.found c.in-Some.ensures.taken);
}

pub loop-next-init : goal.loop-next-init
loop-next-init g c =
    let size = g.C.Cells.size c.args.cells.now in
    let is : c.add.new.self ≡ with_found (nothing size) role.Anchor 0 =
    c.in_ok-add.ensures.added
    ∙ ap (λ f. with_found f role.Anchor 0)
    (c.in_ok-found.ensures.nothing ∙ ap nothing c.cells.ensures) in
    record {
      size = ap (λ f. length f.marks) is ∙ start_size size;
      found = subst WaitsFound (sym is) (start_found size);
      is = λ h shows. subst (IsSearch h) (sym is)
          (start_search size h (g.met.C.Cells.fits c.args.cells.now h shows));
    }

pub loop-next-preserved : goal.loop-next-preserved
loop-next-preserved g c =
    let old = c.loop-next.found in
    let mid = c.take.new.self in
    let new = c.add_named.new.found in
    let n = c.in-Some.next in
    let taken = c.in-Some.ensures.taken in
    let grows = c.in_ok-add_named.ensures.grows in
    record {
      size = grows.size ∙ ap length c.take.ensures.marks ∙ c.loop-next.invariant.size;
      found = waits_more old mid new n c.loop-next.invariant.found c.take.ensures.marks taken grows;
      is = λ h shows.
          let is = c.loop-next.invariant.is h shows in
          search_more h old mid new n is c.take.ensures.marks taken grows
          (c.in_ok-add_named.ensures.found h shows
          (is.sound n.role n.cell
          (next_found old mid.waiting n c.loop-next.invariant.found taken)))
          (c.in_ok-add_named.ensures.named h shows);
    }

pub loop-next-smaller : goal.loop-next-smaller
loop-next-smaller g c =
    search_less c.loop-next.found c.take.new.self c.add_named.new.found c.in-Some.next
    c.take.ensures.marks c.in-Some.ensures.taken c.in_ok-add_named.ensures.grows

pub returns : goal.returns
returns g c =
    let marks = c.into_marks.ensures ∙ c.take.ensures.marks in
    record {
      size = ap length marks ∙ c.loop-next.invariant.size;
      roles = λ h shows. subst (TellsRoles h) (sym marks)
          (tells_roles h c.loop-next.found (c.loop-next.invariant.is h shows)
          (c.in_default.ensures.none.0 refl));
    }
