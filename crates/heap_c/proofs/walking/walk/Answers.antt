use Rattle.std.proofs.lemmas.Bool.{eqb-false}
use Rattle.std.proofs.Common.{◌∙◌, ℕ, List, ap, length, subst, sym}
use Rattle.heap_c.specs.Walking.{HandsOn}
use Rattle.heap_c.proofs.Paths.{follows_stay, stops_stay}
use Rattle.heap_c.proofs.walking.walk.Goals as goal

pub hand_on-requires : goal.hand_on-requires
hand_on-requires c = record {
  stays = follows_stay c.base-base.result c.args.mine.now c.args.of c.args.path.now
      c.follow.new.mine c.in-Ok.found c.base-base.ensures.stays c.in-Ok.ensures.followed;
}

pub let_go-requires : goal.let_go-requires
let_go-requires c = record {
  stays = stops_stay c.base-base.result c.args.mine.now c.args.of c.args.path.now
      c.follow.new.mine c.in-Err.code c.base-base.ensures.stays c.in-Err.ensures.followed;
}

pub returns-in-Ok : goal.returns-in-Ok
returns-in-Ok c =
    let found = c.in-Ok.found in
    let last = c.follow.new.mine in
    record {
      walked = (
        λ is. eqb-false _ _ (sym c.is_empty.ensures ∙ c.if-is_empty.false)
            (ap (λ (path : List ℕ). length path) is),
        (
          last,
          (
            found,
            (
              c.in-Ok.ensures.followed,
              subst (λ (n : ℕ). HandsOn n last found c.hand_on.new.mine c.hand_on.result)
                  c.base-base.ensures.len c.hand_on.ensures.handed,
            ),
          ),
        ),
      );
    }
