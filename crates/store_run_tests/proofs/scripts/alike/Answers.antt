use Rattle.std.proofs.Common.{◌≡◌, ◌≤◌, List, length, ap, arith, subst, sym}
use Rattle.std.proofs.lemmas.List.{length_push}
use Rattle.std.proofs.lemmas.List.Elements.{All-push}
use Rattle.std.specs.Prelude.{All, Vec}
use Rattle.std.specs.declared.alloc.Global.{Global}
use Rattle.doc_model.specs.declared.command.Command.{Command}
use Rattle.run_limits.specs.declared.TheConstants.{MOST_COMMANDS}
use Rattle.store_run_tests.proofs.scripts.alike.Goals as goal

abbrev IsShort : Vec Command Global → Type 0
IsShort script = length script.items ≤ MOST_COMMANDS

pub loop-place-init : goal.loop-place-init
loop-place-init c = record {
  many = ap (λ (scripts : List (Vec Command Global)). length scripts) c.new-scripts.ensures.items;
  short = subst (λ (scripts : List (Vec Command Global)). All IsShort scripts)
      (sym c.new-scripts.ensures.items) (λ k d there. absurd (omega (arith, there)));
}

pub loop-place-preserved : goal.loop-place-preserved
loop-place-preserved c =
    let k = c.loop-place.invariant in
    let pushed = c.in_ok-push.ensures.items in
    let longer = ap (λ (scripts : List (Vec Command Global)). length scripts) pushed in
    let more = length_push c.loop-place.scripts.items c.in_ok-script.script in
    record {
      many = omega (arith, longer, more, k.many);
      short = subst (λ (scripts : List (Vec Command Global)). All IsShort scripts) (sym pushed)
          (All-push IsShort c.loop-place.scripts.items c.in_ok-script.script k.short
          c.in_ok-script.ensures.short);
    }
