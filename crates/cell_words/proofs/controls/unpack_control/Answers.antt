-- The word is that of the control that is answered.
use Rattle.std.proofs.Common.{refl, rules, ◌≡◌, ◌/◌, ◌%◌, nat_eq}
use Rattle.cell_words.specs.Control.{IsValidControl, pack_control_of}
use Rattle.cell_words.specs.declared.controls.Control.{Control}
use Rattle.cell_words.proofs.controls.unpack_control.Goals as goal

pub returns-clause-some : goal.returns-clause-some
returns-clause-some c =
    let word = c.args.word in
    let control : Control = record {
      stage = c.in_ok-stage.stage;
      position = (word % 4294967296) / 64;
      cycles = word / 4294967296;
      duty = nat_eq ((word / 8) % 2) 1;
    } in
    let valid : IsValidControl control = search rules in
    let packs : pack_control_of control ≡ word = search rules in
    (λ _. (control, valid, packs), λ _. refl)
