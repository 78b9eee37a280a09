-- What the word that the last look found says of the mode.
use Rattle.std.proofs.Common.{◌≡◌, ℕ, true, Option, None, Some, is_some, refl, sym, ap}
use Rattle.cell_words.specs.Control.{IsControlWord, IsValidControl, pack_control_of}
use Rattle.cell_words.specs.declared.controls.Control.{Control}
use Rattle.mutator_events.specs.Seats.{HasLooked}

module _ {looked : ℕ} where
  pub looked_word : (mode : Option Control) → HasLooked mode looked → is_some mode ≡ true
      → IsControlWord looked
  looked_word None is some = let no = some in absurd cc
  looked_word (Some control) is some =
      let it = is control refl in (control, it.0, it.1)

  -- the mode is the control that is read off the word
  pub mode_kept : {found : Control} (mode : Option Control) → HasLooked mode looked
      → is_some mode ≡ true
      → ((control : Control) → IsValidControl control → pack_control_of control ≡ looked
      → found ≡ control)
      → mode ≡ Some found
  mode_kept None is some read = let no = some in absurd cc
  mode_kept (Some control) is some read =
      let it = is control refl in ap (λ (c : Control). Some c) (sym (read control it.0 it.1))
