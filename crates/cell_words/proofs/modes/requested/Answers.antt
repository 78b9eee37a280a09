use Rattle.std.proofs.Common.{refl, inl, inr}
use Rattle.cell_words.proofs.modes.requested.Goals as goal

pub returns-in-Idle : goal.returns-in-Idle
returns-in-Idle c = elim c.in-Idle.is [
  | inl is ↦ record { status = rw is refl }
  | inr (inl is) ↦ record { status = rw is refl }
  | inr (inr is) ↦ record { status = rw is refl }
]
