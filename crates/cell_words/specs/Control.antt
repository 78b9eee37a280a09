-- The collector's control word.
--
-- From the lowest bit on it has the stage (3 bits), the duty bit, two bits that are 0, the position
-- of the sweep (26 bits) and the number of ended cycles (32 bits).
-- Source: this project's layout of a word.
use Rattle.std.specs.Prelude.{ℕ, ◌≡◌, ◌+◌, ◌*◌, ◌^◌, ◌≤◌}
use Rattle.cell_words.specs.Presence.{flag_of}
use Rattle.cell_words.specs.declared.controls.Stage.{Stage}
use Rattle.cell_words.specs.declared.controls.Stage.TheVariants as stages
use Rattle.cell_words.specs.declared.controls.Control.{Control}

-- the stage in the three low bits
abbrev pub pack_stage_of : Stage → ℕ
pack_stage_of stages.Idle = 0
pack_stage_of stages.Sync1 = 1
pack_stage_of stages.Clear = 2
pack_stage_of stages.Sync2 = 3
pack_stage_of stages.Trace = 4
pack_stage_of stages.Sweep = 5

-- the word of a control
abbrev pub pack_control_of : Control → ℕ
pack_control_of c =
    pack_stage_of c.stage + flag_of c.duty 8 + 64 * c.position + 2 ^ 32 * c.cycles

-- the greatest position that a stage may have: only the sweep has one
abbrev pub greatest_position_of : Stage → ℕ
greatest_position_of stages.Idle = 0
greatest_position_of stages.Sync1 = 0
greatest_position_of stages.Clear = 0
greatest_position_of stages.Sync2 = 0
greatest_position_of stages.Trace = 0
greatest_position_of stages.Sweep = 4194304

-- the control has a word
pub record IsValidControl (c : Control) : Type 0 where
  pub position : c.position ≤ greatest_position_of c.stage
  pub cycles : c.cycles ≤ 4000000000

-- the word is some control's
abbrev pub IsControlWord : ℕ → Type 0
IsControlWord word = (control : Control) × IsValidControl control × (pack_control_of control ≡ word)
