use Rattle.std.proofs.Common.{true, ap}
use Rattle.clap.specs.Simple.{on_top}
use Rattle.command_line.proofs.commands.bare_command.Goals as goal

-- what each call adds
pub returns : goal.returns
returns c =
    rw (c.disable_version_flag.ensures, c.disable_help_flag.ensures, c.no_binary_name.ensures) (
    ap (on_top (λ s. record s {
      no_binary_name = true;
      disable_help_flag = true;
      disable_version_flag = true;
    })) c.new.ensures.app)
