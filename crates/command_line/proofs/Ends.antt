-- Between which ends each number is that was found.
use Rattle.std.proofs.Common.{List, refl, codes}
use Rattle.cell_words.specs.declared.controls.TheConstants.{GREATEST_CYCLES}
use Rattle.cell_words.specs.declared.controls.TheConstants.{GREATEST_POSITION}
use Rattle.clap.specs.Walk.{Row}
use Rattle.command_line.specs.Commands.{gen_app, image_app, mail_app, run_app}
use Rattle.command_line.specs.Limits.{AreMailOptions, AreOptions}
use Rattle.command_line.specs.Readings.{AreAccepted, IsNumberWithin}
use Rattle.run_limits.specs.declared.TheConstants.{MOST_CLIENTS}

pub run_options : (rows : List Row) → AreAccepted run_app.top.rules rows → AreOptions rows
run_options rows accepted = record {
  cells = accepted.numbers (codes "cells") 64 GREATEST_POSITION (refl, refl, refl)
      (refl, (tt, (tt, (tt, (tt, (tt, (tt, (tt, tt))))))));
  minor = accepted.numbers (codes "minor") 4_096 262_144 (refl, refl, refl)
      (tt, (refl, (tt, (tt, (tt, (tt, (tt, (tt, tt))))))));
  keep = accepted.numbers (codes "keep") 1 100 (refl, refl, refl)
      (tt, (tt, (refl, (tt, (tt, (tt, (tt, (tt, tt))))))));
  versions = accepted.numbers (codes "versions") 1 1_000_000 (refl, refl, refl)
      (tt, (tt, (tt, (refl, (tt, (tt, (tt, (tt, tt))))))));
  cycles = accepted.numbers (codes "cycles") 0 GREATEST_CYCLES (refl, refl, refl)
      (tt, (tt, (tt, (tt, (refl, (tt, (tt, (tt, tt))))))));
}

pub image_options : (rows : List Row) → AreAccepted image_app.top.rules rows → AreOptions rows
image_options rows accepted = record {
  cells = accepted.numbers (codes "cells") 64 GREATEST_POSITION (refl, refl, refl)
      (refl, (tt, (tt, (tt, (tt, (tt, tt))))));
  minor = accepted.numbers (codes "minor") 4_096 262_144 (refl, refl, refl)
      (tt, (refl, (tt, (tt, (tt, (tt, tt))))));
  keep = accepted.numbers (codes "keep") 1 100 (refl, refl, refl)
      (tt, (tt, (refl, (tt, (tt, (tt, tt))))));
  versions = accepted.numbers (codes "versions") 1 1_000_000 (refl, refl, refl)
      (tt, (tt, (tt, (refl, (tt, (tt, tt))))));
  cycles = accepted.numbers (codes "cycles") 0 GREATEST_CYCLES (refl, refl, refl)
      (tt, (tt, (tt, (tt, (refl, (tt, tt))))));
}

pub mail_options : (rows : List Row) → AreAccepted mail_app.top.rules rows → AreMailOptions rows
mail_options rows accepted = record {
  cells = accepted.numbers (codes "cells") 64 GREATEST_POSITION (refl, refl, refl)
      (refl, (tt, (tt, tt)));
  cycles = accepted.numbers (codes "cycles") 0 GREATEST_CYCLES (refl, refl, refl)
      (tt, (refl, (tt, tt)));
}

pub start : (rows : List Row) → AreAccepted gen_app.top.rules rows
    → IsNumberWithin (codes "start") 0 2_147_483_647 rows
start rows accepted =
    accepted.numbers (codes "start") 0 2_147_483_647 (refl, refl, refl)
    (refl, (tt, (tt, (tt, tt))))

pub clients : (rows : List Row) → AreAccepted gen_app.top.rules rows
    → IsNumberWithin (codes "clients") 1 MOST_CLIENTS rows
clients rows accepted =
    accepted.numbers (codes "clients") 1 MOST_CLIENTS (refl, refl, refl)
    (tt, (refl, (tt, (tt, tt))))

pub commands : (rows : List Row) → AreAccepted gen_app.top.rules rows
    → IsNumberWithin (codes "commands") 1 10_000 rows
commands rows accepted =
    accepted.numbers (codes "commands") 1 10_000 (refl, refl, refl)
    (tt, (tt, (refl, (tt, tt))))

pub print : (rows : List Row) → AreAccepted gen_app.top.rules rows
    → IsNumberWithin (codes "print") 1 MOST_CLIENTS rows
print rows accepted =
    accepted.numbers (codes "print") 1 MOST_CLIENTS (refl, refl, refl)
    (tt, (tt, (tt, (refl, tt))))
