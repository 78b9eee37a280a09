use Rattle.std.proofs.Common.{◌≡◌, ◌≤◌, ◌∙◌, ℕ, Some, ap, sym, arith}
use Rattle.std.proofs.lemmas.Bool.Decides.{nat_tests}
use Rattle.command_line.specs.Requests.{if_client}
use Rattle.command_line.specs.declared.request.GenWords.{GenWords}
use Rattle.command_line.proofs.reading.printable.Goals as goal

-- a client among those that are made is printed
printed : (words : GenWords) (client : ℕ) → client ≤ words.clients
    → Some words ≡ if_client (Some client) words
printed words client among = grind (arith, nat_tests)

pub returns-in_default : goal.returns-in_default
returns-in_default c =
    record {
      words = printed c.args.words c.in-Some.client (omega arith)
          ∙ ap (λ print. if_client print c.args.words) (sym c.in-Some.is);
      within = record { numbers = c.requires; client = rw c.in-Some.is (omega arith) };
    }
