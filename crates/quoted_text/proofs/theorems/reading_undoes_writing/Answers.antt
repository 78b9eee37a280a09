use Rattle.quoted_text.proofs.Laws.{from_quote, read_back}
use Rattle.quoted_text.proofs.theorems.reading_undoes_writing.Goals as goal

pub returns : goal.returns
returns c = record {
  back = read_back;
  written = λ bytes text is. (from_quote bytes text is).0;
  bytes = λ bytes text is. (from_quote bytes text is).1;
}
