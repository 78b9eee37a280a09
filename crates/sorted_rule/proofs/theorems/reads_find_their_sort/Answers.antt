use Rattle.sorted_rule.proofs.Finding.{read_finds, record_read_finds}
use Rattle.sorted_rule.proofs.theorems.reads_find_their_sort.Goals as goal

pub returns : goal.returns
returns c = record { boxes = read_finds; records = record_read_finds }
