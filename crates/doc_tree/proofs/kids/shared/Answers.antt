use Rattle.std.proofs.Common.{rules}
use Rattle.doc_tree.proofs.Chunks.{same_chunks}
use Rattle.doc_tree.proofs.kids.shared.Goals as goal

pub returns-clause-chunks : goal.returns-clause-chunks
returns-clause-chunks c = search (rules, same_chunks c.args.chunks.now.items)
