use Rattle.std.proofs.Common.{rules}
use Rattle.std.proofs.lemmas.List.Sorted.{IsPartitionPoint-from_clause}
use Rattle.doc_tree.specs.Rows.{row_of, begins_by}
use Rattle.doc_tree.proofs.Chunks.{found, partitioned}
use Rattle.doc_tree.proofs.kids.chunk_of.Goals as goal

pub returns : goal.returns
returns c =
    let name = c.args.name.now in
    let cs = c.args.chunks.now in
    let facts = c.partition_point.ensures in
    let point = IsPartitionPoint-from_clause
    (λ k. begins_by name (row_of k.value.row.items)) cs _ facts.partitioned
    (partitioned name cs c.requires.chunks c.requires.rising) (λ a r f called. search rules) in
    found name cs _ _ c.requires.chunks c.requires.rising c.requires.some facts.bound
    c.saturating_sub.ensures point.0 point.1
