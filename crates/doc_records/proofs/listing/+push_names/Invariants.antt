-- Each call is on a side of the entry.
use Rattle.doc_tree.specs.Tree.{kid_count}
use Rattle.kids_avl.specs.Entries.{kids_of}
use Rattle.doc_records.specs.Pool.{part_term}
use Rattle.doc_records.specs.Trees.{entries_of}
use Rattle.doc_records.proofs.listing.+push_names.Given as goal

abbrev pub decreases-push_names : goal.decreases-push_names
decreases-push_names g l =
    kid_count (kids_of (entries_of (part_term (g.R.RecordPool.shown l.records.now).term l.top)))
