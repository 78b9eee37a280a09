use Rattle.doc_model.proofs.Counted.{delete_counted, node_counted}
use Rattle.doc_model.proofs.store.PlainStore.reply_to.Goals as goal

pub committed-requires-in-Del : goal.committed-requires-in-Del
committed-requires-in-Del c =
    delete_counted c.delete.result c.in-Del.path c.latest-now.result.now c.delete.ensures.tree
    c.latest-now.ensures.counted

pub count_shown-requires : goal.count_shown-requires
count_shown-requires c =
    node_counted _ c.in-Size.path c.latest-now.result.now c.node-in-Size.ensures.node
    c.latest-now.ensures.counted
