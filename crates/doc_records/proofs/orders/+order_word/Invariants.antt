-- Each call is for one byte less.
use Rattle.doc_records.proofs.orders.+order_word.Given as goal

abbrev pub decreases-order_word : goal.decreases-order_word
decreases-order_word l = l.count
