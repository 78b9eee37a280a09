use Rattle.heap_table.proofs.heap.CellHeap.split_off.Given as goal

abbrev pub ghosts-split_by : goal.ghosts-split_by
ghosts-split_by g a = record { number = a.number; room = a.room }
