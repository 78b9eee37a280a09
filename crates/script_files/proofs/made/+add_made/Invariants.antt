use Rattle.script_files.proofs.made.+add_made.Given as goal

abbrev pub decreases-add_made : goal.decreases-add_made
decreases-add_made l = l.more
