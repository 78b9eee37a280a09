use Rattle.client_tests.specs.Works.{Works}
use Rattle.client_tests.proofs.sharing.fill_folder.Given as goal

abbrev pub invariant-loop-i : goal.invariant-loop-i
invariant-loop-i l = Works l.m l.minor l.root
