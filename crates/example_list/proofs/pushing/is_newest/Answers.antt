use Rattle.example_list.proofs.Finding.{kept_loose, kept_pass, newest_if, none_found}
use Rattle.example_list.proofs.pushing.is_newest.Goals as goal

pub returns-in-Null-clause-newest : goal.returns-in-Null-clause-newest
returns-in-Null-clause-newest c = none_found c.args.m.now c.args.found c.in-Null.is c.requires.found

pub returns-in-Held-clause-newest : goal.returns-in-Held-clause-newest
returns-in-Held-clause-newest c =
    newest_if c.args.m.now c.is_same.new.self c.is_same.ensures.told c.args.found
    c.in-Held.place c.in-Held.is c.requires.found c.is_same.result c.is_same.ensures.same

pub returns-in-Held-clause-loose : goal.returns-in-Held-clause-loose
returns-in-Held-clause-loose c =
    kept_loose c.args.m.now c.is_same.new.self c.is_same.ensures.told c.requires.found.loose

pub returns-in-Held-clause-same : goal.returns-in-Held-clause-same
returns-in-Held-clause-same c =
    kept_pass c.args.m.now c.is_same.new.self c.is_same.ensures.told
