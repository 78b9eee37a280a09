use Rattle.std.proofs.Common.{◌≡◌, suc, ◌-◌, length, take, drop, refl, arith}
use Rattle.std.proofs.Common.{length-drop}
use Rattle.std.proofs.lemmas.List.{length-take}
use Rattle.script_files.proofs.Gathered.{none_left, turn_gathered, turn_refused}
use Rattle.script_files.proofs.Turns.{turn_later, turn_opens, turn_stops, turn_unread}
use Rattle.script_files.proofs.in_turn.+gather.Goals as goal

pub returns-in_default-clause-lists : goal.returns-in_default-clause-lists
returns-in_default-clause-lists g t c =
    none_left g.G.Gathering.grammar g.G.Gathering.parse g.G.Gathering.note (λ name. name.now)
    c.args.names.now (g.H.Shelf.holds c.args.shelf.now) c.args.file c.args.before _ _
    c.in_default.len_below

pub returns-in-Err-clause-lists : goal.returns-in-Err-clause-lists
returns-in-Err-clause-lists g t c =
    turn_refused g.G.Gathering.grammar g.G.Gathering.parse g.G.Gathering.note (λ name. name.now)
    c.args.names.now _ _ (g.H.Shelf.holds c.args.shelf.now) c.args.file c.args.before c.in-Err.fault
    (g.G.Gathering.lists c.args.gathered.now) (g.G.Gathering.lists c.gather_file.new.gathered)
    (g.G.Gathering.notes c.args.gathered.now) (g.G.Gathering.notes c.gather_file.new.gathered)
    (g.G.Gathering.lists c.gather_file.new.gathered)
    (g.G.Gathering.notes c.gather_file.new.gathered)
    c.in-len1-up.len_at_least refl c.in-Err.ensures.added

pub returns-in-Err-clause-read_file : goal.returns-in-Err-clause-read_file
returns-in-Err-clause-read_file g t c place is =
    turn_unread g.G.Gathering.grammar g.G.Gathering.parse g.G.Gathering.note _ _ _ _
    (g.G.Gathering.lists c.args.gathered.now) (g.G.Gathering.lists c.gather_file.new.gathered)
    (g.G.Gathering.notes c.args.gathered.now) (g.G.Gathering.notes c.gather_file.new.gathered)
    _ _ _ c.in-Err.ensures.added is c.in-Err.ensures.opens

pub returns-clause-lists : goal.returns-clause-lists
returns-clause-lists g t c =
    turn_gathered g.G.Gathering.grammar g.G.Gathering.parse g.G.Gathering.note (λ name. name.now)
    c.args.names.now _ _ _ _ c.args.file c.args.before c.gather.result
    (g.G.Gathering.lists c.args.gathered.now) (g.G.Gathering.lists c.gather_file.new.gathered)
    (g.G.Gathering.lists c.gather.new.gathered) (g.G.Gathering.notes c.args.gathered.now)
    (g.G.Gathering.notes c.gather_file.new.gathered) (g.G.Gathering.notes c.gather.new.gathered)
    c.in-Ok.count c.in-len1-up.len_at_least refl c.in-Ok.ensures.held c.in-Ok.ensures.added
    c.gather.ensures.lists

pub returns-clause-read_file : goal.returns-clause-read_file
returns-clause-read_file g t c place is =
    turn_later _ _ _ _ _ c.in-Ok.ensures.opens (c.gather.ensures.read_file place is)

pub returns-clause-stops : goal.returns-clause-stops
returns-clause-stops g t c =
    turn_stops g.G.Gathering.grammar g.G.Gathering.parse g.G.Gathering.note (λ name. name.now) _ _ _
    _ _ _ _ (g.G.Gathering.lists c.args.gathered.now)
    (g.G.Gathering.lists c.gather_file.new.gathered) (g.G.Gathering.notes c.args.gathered.now)
    (g.G.Gathering.notes c.gather_file.new.gathered) _ _ _ c.in-Ok.count
    c.in-len1-up.len_at_least refl c.in-Ok.ensures.held
    c.in-Ok.ensures.added c.in-Ok.ensures.opens c.gather.ensures.stops

pub returns-clause-opens : goal.returns-clause-opens
returns-clause-opens g t c =
    let names = c.args.names.now in
    let rest : suc (length (take (length names - 1) (drop 1 names))) ≡ length names =
    omega (
      arith,
      length-take (length names - 1) (drop 1 names),
      length-drop 1 names,
      c.in-len1-up.len_at_least,
    ) in
    turn_opens _ _ _ _ _ rest c.in-Ok.ensures.opens c.gather.ensures.opens
