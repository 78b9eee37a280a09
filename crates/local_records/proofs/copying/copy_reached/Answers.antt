use Rattle.mutator_seat.specs.Bound.{bound}
use Rattle.local_records.proofs.Keeping.{local_copies, local_copied, local_shares}
use Rattle.local_records.proofs.copying.copy_reached.Goals as goal

pub copy_reached-requires : goal.copy_reached-requires
copy_reached-requires g c =
    let known = c.args.seat.now.me.known in
    let records = c.args.minor.now.records in
    let copied = c.args.table.now.copied in
    let places = c.args.table.now.places in
    let roots = c.args.stack.now.roots in
    record {
      seat = c.requires.seat;
      inside = c.requires.inside;
      room = c.requires.room;
      stand = c.requires.stand;
      fits = c.requires.fits;
      shares = local_shares known c.args.named records copied places roots c.requires.local;
      copies = local_copies known c.args.named records copied places roots c.requires.local;
    }

pub returns-clause-local : goal.returns-clause-local
returns-clause-local g c =
    local_copied (bound c.args.heap.now c.args.seat.now)
    (bound c.args.heap.now c.copy_reached.new.seat) c.args.most c.args.named
    c.args.minor.now.records c.args.table.now.copied c.args.table.now.places
    c.args.stack.now.roots c.copy_reached.new.self.copied c.copy_reached.new.self.places
    c.requires.local c.copy_reached.ensures.grown c.copy_reached.ensures.shares
    c.copy_reached.ensures.copies
