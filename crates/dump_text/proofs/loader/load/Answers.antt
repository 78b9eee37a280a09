use Rattle.dump_text.proofs.Dumps.{loaded_dump, loaded_of}
use Rattle.dump_text.proofs.loader.load.Goals as goal

pub returns-clause-dump : goal.returns-clause-dump
returns-clause-dump c =
    loaded_dump c.read_dump.result c.args.bytes.now c.read_dump.ensures.contents
    c.read_dump.ensures.lawful

pub returns-clause-dumps : goal.returns-clause-dumps
returns-clause-dumps c = λ v t is.
    loaded_of c.read_dump.result c.args.bytes.now v t c.read_dump.ensures.contents is
