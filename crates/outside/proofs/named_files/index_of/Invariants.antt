use Rattle.std.proofs.Common.{◌≡◌, drop}
use Rattle.outside.specs.Named.{files_of, content_named}
use Rattle.outside.proofs.named_files.index_of.Given as goal

-- the files so far have other names
abbrev pub invariant-loop-index : goal.invariant-loop-index
invariant-loop-index l =
    content_named (files_of (drop l.index l.files)) l.name ≡ content_named (files_of l.files) l.name
