-- The first word of a command.
-- Source: this project's own.
use Rattle.std.specs.Prelude.{ℕ, List, codes, bytes_eq, if◌then◌else◌, Option, Some, None}
use Rattle.cmd_text.specs.declared.verb.Verb.{Verb}
use Rattle.cmd_text.specs.declared.verb.Verb.TheVariants as verbs

-- the command that a first word asks for
abbrev pub verb_of : List ℕ → Option Verb
verb_of word =
    if bytes_eq word (codes "put") then Some verbs.Put
    else if bytes_eq word (codes "del") then Some verbs.Del
    else if bytes_eq word (codes "copy") then Some verbs.Copy
    else if bytes_eq word (codes "get") then Some verbs.Get
    else if bytes_eq word (codes "list") then Some verbs.List
    else if bytes_eq word (codes "size") then Some verbs.Size
    else if bytes_eq word (codes "old") then Some verbs.Old
    else if bytes_eq word (codes "dput") then Some verbs.DraftPut
    else if bytes_eq word (codes "dget") then Some verbs.DraftGet
    else if bytes_eq word (codes "take") then Some verbs.Take
    else if bytes_eq word (codes "publish") then Some verbs.Publish
    else None
