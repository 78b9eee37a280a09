-- Files that stand by name in memory, and the place up to which one of them was read.
-- Source: this project's own.
use Rattle.std.specs.Prelude.{ℕ, List, [], Option, drop, map, find, option_map, bytes_eq}
use Rattle.std.specs.Prelude.{slice_index_or, string_bytes, String, Vec}
use Rattle.std.specs.declared.alloc.Global.{Global}
use Rattle.outside.specs.declared.named_files.Place.{Place}

-- the names and contents of files in the program's memory
abbrev pub files_of : List (String Global × Vec ℕ Global) → List (List ℕ × List ℕ)
files_of files = map (λ file. (string_bytes file.0, file.1.items)) files

-- what a name holds: the content given with its first mention
abbrev pub content_named : List (List ℕ × List ℕ) → List ℕ → Option (List ℕ)
content_named files name = option_map (λ file. file.1) (find (λ file. bytes_eq file.0 name) files)

-- the content of the file with this index, or nothing past the last
abbrev pub content_at : List (List ℕ × List ℕ) → ℕ → List ℕ
content_at files index = (slice_index_or files index ([], [])).1

-- what is left after a place
abbrev pub left_at : List (List ℕ × List ℕ) → Place → List ℕ
left_at files place = drop place.position (content_at files place.index)

-- what is left of the open file, if one is open
abbrev pub left_of : List (List ℕ × List ℕ) → Option Place → Option (List ℕ)
left_of files place = option_map (left_at files) place
