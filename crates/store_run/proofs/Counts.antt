-- Entries and new versions, counted log by log.
use Rattle.std.proofs.Common.{◌≡◌, ◌≤◌, ◌<◌, ◌+◌, ◌*◌, ℕ, List, []}
use Rattle.std.proofs.Common.{◌∷◌, ◌++◌, length, drop, get_or}
use Rattle.std.proofs.Common.{All, sym, ◌∙◌, ap, arith, filter}
use Rattle.std.specs.List.{count_by}
use Rattle.std.proofs.lemmas.List.{at_drop_more, length-append, length-map}
use Rattle.std.proofs.lemmas.List.Elements.{All-head, All-tail, filter-append}
use Rattle.std.proofs.lemmas.List.Sums.{count_by-le-length, length-filter}
use Rattle.doc_model.specs.Agreement.{ok_places}
use Rattle.doc_model.specs.Answers.{is_ok}
use Rattle.doc_model.specs.ClientLog.{ClientLog}
use Rattle.doc_model.specs.Merge.{all_entries}
use Rattle.doc_model.specs.declared.command.Entry.{Entry}
use Rattle.run_limits.specs.declared.TheConstants.{MOST_COMMANDS, MOST_VERSIONS}

-- how many versions so many entries made
pub made_count : (es : List Entry)
    → length (ok_places es) ≡ count_by (λ (e : Entry). is_ok e.reply) es
made_count es =
    length-map (filter (λ (e : Entry). is_ok e.reply) es) (λ (e : Entry). e.place)
    ∙ length-filter (λ (e : Entry). is_ok e.reply) es

pub made_few : (es : List Entry) → length (ok_places es) ≤ length es
made_few es =
    let few = count_by-le-length (λ (e : Entry). is_ok e.reply) es in
    let same = made_count es in
    omega (arith, few, same)

made_append : (ds es : List Entry)
    → length (ok_places (ds ++ es)) ≡ length (ok_places ds) + length (ok_places es)
made_append ds es =
    length-map (filter (λ (e : Entry). is_ok e.reply) (ds ++ es)) (λ (e : Entry). e.place)
    ∙ ap (λ (xs : List Entry). length xs) (filter-append (λ (e : Entry). is_ok e.reply) ds es)
    ∙ length-append (filter (λ (e : Entry). is_ok e.reply) ds)
    (filter (λ (e : Entry). is_ok e.reply) es)
    ∙ (λ i. sym (length-map (filter (λ (e : Entry). is_ok e.reply) ds)
    (λ (e : Entry). e.place)) i
    + sym (length-map (filter (λ (e : Entry). is_ok e.reply) es) (λ (e : Entry). e.place)) i)

-- the logs from one on have its entries and those of the later ones
pub entries_next : (logs : List ClientLog) (i : ℕ) (d : ClientLog) → i < length logs
    → length (all_entries (drop i logs))
    ≡ length (get_or logs i d).entries + length (all_entries (drop (i + 1) logs))
entries_next logs i d lt =
    at_drop_more (λ (gs : List ClientLog). length (all_entries gs)) logs i d lt
    ∙ length-append (get_or logs i d).entries (all_entries (drop (i + 1) logs))

pub made_next : (logs : List ClientLog) (i : ℕ) (d : ClientLog) → i < length logs
    → length (ok_places (all_entries (drop i logs)))
    ≡ length (ok_places (get_or logs i d).entries)
    + length (ok_places (all_entries (drop (i + 1) logs)))
made_next logs i d lt =
    at_drop_more (λ (gs : List ClientLog). length (ok_places (all_entries gs))) logs i d lt
    ∙ made_append (get_or logs i d).entries (all_entries (drop (i + 1) logs))

-- logs that are short have few entries
pub few_entries : (logs : List ClientLog)
    → All (λ (g : ClientLog). length g.entries ≤ MOST_COMMANDS) logs
    → length (all_entries logs) ≤ MOST_COMMANDS * length logs
few_entries [] short = omega arith
few_entries (g ∷ logs) short =
    let one = All-head (λ (g : ClientLog). length g.entries ≤ MOST_COMMANDS) g logs short in
    let rest = few_entries logs
    (All-tail (λ (g : ClientLog). length g.entries ≤ MOST_COMMANDS) g logs short) in
    let sum = length-append g.entries (all_entries logs) in
    omega (arith, one, rest, sum)

-- So the next log's entries can be counted too, and the new versions among them.
module _ (logs : List ClientLog) (i : ℕ) (log : ClientLog) (few : length logs ≤ 64)
    (short : All (λ (g : ClientLog). length g.entries ≤ MOST_COMMANDS) logs) (lt : i < length logs)
    (is : log ≡ get_or logs i log) where
  pub entries_fit : (count : ℕ)
      → count + length (all_entries (drop i logs)) ≡ length (all_entries logs)
      → count + length log.entries ≤ MOST_VERSIONS
  entries_fit count so_far =
      let next = entries_next logs i log lt in
      let its = ap (λ (g : ClientLog). length g.entries) is in
      let all = few_entries logs short in
      omega (arith, next, its, all, so_far, few)

  pub made_fit : (count : ℕ)
      → count + length (ok_places (all_entries (drop i logs)))
      ≡ length (ok_places (all_entries logs))
      → count + length (ok_places log.entries) ≤ MOST_VERSIONS
  made_fit count so_far =
      let next = made_next logs i log lt in
      let its = ap (λ (g : ClientLog). length (ok_places g.entries)) is in
      let all = few_entries logs short in
      let fewer = made_few (all_entries logs) in
      omega (arith, next, its, all, so_far, few, fewer)
