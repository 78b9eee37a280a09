-- What the logs of a run show. Each client left a log in step with the pass, the trail and the
-- claims of its mutator, and the collector's view at the close has these of the last state.
--
-- agree, legal  each log is tied to its mutator's pass, and the passes are those of the rule.
-- keep          the first client's pass has the setting of the store and that of the rule.
-- claimed       each log made no more versions than its mutator claimed cells.
-- cut           the last version was made by some client, whose pass has cut the links for it.
-- clients       the client's law on one log, by its mutator's share.
use Rattle.std.proofs.Common.{◌≡◌, ℕ, zero, suc, ◌+◌, ◌<◌, ◌≤◌, List}
use Rattle.std.proofs.Common.{length, map, refl, sym, ◌∙◌, subst, arith}
use Rattle.std.specs.List.{Contains}
use Rattle.std.proofs.lemmas.List.Elements.{All-contains}
use Rattle.std.proofs.lemmas.List.Sorted.{Contains-permutation}
use mathlib.Core.Option.{some}
use lib.ListN.{get_elem?}
use Rattle.client_history.specs.Runs.{ShowsRun, was_full}
use Rattle.client_history.proofs.Running.{shows_run}
use Rattle.client_history.proofs.Stepping.{tied}
use Rattle.core_machine.specs.Own.{Own, no_own}
use Rattle.dlg_core.specs.Sums.{claims_of}
use Rattle.doc_model.specs.Agreement.{Agree, ok_places, rising}
use Rattle.doc_model.specs.Answers.{Limits}
use Rattle.doc_model.specs.ClientLog.{ClientLog}
use Rattle.doc_model.specs.Merge.{all_entries}
use Rattle.doc_model.proofs.Composes.{composes}
use Rattle.heap_rule.specs.Boxes.{boxes_of}
use Rattle.heap_rule.specs.Laws.{ShareShows}
use Rattle.heap_rule.specs.Shape.{Shape}
use Rattle.heap_rule.specs.declared.view.Place.TheVariants as places
use Rattle.heap_rule.specs.declared.view.Share.{Share}
use Rattle.heap_rule.specs.declared.view.View.{View}
use Rattle.trails.specs.Claims.{IsFull}
use Rattle.trails.specs.Marks.{Mark, marks_of}
use Rattle.version_rule.specs.Pass.{Pass}
use Rattle.version_rule.specs.Tied.{Tied}
use Rattle.version_rule.specs.Versions.{IsInStep}
use Rattle.version_rule.proofs.Passing.{all_at}
use Rattle.version_rule.proofs.Tying.{agree}
use Rattle.client_history.specs.Agreed.{EachShowsLog, IsCutFar, LogsAgree, ShowsLog}
use Rattle.client_history.specs.Closing.{EndedStore}
use Rattle.client_history.specs.Left.{AreLeft, IsClientLeft, IsLeft}
use Rattle.client_history.proofs.Finding.{IsFoundIn, found_in, last_risen, oks_joined, oks_of}
use Rattle.client_history.proofs.Indices.{all_within, at_below, at_once, at_read, at_there}
use Rattle.client_history.proofs.Indices.{rising_at}
use Rattle.client_history.proofs.Indices.{zip_at}
use Rattle.client_history.proofs.InTurn.{turn_had}

-- One client.

module _ (l : Limits) (cells client : ℕ) (log : ClientLog) (share : Share Pass)
    (left : IsLeft l cells client log share) where
  left_tied : Tied l share.pass log
  left_tied = subst (λ (p : Pass). Tied l p log) left.pass_is
      (tied l left.state left.last log left.step)

  left_keep : share.pass.keep ≡ l.keep
  left_keep = subst (λ (p : Pass). p.keep ≡ l.keep) left.pass_is left.step.keep

  left_claims : length (oks_of log) ≤ share.own.claims
  left_claims = subst (λ (n : ℕ). length (oks_of log) ≤ n) left.claims_are left.step.claims

  -- a version that it made has its links cut
  left_cut : (n : ℕ) → Contains (oks_of log) n → n + 1 ≤ share.pass.cut + l.keep
  left_cut n has =
      subst (λ (p : Pass). n + 1 ≤ p.cut + l.keep) left.pass_is
      (All-contains (λ (made : ℕ). made + 1 ≤ left.state.pass.cut + l.keep) (oks_of log) n
      left.step.trimmed has)

  left_runs : ShowsRun cells log.entries (marks_of share.trail)
  left_runs = subst (λ (ms : List Mark). ShowsRun cells log.entries ms) left.marks_are
      (subst (λ (n : ℕ). ShowsRun n log.entries left.state.marks) left.cells_are
      (shows_run left.state.cells log.entries left.state.marks left.step.turns))

  left_shown : ShowsLog l cells log share
  left_shown = record {
    tied = left_tied;
    shows = left_runs;
    full = λ k e at is. turn_had (IsFull cells) was_full log.entries k e (marks_of share.trail) at
        is left_runs.full;
  }

-- All of them.

module _ (l : Limits) (h : Shape) (words : List ℕ) (v : View Pass) (logs : List ClientLog)
    (ended : EndedStore h words v) (some_one : 1 ≤ h.mutators) (many : length logs ≡ h.mutators)
    (left : AreLeft l h.cells logs v.places h.mutators) where
  client_at : (i : ℕ) (log : ClientLog) → get_elem? logs i ≡ some log
      → IsClientLeft l h.cells logs v.places i
  client_at i log at = left i (subst (λ (n : ℕ). i < n) many (at_below logs i log at))

  left_at : (i : ℕ) (log : ClientLog) (at : get_elem? logs i ≡ some log)
      → IsLeft l h.cells (i + 1) log (client_at i log at).share
  left_at i log at =
      let client = client_at i log at in
      subst (λ (g : ClientLog). IsLeft l h.cells (i + 1) g client.share)
      (at_once logs i client.log log client.log_at at) client.left

  shows_at : (i : ℕ) (log : ClientLog) (at : get_elem? logs i ≡ some log)
      → ShareShows ended.shows.core ended.shows.passes ended.shows.run i
      (client_at i log at).share
  shows_at i log at =
      let client = client_at i log at in
      ended.collector.joined i client.share client.share_at

  tied_at : (i : ℕ) (p : Pass) (log : ClientLog) → get_elem? ended.shows.passes i ≡ some p
      → get_elem? logs i ≡ some log → Tied l p log
  tied_at i p log pass_at at =
      let share = (client_at i log at).share in
      subst (λ (q : Pass). Tied l q log)
      (at_once ended.shows.passes i share.pass p (shows_at i log at).pass pass_at)
      (left_tied l h.cells (i + 1) log share (left_at i log at))

  numbered : map (λ (g : ClientLog). g.client) logs ≡ rising 0 (length logs)
  numbered = rising_at (λ (g : ClientLog). g.client) logs 0
      (λ i log at. (left_at i log at).client_is ∙ omega arith)

  agreed : Agree l ended.shows.kept.trees logs
  agreed =
      agree l ended.shows.kept.trees ended.shows.passes logs ended.shows.kept.versions
      (zip_at (Tied l) ended.shows.passes logs (ended.passes_fit ∙ sym many) tied_at) numbered

  -- How many versions stay.

  keep_is : (i : ℕ) (log : ClientLog) → get_elem? logs i ≡ some log
      → ended.shows.kept.keep ≡ l.keep
  keep_is i log at =
      let share = (client_at i log at).share in
      let step = all_at (IsInStep ended.shows.kept.keep
      (boxes_of ended.shows.core ended.shows.lore)) ended.shows.passes i share.pass
      (shows_at i log at).pass ended.shows.kept.in_step in
      sym step.keeps ∙ left_keep l h.cells (i + 1) log share (left_at i log at)

  keeps : ended.shows.kept.keep ≡ l.keep
  keeps =
      let first = at_there logs 0 (subst (λ (n : ℕ). 1 ≤ n) (sym many) some_one) in
      keep_is 0 first.0 first.1

  -- How many were made, by the claims of the mutators.

  claimed_at : (i : ℕ) (log : ClientLog) (own : Own) → get_elem? logs i ≡ some log
      → get_elem? ended.shows.core.owns i ≡ some own → length (oks_of log) ≤ own.claims
  claimed_at i log own at own_at =
      let share = (client_at i log at).share in
      let same : share.own ≡ own =
      sym (shows_at i log at).own ∙ at_read ended.shows.core.owns i own no_own own_at in
      subst (λ (o : Own). length (oks_of log) ≤ o.claims) same
      (left_claims l h.cells (i + 1) log share (left_at i log at))

  owns_many : length logs ≡ length ended.shows.core.owns
  owns_many = many ∙ sym ended.shows.last_of.mutators
      ∙ sym ended.shows.shaped.mutators_fit.owns_fit

  claims : length (ok_places (all_entries logs)) ≤ claims_of ended.shows.core
  claims =
      subst (λ (ns : List ℕ). length ns ≤ claims_of ended.shows.core) (sym (oks_joined logs))
      (all_within oks_of (λ (own : Own). own.claims) logs ended.shows.core.owns
      (zip_at (λ (log : ClientLog) (own : Own). length (oks_of log) ≤ own.claims) logs
      ended.shows.core.owns owns_many claimed_at))

  -- Who made the last version has cut the links for it.

  cut_by : (n : ℕ) → length ended.shows.kept.trees ≡ n + 1 → IsFoundIn oks_of logs n
      → IsCutFar ended.shows.kept.keep (length ended.shows.kept.trees) ended.shows.passes
  cut_by n count found =
      let share = (client_at found.index found.item found.item_at).share in
      let far = left_cut l h.cells (found.index + 1) found.item share
      (left_at found.index found.item found.item_at) n found.has in
      let same = keeps in
      record {
        client = found.index;
        pass = share.pass;
        pass_at = (shows_at found.index found.item found.item_at).pass;
        far = omega (arith, count, far, same);
      }

  cut_of : (n : ℕ) → length (ok_places (all_entries logs)) ≡ n
      → IsCutFar ended.shows.kept.keep (length ended.shows.kept.trees) ended.shows.passes
  cut_of zero none =
      let first = at_there ended.shows.passes 0
      (subst (λ (n : ℕ). 1 ≤ n) (sym ended.passes_fit) some_one) in
      let made = agreed.made in
      let least = ended.shows.kept.keeps_some in
      record {
        client = 0;
        pass = first.0;
        pass_at = first.1;
        far = omega (arith, none, made, least);
      }
  cut_of (suc n) count =
      let made = agreed.made in
      let oks : List ℕ = ok_places (all_entries logs) in
      let risen : Contains (rising 0 (length oks)) (suc n) =
      subst (λ (m : ℕ). Contains (rising 0 m) (suc n)) (sym count)
      (last_risen 0 n (suc n) (omega arith)) in
      let there : Contains oks (suc n) =
      Contains-permutation (rising 0 (length oks)) oks (suc n) agreed.once risen in
      cut_by (suc n) (omega (arith, made, count))
      (found_in oks_of logs (suc n)
      (subst (λ (ns : List ℕ). Contains ns (suc n)) (oks_joined logs) there))

  -- Each client, by what its mutator left.

  shown_at : EachShowsLog l h.cells logs v.places
  shown_at i log share at share_at =
      let client = client_at i log at in
      let joined : places.Joined client.share ≡ places.Joined share =
      at_once v.places i (places.Joined client.share) (places.Joined share) client.share_at
      share_at in
      let same : client.share ≡ share = cc in
      subst (λ (s : Share Pass). ShowsLog l h.cells log s) same
      (left_shown l h.cells (i + 1) log client.share (left_at i log at))

  pub logs_agree : LogsAgree l h words v logs ended
  logs_agree = record {
    agree = agreed;
    legal = λ merged merge. composes l ended.shows.kept.trees logs merged agreed merge;
    keep = keeps;
    made = agreed.made;
    claimed = claims;
    cut = cut_of (length (ok_places (all_entries logs))) refl;
    clients = shown_at;
  }
