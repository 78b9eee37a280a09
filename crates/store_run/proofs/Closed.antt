-- The outcome of a run, from what stands at the close of its heap.
--
-- counted   the state that the image shows, with the versions that stay
-- comes     all of it
use Rattle.std.proofs.Common.{◌≡◌, ◌≤◌, ◌<◌, ◌+◌, ℕ}
use Rattle.std.proofs.Common.{zero, suc, Bool, true, false, List}
use Rattle.std.proofs.Common.{[], ◌∷◌, length, map, refl, sym, ◌∙◌, ap, subst}
use Rattle.std.proofs.Common.{arith}
use Rattle.std.specs.Prelude.{◌||◌}
use Rattle.std.specs.List.{list_any}
use Rattle.std.proofs.lemmas.List.Folds.{list_any-append}
use mathlib.Core.Option.{some}
use lib.ListN.{get_elem?}
use Rattle.client_run.specs.Options.{limits_of, shape_of}
use Rattle.client_run.specs.declared.options.Options.{Options}
use Rattle.client_threads.specs.Ends.{IsService}
use Rattle.client_threads.proofs.AtClose.{AtClose, agreed, tied}
use Rattle.client_history.specs.Runs.{was_full}
use Rattle.closed_store.proofs.Kept.{census_kept}
use Rattle.closed_store.specs.Chain.{ShowsVersions}
use Rattle.closed_heap.specs.Closing.{AreJoined}
use Rattle.closed_store.specs.Closing.{EndedStore}
use Rattle.closed_store.proofs.Chaining.{versions_shown}
use Rattle.closed_heap.proofs.Claiming.{all_claimed}
use Rattle.closed_heap.proofs.Out.{joined_out}
use Rattle.core_machine.specs.Collector.{Collector}
use Rattle.dlg_core.specs.Collects.{IsTidy}
use Rattle.dlg_core.specs.Sums.{claims_of}
use Rattle.doc_model.specs.Agreement.{rising}
use Rattle.doc_model.specs.ClientLog.{ClientLog}
use Rattle.doc_model.specs.Merge.{all_entries}
use Rattle.doc_model.specs.declared.command.Command.{Command}
use Rattle.doc_model.specs.declared.command.Entry.{Entry}
use Rattle.doc_model.specs.declared.totals.Totals.{Totals}
use Rattle.heap_rule.specs.Shape.{Shape}
use Rattle.heap_rule.specs.declared.view.Place.TheVariants as places
use Rattle.heap_rule.specs.declared.view.View.{View}
use Rattle.heap_table.specs.Images.{ImageView, Shows}
use Rattle.mutator_threads.specs.Closing.{HasCollected}
use Rattle.client_history.specs.Agreed.{LogsAgree}
use Rattle.store_run.specs.Answered.{commands_of}
use Rattle.store_run.specs.Finished.{Comes, IsTotals}
use Rattle.store_run.specs.Parts.{IsCounted}
use Rattle.version_rule.specs.Pass.{Pass}

-- an entry of a log that found the heap full
record FoundFull (logs : List ClientLog) : Type 0 where
  pub client : ℕ
  pub log : ClientLog
  pub log_at : get_elem? logs client ≡ some log
  pub place : ℕ
  pub entry : Entry
  pub entry_at : get_elem? log.entries place ≡ some entry
  pub full : was_full entry ≡ true

-- one of these entries did
record FoundIn (es : List Entry) : Type 0 where
  pub place : ℕ
  pub entry : Entry
  pub entry_at : get_elem? es place ≡ some entry
  pub full : was_full entry ≡ true

found_first : (e : Entry) (es : List Entry) (b : Bool) → was_full e ≡ b
    → (b || list_any was_full es) ≡ true → (list_any was_full es ≡ true → FoundIn es)
    → FoundIn (e ∷ es)
found_first e es true is h later =
    record { place = 0; entry = e; entry_at = refl; full = is }
found_first e es false is h later =
    let found = later h in record {
      place = suc found.place;
      entry = found.entry;
      entry_at = found.entry_at;
      full = found.full;
    }

found_in : (es : List Entry) → list_any was_full es ≡ true → FoundIn es
found_in [] h = absurd cc
found_in (e ∷ es) h = found_first e es (was_full e) refl h (λ rest. found_in es rest)

full_first : (g : ClientLog) (logs : List ClientLog) (b : Bool)
    → list_any was_full g.entries ≡ b → (b || list_any was_full (all_entries logs)) ≡ true
    → (list_any was_full (all_entries logs) ≡ true → FoundFull logs)
    → FoundFull (g ∷ logs)
full_first g logs true is h later =
    let found = found_in g.entries is in record {
      client = 0;
      log = g;
      log_at = refl;
      place = found.place;
      entry = found.entry;
      entry_at = found.entry_at;
      full = found.full;
    }
full_first g logs false is h later =
    let found = later h in record {
      client = suc found.client;
      log = found.log;
      log_at = found.log_at;
      place = found.place;
      entry = found.entry;
      entry_at = found.entry_at;
      full = found.full;
    }

full_log : (logs : List ClientLog) → list_any was_full (all_entries logs) ≡ true
    → FoundFull logs
full_log [] h = absurd cc
full_log (g ∷ logs) h =
    full_first g logs (list_any was_full g.entries) refl
    (sym (list_any-append was_full g.entries (all_entries logs)) ∙ h)
    (λ rest. full_log logs rest)

there : {A : Type 0} (xs : List A) (i : ℕ) (x : A) → get_elem? xs i ≡ some x → i < length xs
there [] i x h = absurd cc
there (y ∷ ys) zero x h = omega arith
there (y ∷ ys) (suc i) x h = let rest = there ys i x h in omega (arith, rest)

-- What the totals are known by: each state that the image shows.
pub record AreCounted (logs : List ClientLog) (image : ImageView) (v : View Pass) (cells : ℕ)
    (totals : Totals) : Type 0 where
  pub freed : ℕ
  pub freed_is : v.part.number_freed ≡ freed
  pub are : (counted : IsCounted image freed) → IsTotals counted.core logs counted.trees totals
  pub balance : 3 + totals.claimed ≡ totals.used + totals.freed
  pub all_cells : totals.used + totals.free ≡ cells

module _ (o : Options) (scripts : List (List Command)) (logs : List ClientLog)
    (image : ImageView) (v : View Pass)
    (at : AtClose o (length scripts) (length scripts) logs v) where
  joined : AreJoined (length scripts) v.places
  joined = λ i lt. let one = at.left i lt in record { share = one.share; share_at = one.share_at }

  module _ (ended : EndedStore (shape_of o (length scripts)) image.words v)
      (shown : Shows image ended.shows.core) where
    agrees : LogsAgree (limits_of o) (shape_of o (length scripts)) image.words v logs ended
    agrees = agreed o (length scripts) (length scripts) logs image.words v at ended

    stay : ShowsVersions ended.shows.core o.keep ended.shows.kept.trees
    stay =
        subst (λ (keep : ℕ). ShowsVersions ended.shows.core keep ended.shows.kept.trees)
        agrees.keep
        (versions_shown (shape_of o (length scripts)) image.words v ended agrees.cut.client
        agrees.cut.pass agrees.cut.pass_at agrees.cut.far
        (joined_out (shape_of o (length scripts)) image.words v ended joined))

    counted_here : (freed : ℕ) → v.part.number_freed ≡ freed → IsCounted image freed
    counted_here freed is = record {
      core = ended.shows.core;
      shown = shown;
      shaped = ended.shows.shaped;
      balanced = ended.shows.balanced;
      freed_is = ap (λ (p : Collector). p.number_freed) ended.collector.part ∙ is;
      keep = o.keep;
      trees = ended.shows.kept.trees;
      versions = stay;
    }

    full_here : list_any was_full (all_entries logs) ≡ true
        → o.cells ≤ claims_of ended.shows.core + 3
    full_here met =
        let found = full_log logs met in
        let within = there logs found.client found.log found.log_at in
        let one = at.left found.client (omega (arith, within, at.many)) in
        let its = agrees.clients found.client found.log one.share found.log_at one.share_at in
        let had = its.full found.place found.entry found.entry_at found.full in
        all_claimed (shape_of o (length scripts)) image.words v ended found.client one.share
        had.before had.stretch had.after one.share_at had.is had.meets

    comes_here : (f : ℕ)
        → HasCollected (shape_of o (length scripts)) o.cycles f ended.shows.core v
        → (totals : Totals) → AreCounted logs image v o.cells totals
        → map commands_of logs ≡ scripts → Comes o scripts logs image v totals
    unfolding counted_here
    comes_here f collected totals are answered =
        let totals_are = are.are (counted_here are.freed are.freed_is) in
        let n = length scripts in
        let cycles = totals_are.cycles in
        let tidy : totals.cycles < o.cycles → IsTidy ended.shows.core =
        (λ fewer. collected.tidy (omega (arith, cycles, fewer))) in
        let claimed = agrees.claimed in
        let a = totals_are.versions in
        let b = totals_are.claimed in
        record {
          heap = record {
            ended = ended;
            shown = shown;
            tied = λ i lt. tied o n n logs image.words v at ended i lt (omega arith);
            totals_are = totals_are;
            balance = are.balance;
            all_cells = are.all_cells;
            stay = stay;
            made = agrees.made ∙ ap (λ (n : ℕ). n + 1) (sym a);
            claims = omega (arith, claimed, a, b);
            full = λ met. let whole = full_here met in omega (arith, whole, b);
            service = subst (λ (k : ℕ). IsService o.cycles n k v.trail) (sym cycles)
                collected.service;
            cycles = let few = collected.cycles_are in omega (arith, cycles, few);
            tidy = tidy;
            census = census_kept (shape_of o (length scripts)) image v ended o.keep
                ended.shows.kept.trees stay (totals.cycles < o.cycles) shown tidy;
          };
          answered = record {
            clients = agrees.agree.clients ∙ ap (λ (n : ℕ). rising 0 n) at.many;
            commands = answered;
            agree = agrees.agree;
            merged = agrees.legal;
          };
        }

  -- the heap's shape is that of the run
  pub counted : (h : Shape) → h ≡ shape_of o (length scripts)
      → (ended : EndedStore h image.words v) → Shows image ended.shows.core
      → (freed : ℕ) → v.part.number_freed ≡ freed → IsCounted image freed
  counted h is =
      subst (λ (k : Shape). (ended : EndedStore k image.words v) → Shows image ended.shows.core
      → (freed : ℕ) → v.part.number_freed ≡ freed → IsCounted image freed) (sym is)
      (λ ended shown freed same. counted_here ended shown freed same)

  pub comes : (h : Shape) → h ≡ shape_of o (length scripts)
      → (ended : EndedStore h image.words v) → Shows image ended.shows.core
      → (f : ℕ) → HasCollected h o.cycles f ended.shows.core v
      → (totals : Totals) → AreCounted logs image v o.cells totals
      → map commands_of logs ≡ scripts → Comes o scripts logs image v totals
  comes h is =
      subst (λ (k : Shape). (ended : EndedStore k image.words v) → Shows image ended.shows.core
      → (f : ℕ) → HasCollected k o.cycles f ended.shows.core v
      → (totals : Totals) → AreCounted logs image v o.cells totals
      → map commands_of logs ≡ scripts → Comes o scripts logs image v totals) (sym is)
      (λ ended shown f collected totals are answered.
      comes_here ended shown f collected totals are answered)
