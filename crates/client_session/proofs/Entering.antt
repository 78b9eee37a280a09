-- The journal after an answer, and where memory ran out.
use Rattle.std.proofs.Common.{◌≡◌, ℕ, ◌+◌, ◌≤◌, ◌<◌, Bool, not, List, []}
use Rattle.std.proofs.Common.{◌∷◌, ◌++◌, length, All, refl, sym, ◌∙◌, ap, subst}
use Rattle.std.proofs.Common.{arith}
use Rattle.std.proofs.lemmas.List.{length-map}
use Rattle.std.proofs.lemmas.List.Filters.{length-filter_both}
use Rattle.std.specs.List.{filter}
use Rattle.run_limits.specs.declared.TheConstants.{MOST_COMMANDS}
use Rattle.client_session.specs.Turns.{InStep, MayTurn, account_of, bounds}
use Rattle.client_session.specs.declared.journal.Journal.{Journal}
use Rattle.client_session.specs.declared.journal.Limits.{Limits as StoreLimits}
use Rattle.client_history.specs.Demands.{Demand}
use Rattle.client_history.specs.State.{ClientState}
use Rattle.client_history.specs.Turns.{IsInStep, Lost, Turned, account_in}
use Rattle.client_history.proofs.Stepping.{in_step_lost, in_step_turned}
use Rattle.doc_model.specs.Agreement.{ok_places}
use Rattle.doc_model.specs.Answers.{Limits, is_ok}
use Rattle.doc_model.specs.ClientLog.{ClientLog}
use Rattle.doc_model.specs.Growth.{KeepsUp}
use Rattle.doc_model.specs.declared.command.Command.{Command}
use Rattle.doc_model.specs.declared.command.Entry.{Entry}
use Rattle.doc_model.specs.declared.command.Reply.{Reply}
use Rattle.trails.specs.Stretches.{InTurn}
use Rattle.version_rule.specs.Fits.{Fits}

-- a log with more spare room is in step too
pub same_step : (l : Limits) (t : ClientState) (last : ℕ) (log new : ClientLog)
    → new.client ≡ log.client → new.entries ≡ log.entries → IsInStep l t last log
    → IsInStep l t last new
same_step l t last log new client entries step = record {
  keep = step.keep;
  own = subst (λ (n : ℕ). All (λ (e : Entry). e.client ≡ n) new.entries) (sym client)
      (subst (λ (es : List Entry). All (λ (e : Entry). e.client ≡ log.client) es) (sym entries)
      step.own);
  commits = ap ok_places entries ∙ step.commits;
  seen = step.seen;
  keeps_up = subst
      (λ (es : List Entry). KeepsUp l (λ trees. Fits trees t.pass) (account_in t last (length es))
      es)
      (sym entries) step.keeps_up;
  turns = subst (λ (es : List Entry). InTurn (Demand t.cells) es t.marks) (sym entries) step.turns;
  claims =
      subst (λ (es : List Entry). length (ok_places es) ≤ t.claims) (sym entries) step.claims;
  trimmed =
      subst
      (λ (es : List Entry). All (λ (made : ℕ). made + 1 ≤ t.pass.cut + l.keep) (ok_places es))
      (sym entries) step.trimmed;
}

-- nothing was made
pub lost_step : (l : Limits) (last : ℕ) (log new : ClientLog) {s t : ClientState}
    → IsInStep l s last log → new.client ≡ log.client → new.entries ≡ log.entries
    → Lost s t
    → IsInStep l t last new
lost_step l last log new {t = t} step client entries lost =
    same_step l t last log new client entries (in_step_lost l last log step lost)

-- The journal with its new entry, by the parts of it.
pub entered_step : (old new : Journal) {s t : ClientState} (c d : Command) (r q : Reply)
    (place : ℕ) → InStep old s
    → Turned (bounds old.limits) old.log.client (account_of old s) c s t r place → d ≡ c
    → q ≡ r
    → new.log.entries ≡ old.log.entries ++ record {
      client = old.log.client;
      number = length old.log.entries + 1;
      command = d;
      reply = q;
      place = place;
    } ∷ []
    → new.limits ≡ old.limits → new.log.client ≡ old.log.client → new.last ≡ place
    → InStep new t
entered_step old new {t = t} c d r q place step turned asked said entries limits client last =
    let l = bounds old.limits in
    let log = old.log in
    let entry : Command → Reply → Entry =
    λ x y. record {
      client = log.client;
      number = length log.entries + 1;
      command = x;
      reply = y;
      place = place;
    } in
    let kept : IsInStep l t place new.log =
    in_step_turned l old.last log new.log c r place step turned client
    (entries
    ∙ ap (λ (x : Command). log.entries ++ entry x q ∷ []) asked
    ∙ ap (λ (y : Reply). log.entries ++ entry c y ∷ []) said) in
    subst (λ (b : StoreLimits). IsInStep (bounds b) t new.last new.log) (sym limits)
    (subst (λ (p : ℕ). IsInStep l t p new.log) (sym last) kept)

-- Fewer versions were made than commands answered.

few_ok : (es : List Entry) → length (ok_places es) ≤ length es
few_ok es =
    let test : Entry → Bool = λ e. is_ok e.reply in
    let other : Entry → Bool = λ e. not (is_ok e.reply) in
    omega (
      arith,
      length-map (filter test es) (λ (e : Entry). e.place),
      length-filter_both test other (λ e. refl) es,
    )

pub may_of : (j new : Journal) (s : ClientState) → InStep j s → length j.log.entries < MOST_COMMANDS
    → new.limits ≡ j.limits → new.last ≡ j.last
    → MayTurn new s
may_of j new s step few limits last = record {
  keep = step.keep ∙ ap (λ (b : StoreLimits). b.keep) (sym limits);
  last = let x = step.seen in omega (arith, x, last);
  few = let x = few_ok j.log.entries in
      let e = ap length step.commits in
      omega (arith, x, e, few);
}
