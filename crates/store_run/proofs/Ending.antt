-- From the opening of a run and its parts to what stands where its heap is closed.
use Rattle.std.proofs.Common.{◌≡◌, ◌≤◌, ℕ}
use Rattle.std.proofs.Common.{List, [], ◌∷◌}
use Rattle.std.proofs.Common.{All, length, map}
use Rattle.std.proofs.Common.{sym, ◌∙◌, ap, subst, arith}
use Rattle.std.specs.Prelude.{Vec}
use Rattle.std.specs.declared.alloc.Global.{Global}
use Rattle.std.proofs.lemmas.List.{length-map, length-take}
use Rattle.std.proofs.lemmas.List.Elements.{All-cons, All-head, All-nil, All-tail}
use Rattle.client_run.specs.Options.{IsWithin, client_limits, limits_of, shape_of}
use Rattle.client_run.specs.declared.options.Options.{Options}
use Rattle.client_session.specs.declared.journal.Limits.{Limits as ClientLimits}
use Rattle.client_threads.specs.Clients.{places_for, store_limits}
use Rattle.client_threads.specs.Taken.{AreFronts, AreTaken, lists_of}
use Rattle.client_threads.proofs.AtClose.{AtClose}
use Rattle.doc_model.specs.ClientLog.{ClientLog}
use Rattle.doc_model.specs.declared.command.Command.{Command}
use Rattle.doc_model.specs.declared.command.Entry.{Entry}
use Rattle.heap_rule.specs.Shape.{Shape}
use Rattle.heap_rule.specs.declared.view.View.{View}
use Rattle.run_limits.specs.declared.TheConstants.{MOST_COMMANDS}
use Rattle.store_run.specs.Answered.{commands_of}
use Rattle.version_rule.specs.Pass.{Pass}

-- logs with the first commands of short scripts are short
pub short_logs : (scripts : List (Vec Command Global)) (logs : List ClientLog)
    → All (λ (script : Vec Command Global). length script.items ≤ MOST_COMMANDS) scripts
    → AreFronts (map commands_of logs) (lists_of scripts)
    → All (λ (g : ClientLog). length g.entries ≤ MOST_COMMANDS) logs
short_logs [] [] short fronts = All-nil (λ (g : ClientLog). length g.entries ≤ MOST_COMMANDS)
short_logs [] (g ∷ logs) short fronts = absurd fronts
short_logs (script ∷ scripts) [] short fronts = absurd fronts
short_logs (script ∷ scripts) (g ∷ logs) short fronts =
    let first = ap (λ (xs : List Command). length xs) fronts.0 in
    let cut = length-take (length (commands_of g)) script.items in
    let many = length-map g.entries (λ (e : Entry). e.command) in
    let few = All-head (λ (script : Vec Command Global). length script.items ≤ MOST_COMMANDS) script
    scripts short in
    All-cons (λ (g : ClientLog). length g.entries ≤ MOST_COMMANDS) g logs
    (omega (arith, first, cut, many, few))
    (short_logs scripts logs
    (All-tail (λ (script : Vec Command Global). length script.items ≤ MOST_COMMANDS) script scripts
    short) fronts.1)

pub many_lists : (scripts : List (Vec Command Global)) → length (lists_of scripts) ≡ length scripts
many_lists scripts = length-map scripts (λ (script : Vec Command Global). script.items)

-- the shape, by the number of the lists
pub shaped : (o : Options) (scripts : List (Vec Command Global)) (h : Shape)
    → h ≡ shape_of o (length scripts) → h ≡ shape_of o (length (lists_of scripts))
shaped o scripts h is =
    is ∙ ap (λ (n : ℕ). shape_of o n) (sym (many_lists scripts))

-- What is known at the close, for so many lists as there are scripts.
pub closing : (o : Options) (scripts : List (Vec Command Global)) (h : Shape)
    (limits : ClientLimits) (logs : List ClientLog) (lists : List (List Command))
    (v : View Pass) → h ≡ shape_of o (length scripts) → 1 ≤ length scripts → IsWithin o
    → limits ≡ client_limits o
    → AreTaken (store_limits limits) h.cells (places_for limits.minor) (length scripts) logs
    v.places
    → length lists ≡ length scripts
    → AtClose o (length lists) (length lists) logs v
closing o scripts h limits logs lists v shape least within limits_are taken many =
    let those : AreTaken (limits_of o) o.cells (places_for o.minor) (length scripts) logs v.places =
    subst (λ (k : Shape). AreTaken (limits_of o) k.cells (places_for o.minor) (length scripts)
    logs v.places) shape
    (subst (λ (l : ClientLimits). AreTaken (store_limits l) h.cells (places_for l.minor)
    (length scripts) logs v.places) limits_are taken) in
    subst (λ (n : ℕ). AtClose o n n logs v) (sym many) record {
      least = least;
      within = within;
      many = those.many;
      left = those.left;
      rooms = those.rooms;
    }
