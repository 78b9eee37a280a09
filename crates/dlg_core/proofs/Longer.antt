-- A run that goes on by one event, and one that is cut in two.
use Rattle.std.proofs.Common.{◌≡◌, ℕ, true, ◌+◌, ◌<◌, List, [], ◌∷◌, ◌++◌, length, take, get_or}
use Rattle.std.proofs.Common.{Some, refl, sym, subst, ◌∙◌}
use Rattle.std.proofs.lemmas.List.{take_more}
use Rattle.core_machine.specs.declared.events.Event.{Event}
use Rattle.core_machine.specs.State.{State}
use Rattle.core_machine.specs.Next.{can, after, next}
use Rattle.core_machine.specs.Run.{Runs, last}
use Rattle.core_machine.proofs.Ranges.Events.{when_some}
use Rattle.dlg_core.specs.Runs.{taken_from, LeadsTo}

runs_more : (s : State) (es : List Event) (e : Event) → Runs s (taken_from s es)
    → can (last s (taken_from s es)) e ≡ true → Runs s (taken_from s (es ++ e ∷ []))
runs_more s [] e r c = (c, refl, tt)
runs_more s (x ∷ xs) e r c = (r.0, r.1, runs_more (after s x) xs e r.2 c)

last_more : (s : State) (es : List Event) (e : Event)
    → last s (taken_from s (es ++ e ∷ [])) ≡ after (last s (taken_from s es)) e
last_more s [] e = refl
last_more s (x ∷ xs) e = last_more (after s x) xs e

-- one event more
pub leads_more : (s : State) (es : List Event) (e : Event) (t u : State) → LeadsTo s es t
    → next t e ≡ Some u → LeadsTo s (es ++ e ∷ []) u
leads_more s es e t u run step =
    let w = when_some (can t e) (after t e) u step in
    let here : can (last s (taken_from s es)) e
    ≡ true = subst (λ v. can v e ≡ true) (sym run.ends) w.0 in
    let there : after (last s (taken_from s es)) e ≡ u
    = subst (λ v. after v e ≡ u) (sym run.ends) w.1 in
    record { runs = runs_more s es e run.runs here; ends = last_more s es e ∙ there }

-- which is the next of a list
pub leads_next : (s : State) (es : List Event) (i : ℕ) (d : Event) (t u : State) → i < length es
    → LeadsTo s (take i es) t → next t (get_or es i d) ≡ Some u → LeadsTo s (take (i + 1) es) u
leads_next s es i d t u lt run step =
    subst (λ xs. LeadsTo s xs u) (sym (take_more es i d lt))
    (leads_more s (take i es) (get_or es i d) t u run step)

-- a run of two lists is a run of the one, and then of the other
pub leads_apart : (s : State) (first rest : List Event) (t : State) → LeadsTo s (first ++ rest) t
    → (m : State) × LeadsTo s first m × LeadsTo m rest t
leads_apart s [] rest t leads = (s, record { runs = tt; ends = refl }, leads)
leads_apart s (e ∷ first) rest t leads =
    let r = leads_apart
    (after s e) first rest t record { runs = leads.runs.2; ends = leads.ends } in
    (r.0, record { runs = (leads.runs.0, leads.runs.1, r.1.runs); ends = r.1.ends }, r.2)
