-- A run of clients beside which a version is dumped: its status is that which the scripts of the
-- files and the tree of the version call for.
use Rattle.std.proofs.Common.{◌≡◌, ◌∙◌, ℕ, List, Option, None, Some, Result, Ok, Err}
use Rattle.std.proofs.Common.{OnOk, inl, inr, refl, sym, ap, subst, rules, arith}
use Rattle.std.specs.Prelude.{◌⊎◌, IsNone, IsSomeAnd, Vec}
use Rattle.std.specs.declared.alloc.Global.{Global}
use Rattle.doc_export.specs.declared.dumped.Dumped.{Dumped}
use Rattle.doc_model.specs.declared.command.Command.{Command}
use Rattle.script_files.specs.Fault.{status_by}
use Rattle.script_files.specs.Sorts.{OfScripts, Refused, Sort, sort_of}
use Rattle.script_files.specs.Sorts.{OfWords, OfLine, OfReading, OfWriting, OfMemory, OfSize}
use Rattle.script_files.specs.declared.fault.Fault.{Fault}
use Rattle.script_files.specs.declared.fault.Fault.TheVariants.{TooLarge}
use Rattle.doc_run.specs.Guested.{AreFewScripts, DecidesDump, FinishesDump, IsDumpDue}
use Rattle.doc_run.specs.Guested.{IsDumpDueFor, IsDumpRunGiven, IsDumpText, IsTooLarge}

-- Of the version.

pub too_large : (P : Dumped → Type 0) (dumped : Option Dumped)
    → IsSomeAnd dumped (λ d. P d × IsNone d.bytes) → IsTooLarge dumped
too_large P None is = is
too_large P (Some d) is = is.1

some_none : {X : Type 0} (P : X → Type 0) (found : Option X) → IsSomeAnd found P → IsNone found → ⊥
some_none P None is none = is
some_none P (Some x) is none = cc

-- its dump shows that it is not too large
has_bytes : (d : Dumped) (text : List ℕ) → IsDumpText d text → IsNone d.bytes → ⊥
has_bytes d text is none =
    some_none (λ (bytes : Vec ℕ Global). text ≡ bytes.items) d.bytes is none

pub none_small : (dumped : Option Dumped) → IsNone dumped → IsTooLarge dumped → ⊥
none_small None none big = big
none_small (Some d) none big = cc

-- The status that is due.

due_by : (told : List (Option (List ℕ))) (outcome : Result (List (List Command)) Fault)
    (dumped : Option Dumped) (status : ℕ) → AreFewScripts told outcome
    → IsDumpDue outcome dumped status → IsDumpDueFor told dumped status
due_by told outcome dumped status are due scripts decided =
    subst (λ s. IsDumpDue s dumped status) (sym are.2 ∙ decided are.0 are.1) due

ended_due : (scripts : List (List Command)) (dumped : Option Dumped) (status : ℕ)
    → (status ≡ 0) ⊎ (status ≡ 4) → (IsTooLarge dumped → ⊥) → IsDumpDue (Ok scripts) dumped status
ended_due scripts dumped status ends fits = record {
  faulty = (
    (λ two. absurd (elim ends [
      | inl e ↦ omega (arith, two, e)
      | inr e ↦ omega (arith, two, e)
    ])),
    (λ facts. absurd facts.1),
  );
  large = (
    (λ six. absurd (elim ends [
      | inl e ↦ omega (arith, six, e)
      | inr e ↦ omega (arith, six, e)
    ])),
    (λ facts. absurd (elim facts.1 [ inl never ↦ never | inr big ↦ fits big ])),
  );
  complete = λ ok. elim ends [ inl e ↦ inl e | inr e ↦ inr (inr (inl e)) ];
}

faulty_due : (fault : Fault) (dumped : Option Dumped) → sort_of fault ≡ OfLine OfScripts
    → IsNone dumped → IsDumpDue (Err fault) dumped 2
faulty_due fault dumped is none = record {
  faulty = ((λ two. (search rules, is)), (λ facts. refl));
  large = (
    (λ six. absurd (omega (arith, six))),
    (λ facts. absurd (elim facts.1 [
      | inl other ↦ cc
      | inr big ↦ none_small dumped none big
    ])),
  );
  complete = search rules;
}

large_due : (fault : Fault) (dumped : Option Dumped) → sort_of fault ≡ OfSize
    → IsDumpDue (Err fault) dumped 6
large_due fault dumped is = record {
  faulty = (
    (λ two. absurd (omega (arith, two))),
    (λ facts. let other = facts.1 in absurd (cc)),
  );
  large = ((λ six. (search rules, inl is)), (λ facts. refl));
  complete = search rules;
}

many_due : (scripts : List (List Command)) (dumped : Option Dumped) → IsTooLarge dumped
    → IsDumpDue (Ok scripts) dumped 6
many_due scripts dumped big = record {
  faulty = ((λ two. absurd (omega (arith, two))), (λ facts. absurd facts.1));
  large = ((λ six. (search rules, inr big)), (λ facts. refl));
  complete = λ ok. inr (inr (inr (inr big)));
}

unread_due : (outcome : Result (List (List Command)) Fault) (dumped : Option Dumped)
    → IsDumpDue outcome dumped 3
unread_due outcome dumped = record {
  faulty = ((λ two. absurd (omega (arith, two))), (λ facts. absurd (facts.0.0 refl)));
  large = ((λ six. absurd (omega (arith, six))), (λ facts. absurd (facts.0.0 refl)));
  complete = λ ok. inr (inl refl);
}

wanting_due : (outcome : Result (List (List Command)) Fault) (dumped : Option Dumped) (status : ℕ)
    → status ≡ 5 → IsDumpDue outcome dumped status
wanting_due outcome dumped status is = record {
  faulty = ((λ two. absurd (omega (arith, is, two))), (λ facts. absurd (facts.0.1 is)));
  large = ((λ six. absurd (omega (arith, is, six))), (λ facts. absurd (facts.0.1 is)));
  complete = λ ok. inr (inr (inr (inl is)));
}

pub beside_wanting : (told : List (Option (List ℕ))) (dumped : Option Dumped) (status : ℕ)
    → status ≡ 5 → IsDumpDueFor told dumped status
beside_wanting told dumped status is scripts decided = wanting_due scripts dumped status is

-- the run came to an end, with this dump
pub dump_answered : (told : List (Option (List ℕ))) (d : Dumped) (text : List ℕ) (status : ℕ)
    → (status ≡ 0) ⊎ (status ≡ 4) → IsDumpRunGiven told d → IsDumpText d text
    → IsDumpDueFor told (Some d) status
dump_answered told d text status ends is said =
    due_by told (Ok is.0) (Some d) status is.1
    (ended_due is.0 (Some d) status ends (λ big. has_bytes d text said big))

-- with too large a tree
many : (told : List (Option (List ℕ))) (dumped : Option Dumped)
    → IsSomeAnd dumped (λ d. IsDumpRunGiven told d × IsNone d.bytes) → IsDumpDueFor told dumped 6
many told None is = absurd is
many told (Some d) is =
    due_by told (Ok is.0.0) (Some d) 6 is.0.1 (many_due is.0.0 (Some d) is.1)

refused_sort : (told : List (Option (List ℕ))) (fault : Fault) (dumped : Option Dumped)
    (sort : Sort) → sort_of fault ≡ sort
    → Refused OfScripts sort (AreFewScripts told (Err fault)) (Unit {0}) → IsNone dumped
    → IsDumpDueFor told dumped (status_by sort)
refused_sort told fault dumped OfWords same is none = absurd is
refused_sort told fault dumped (OfLine grammar) same is none =
    due_by told (Err fault) dumped 2 is.1
    (faulty_due fault dumped (same ∙ ap OfLine is.0) none)
refused_sort told fault dumped OfReading same is none =
    λ scripts decided. unread_due scripts dumped
refused_sort told fault dumped OfWriting same is none = absurd is
refused_sort told fault dumped OfMemory same is none =
    λ scripts decided. wanting_due scripts dumped 5 refl
refused_sort told fault dumped OfSize same is none =
    due_by told (Err fault) dumped 6 is (large_due fault dumped same)

-- it was refused, before it or after it
pub dump_refused : (told : List (Option (List ℕ))) (dumped : Option Dumped) (fault : Fault)
    → (Refused OfScripts (sort_of fault) (AreFewScripts told (Err fault)) (Unit {0})
    × IsNone dumped)
    ⊎ ((fault ≡ TooLarge 0) × IsSomeAnd dumped (λ d. IsDumpRunGiven told d × IsNone d.bytes))
    → IsDumpDueFor told dumped (status_by (sort_of fault))
dump_refused told dumped fault is = elim is [
  | inl refused ↦ refused_sort told fault dumped (sort_of fault) refl refused.0 refused.1
  | inr large ↦
      subst (λ (f : Fault). IsDumpDueFor told dumped (status_by (sort_of f))) (sym large.0)
      (many told dumped large.1)
]

-- What the run comes to.

pub decided : (told : List (Option (List ℕ))) (scripts : List (List Command))
    (r : Result Dumped Fault) → AreFewScripts told (Ok scripts) → FinishesDump scripts r
    → DecidesDump told r
decided told scripts (Ok d) given comes = (scripts, given, comes)
decided told scripts (Err fault) given wants =
    subst (λ (x : Fault). DecidesDump told (Err x)) (sym wants) tt

-- what stands behind the reading of all scripts stands wherever the run comes to an end
pub on_end : {X : Type 0} (r : Result Dumped Fault) → X → OnOk r X
on_end (Ok d) fact = fact
on_end (Err fault) fact = tt
