-- Cycles in a row, and when it is enough.
use Rattle.std.proofs.Common.{◌≡◌, ◌+◌, ◌&&◌, ℕ, Bool, true, false, not, IsTrue, List, [], ◌∷◌}
use Rattle.std.proofs.Common.{◌++◌}
use Rattle.std.proofs.Common.{◌≤◌, inl, inr, length, refl, sym, ◌∙◌, ap, arith}
use Rattle.std.proofs.lemmas.Bool.{and_from, and_parts, false≢true}
use Rattle.std.proofs.lemmas.List.{append_assoc, append-nil, length-append}
use Rattle.std.proofs.lemmas.List.Folds.{list_all-append}
use Rattle.std.specs.List.{list_all}
use Rattle.core_machine.specs.declared.events.Taken.{Taken}
use Rattle.dlg_core.specs.PlainCycle.{ends_cycle}
use Rattle.collector.specs.Counting.{goes_on, is_duty, is_free}
use Rattle.collector.specs.Cycles.{AfterOver, AreWhole, Heard, IsWhole, MadeCycles, Wholes}
use Rattle.collector.specs.Cycles.{joined}
use Rattle.collector.specs.Over.{AllOver}
use Rattle.collector.specs.Replay.{Work}
use Rattle.collector.specs.Serving.{Serving, ServesOn, is_done, next_rest}
use Rattle.collector.specs.declared.report.CycleReport.{CycleReport}
use Rattle.collector.specs.declared.serving.Rest.{Rest}
use Rattle.collector.specs.declared.serving.Rest.TheVariants as rests
use Rattle.collector.proofs.Counted.{counted}
use Rattle.collector.proofs.Hearing.{over_late}

joined_append : (xss yss : List (List Taken)) → joined (xss ++ yss) ≡ joined xss ++ joined yss
joined_append [] yss = refl
joined_append (xs ∷ xss) yss =
    ap (λ (zs : List Taken). xs ++ zs) (joined_append xss yss)
    ∙ sym (append_assoc xs (joined xss) (joined yss))

whole_append : (xss yss : List (List Taken)) → AreWhole xss → AreWhole yss
    → AreWhole (xss ++ yss)
whole_append [] yss first second = second
whole_append (xs ∷ xss) yss first second = (first.0, whole_append xss yss first.1 second)

pub wholes_none : Wholes 0 []
wholes_none = record { cycles = []; split = refl; whole = tt; many = refl }

wholes_join : (m n : ℕ) (xs ys : List Taken) → Wholes m xs → Wholes n ys
    → Wholes (m + n) (xs ++ ys)
wholes_join m n xs ys first second = record {
  cycles = first.cycles ++ second.cycles;
  split = ap (λ (zs : List Taken). zs ++ ys) first.split
      ∙ ap (λ (zs : List Taken). joined first.cycles ++ zs) second.split
      ∙ sym (joined_append first.cycles second.cycles);
  whole = whole_append first.cycles second.cycles first.whole second.whole;
  many = length-append first.cycles second.cycles
      ∙ ap (λ (k : ℕ). k + length second.cycles) first.many
      ∙ ap (λ (k : ℕ). m + k) second.many;
}

wholes_one : (ys : List Taken) → IsWhole ys → Wholes 1 ys
wholes_one ys whole = record {
  cycles = ys ∷ [];
  split = sym (append-nil ys);
  whole = (whole, tt);
  many = refl;
}

wholes_more : (m : ℕ) (xs ys : List Taken) → Wholes m xs → IsWhole ys → Wholes (m + 1) (xs ++ ys)
wholes_more m xs ys first whole = wholes_join m 1 xs ys first (wholes_one ys whole)

-- one cycle more after all were found over
after_more : (later mutators count : ℕ) (xs ys : List Taken) → AfterOver later mutators count xs
    → IsWhole ys → AfterOver (later + 1) mutators (count + 1) (xs ++ ys)
after_more later mutators count xs ys so whole = record {
  before = so.before;
  after = so.after ++ ys;
  first = so.first;
  split = ap (λ (zs : List Taken). zs ++ ys) so.split ∙ append_assoc so.before so.after ys;
  first_whole = so.first_whole;
  over = so.over;
  later_whole = wholes_more later so.after ys so.later_whole whole;
  many = omega (arith, so.many);
}

pub serving_more : (rest : Rest) (over : Bool) (mutators count : ℕ) (xs ys : List Taken)
    → is_done rest ≡ false → Serving rest mutators count xs → IsWhole ys
    → (IsTrue over → AllOver 0 mutators ys)
    → Serving (next_rest rest over) mutators (count + 1) (xs ++ ys)
serving_more rests.Unknown true mutators count xs ys on so whole heard = record {
  before = xs ++ ys;
  after = [];
  first = count + 1;
  split = sym (append-nil (xs ++ ys));
  first_whole = wholes_more count xs ys so whole;
  over = over_late 0 mutators xs ys (heard refl);
  later_whole = wholes_none;
  many = omega arith;
}
serving_more rests.Unknown false mutators count xs ys on so whole heard =
    wholes_more count xs ys so whole
serving_more rests.Two over mutators count xs ys on so whole heard =
    after_more 0 mutators count xs ys so whole
serving_more rests.One over mutators count xs ys on so whole heard =
    after_more 1 mutators count xs ys so whole
serving_more rests.Done over mutators count xs ys on so whole heard =
    absurd (false≢true (sym on))

after_wholes : (later mutators count : ℕ) (xs : List Taken) → AfterOver later mutators count xs
    → Wholes count xs
after_wholes later mutators count xs so =
    let both = wholes_join so.first later so.before so.after so.first_whole so.later_whole in
    record {
      cycles = both.cycles;
      split = so.split ∙ both.split;
      whole = both.whole;
      many = both.many ∙ sym so.many;
    }

pub serving_wholes : (rest : Rest) (mutators count : ℕ) (xs : List Taken)
    → Serving rest mutators count xs → Wholes count xs
serving_wholes rests.Unknown mutators count xs so = so
serving_wholes rests.Two mutators count xs so = after_wholes 0 mutators count xs so
serving_wholes rests.One mutators count xs so = after_wholes 1 mutators count xs so
serving_wholes rests.Done mutators count xs so = after_wholes 2 mutators count xs so

pub serving_done : (rest : Rest) (mutators count : ℕ) (xs : List Taken) → is_done rest ≡ true
    → Serving rest mutators count xs → AfterOver 2 mutators count xs
serving_done rests.Unknown mutators count xs done so = absurd (false≢true done)
serving_done rests.Two mutators count xs done so = absurd (false≢true done)
serving_done rests.One mutators count xs done so = absurd (false≢true done)
serving_done rests.Done mutators count xs done so = so

-- A whole cycle tells of no duty.

abbrev pub no_duty : List Taken → Bool
no_duty events = list_all (λ (t : Taken). not (is_duty t.event)) events

on_no_duty : (xs : List Taken) → list_all (λ (t : Taken). goes_on t.event) xs ≡ true
    → no_duty xs ≡ true
on_no_duty [] on = refl
on_no_duty (x ∷ xs) on =
    let parts = and_parts (goes_on x.event) (list_all (λ (t : Taken). goes_on t.event) xs) on in
    and_from (not (is_duty x.event)) (no_duty xs)
    (and_parts (not (ends_cycle x.event)) (not (is_duty x.event)) parts.0).1
    (on_no_duty xs parts.1)

pub no_duty_more : (xs ys : List Taken) → no_duty xs ≡ true → IsWhole ys
    → no_duty (xs ++ ys) ≡ true
no_duty_more xs ys first whole =
    list_all-append (λ (t : Taken). not (is_duty t.event)) xs ys
    ∙ and_from (no_duty xs) (no_duty ys) first
    (ap (λ (zs : List Taken). no_duty zs) whole.whole
    ∙ list_all-append (λ (t : Taken). not (is_duty t.event)) whole.between _
    ∙ ap (λ (b : Bool). b && true) (on_no_duty whole.between whole.one))

-- What the loop over cycles keeps, and what it amounts to.

pub serves_more : (rest : Rest) (over : Bool) (mutators count freed : ℕ) (from : Work)
    (report : CycleReport) (xs ys : List Taken) → is_done rest ≡ false
    → ServesOn rest mutators count freed xs → Heard from mutators report over ys
    → ServesOn (next_rest rest over) mutators (count + 1) (freed + report.freed) (xs ++ ys)
serves_more rest over mutators count freed from report xs ys on so heard = record {
  serving = serving_more rest over mutators count xs ys on so.serving heard.reported.cycle
      heard.over_so;
  freed_are = counted (λ (t : Taken). is_free t.event) xs ys freed report.freed so.freed_are
      heard.reported.freed_are;
  no_duty = no_duty_more xs ys so.no_duty heard.reported.cycle;
}

pub made_done : (rest : Rest) (mutators most count freed : ℕ) (xs : List Taken)
    → is_done rest ≡ true → count ≤ most → ServesOn rest mutators count freed xs
    → MadeCycles mutators most count freed xs
made_done rest mutators most count freed xs done le so = record {
  whole = serving_wholes rest mutators count xs so.serving;
  most_are = le;
  why = inr (serving_done rest mutators count xs done so.serving);
  freed_are = so.freed_are;
  no_duty = so.no_duty;
}

pub made_all : (rest : Rest) (mutators most count freed : ℕ) (xs : List Taken)
    → count ≡ most → ServesOn rest mutators count freed xs
    → MadeCycles mutators most count freed xs
made_all rest mutators most count freed xs all so = record {
  whole = serving_wholes rest mutators count xs so.serving;
  most_are = omega (arith, all);
  why = inl all;
  freed_are = so.freed_are;
  no_duty = so.no_duty;
}
