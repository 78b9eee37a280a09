-- The writes of calls that follow one another.
use Rattle.std.proofs.Common.{◌≡◌, ◌⊎◌, Bool, true, false, List, [], ◌∷◌, ◌++◌, inl, inr, Some}
use Rattle.std.proofs.Common.{length, refl, sym, ◌∙◌, ap, subst, ℕ}
use Rattle.std.specs.List.{list_all}
use Rattle.std.proofs.lemmas.Bool.{and_parts}
use Rattle.std.proofs.lemmas.List.{append-nil, append_assoc}
use Rattle.cell_words.specs.Modes.{barrier_of}
use Rattle.cell_words.specs.declared.controls.Control.{Control}
use Rattle.cell_words.specs.declared.presences.Status.{Status}
use Rattle.cell_words.specs.declared.write_barrier.Barrier.{Barrier}
use Rattle.cell_words.specs.declared.colours.Colour.TheVariants as colour
use Rattle.cell_words.specs.declared.fields.Field.{Field}
use Rattle.core_machine.specs.declared.events.Event.{Event}
use Rattle.core_machine.specs.declared.events.Event.TheVariants as event
use Rattle.core_machine.specs.declared.events.Found.{Found}
use Rattle.core_machine.specs.declared.events.Found.TheVariants as finds
use Rattle.core_machine.specs.declared.events.Taken.{Taken}
use Rattle.core_machine.specs.Words.{lets_store, same_field}
use Rattle.heap_rule.specs.declared.known.Learned.{Learned}
use Rattle.heap_rule.specs.declared.view.View.{View}
use Rattle.heap_rule.specs.Boxes.{Map}
use Rattle.heap_rule.specs.Rule.{took}
use Rattle.mutator_events.specs.declared.values.Value.{Value}
use Rattle.mutator_events.specs.Events.{AtEvent}
use Rattle.mutator_events.specs.Values.{field_at, value_found}
use Rattle.mutator_seat.specs.Bound.{Bound, takes, takes_with}
use Rattle.mutator_seat.specs.Claims.{Claimed, Seeking, seeks}
use Rattle.mutator_seat.specs.Stores.{Looks, Rewritten}
use Rattle.mutator_seat.specs.Stretches.{Calm, MarksOf}
use Rattle.mutator_seat.specs.Writes.{LookAndMarks, Updated, wanted_by, write_of}
use Rattle.mutator_seat.proofs.Writes.{field_same}
use Rattle.trails.specs.Claims.{look_of}
use Rattle.version_rule.specs.Pass.{Pass}
use Rattle.version_rule.specs.Versions.{is_fixed}
use Rattle.version_store.specs.Writes.{Chosen, EndsLink, LosesOnce, ReadsAlone, Writes, WritesLink}
use Rattle.version_store.specs.Writes.{WritesNothing, WritesOnce, chosen, exchange, is_act}
use Rattle.version_store.specs.Writes.{is_write, kept_if}
use Rattle.held_places.proofs.Going.{calm_trail}

chosen_append : (is : Event → Bool) (xs ys : List Taken)
    → chosen is (xs ++ ys) ≡ chosen is xs ++ chosen is ys
chosen_append is [] ys = refl
chosen_append is (t ∷ xs) ys =
    let first = kept_if (is t.event) t in
    ap (λ (ts : List Taken). first ++ ts) (chosen_append is xs ys)
    ∙ sym (append_assoc first (chosen is xs) (chosen is ys))

pub writes_none : (a : Bound Pass) → WritesNothing a a
writes_none a = record { added = []; trail = sym (append-nil a.seat.me.trail); are = refl }

pub chosen_then : (is : Event → Bool) (xs ys : List Taken) (a b c : Bound Pass) → Chosen is xs a b
    → Chosen is ys b c → Chosen is (xs ++ ys) a c
chosen_then is xs ys a b c first second = record {
  added = first.added ++ second.added;
  trail = second.trail ∙ ap (λ (ts : List Taken). ts ++ second.added) first.trail
      ∙ append_assoc a.seat.me.trail first.added second.added;
  are = chosen_append is first.added second.added ∙ (λ i. first.are i ++ second.are i);
}

then_none : (is : Event → Bool) (xs : List Taken) (a b c : Bound Pass) → Chosen is xs a b
    → Chosen is [] b c → Chosen is xs a c
then_none is xs a b c first second =
    subst (λ (ws : List Taken). Chosen is ws a c) (append-nil xs)
    (chosen_then is xs [] a b c first second)

pub nothing_then : (ys : List Taken) (a b c : Bound Pass) → WritesNothing a b → Writes ys b c
    → Writes ys a c
nothing_then ys a b c first second = chosen_then is_write [] ys a b c first second

pub then_nothing : (xs : List Taken) (a b c : Bound Pass) → Writes xs a b → WritesNothing b c
    → Writes xs a c
then_nothing xs a b c first second = then_none is_write xs a b c first second

-- One event.

chosen_event : (is : Event → Bool) (a b : Bound Pass) (e : Event) (found : Found)
    → b.seat.me.trail ≡ a.seat.me.trail ++ took e found ∷ []
    → Chosen is (kept_if (is e) (took e found)) a b
chosen_event is a b e found grows = record {
  added = took e found ∷ [];
  trail = grows;
  are = append-nil (kept_if (is e) (took e found));
}

pub writes_event : (a b : Bound Pass) (e : Event) (found : Found)
    → b.seat.me.trail ≡ a.seat.me.trail ++ took e found ∷ []
    → Writes (kept_if (is_write e) (took e found)) a b
writes_event a b e found grows = chosen_event is_write a b e found grows

pub chosen_told : (is : Event → Bool) (a b : Bound Pass) (e : Event) (found : Found)
    → b ≡ takes a e found → Chosen is (kept_if (is e) (took e found)) a b
chosen_told is a b e found told =
    chosen_event is a b e found (ap (λ (m : Bound Pass). m.seat.me.trail) told)

pub writes_told : (a b : Bound Pass) (e : Event) (found : Found) → b ≡ takes a e found
    → Writes (kept_if (is_write e) (took e found)) a b
writes_told a b e found told =
    writes_event a b e found (ap (λ (m : Bound Pass). m.seat.me.trail) told)

pub filled_writes : (a b : Bound Pass) (e : Event) (found : Found) (pass : Pass)
    → b ≡ takes_with a e found pass → Writes (kept_if (is_write e) (took e found)) a b
filled_writes a b e found pass told =
    writes_event a b e found (ap (λ (m : Bound Pass). m.seat.me.trail) told)

pub read_writes : (holds : Map → List Pass → Type 0) (next : Learned → Found → Pass → Pass)
    (a b : Bound Pass) (place f : ℕ) (found : Found)
    → AtEvent holds is_fixed a.seat.me (event.Read a.seat.me.number place f) next found b.seat.me
    → WritesNothing a b
read_writes holds next a b place f found step =
    writes_event a b (event.Read a.seat.me.number place f) found
    (ap (λ (v : View Pass). v.trail) step.new)

pub reads_alone : (holds : Map → List Pass → Type 0) (next : Learned → Found → Pass → Pass)
    (a b : Bound Pass) (place f : ℕ) (found : Found)
    → AtEvent holds is_fixed a.seat.me (event.Read a.seat.me.number place f) next found b.seat.me
    → ReadsAlone a b
reads_alone holds next a b place f found step = record {
  acts = chosen_event is_act a b (event.Read a.seat.me.number place f) found
      (ap (λ (v : View Pass). v.trail) step.new);
  status = ap (λ (v : View Pass). v.presence.status) step.new;
}

pub alone_then : (a b c : Bound Pass) → ReadsAlone a b → ReadsAlone b c → ReadsAlone a c
alone_then a b c first second = record {
  acts = chosen_then is_act [] [] a b c first.acts second.acts;
  status = second.status ∙ first.status;
}

-- Stretches that kept all.

calm_chosen : (is : Event → Bool) (F : List Taken → Type 0) (these : List Taken) (a b : Bound Pass)
    → ((es : List Taken) → F es → chosen is es ≡ these) → Calm F a b → Chosen is these a b
calm_chosen is F these a b are calm = record {
  added = calm.added;
  trail = calm_trail F a b calm;
  are = are calm.added calm.fact;
}

calm_writes : (F : List Taken → Type 0) (a b : Bound Pass)
    → ((es : List Taken) → F es → chosen is_write es ≡ []) → Calm F a b → WritesNothing a b
calm_writes F a b none calm = calm_chosen is_write F [] a b none calm

seeks_kept : (t : Taken) (e : Event) (found : Found) → seeks e found ≡ true
    → kept_if (is_write e) t ≡ []
seeks_kept t (event.Look i) found is = refl
seeks_kept t (event.Mark i place) found is = refl
seeks_kept t (event.Answer i) found is = refl
seeks_kept t (event.Claim i cell) found is = refl
seeks_kept t e found is = absurd cc

seeking_none : (es : List Taken) → Seeking es → chosen is_write es ≡ []
seeking_none [] are = refl
seeking_none (t ∷ ts) are =
    let parts = and_parts (seeks t.event t.found)
    (list_all (λ (u : Taken). seeks u.event u.found) ts) are in
    λ i. seeks_kept t t.event t.found parts.0 i ++ seeking_none ts parts.1 i

-- marks of some places
marks_none : (is : Event → Bool) → ((i place : ℕ) → is (event.Mark i place) ≡ false)
    → (number : ℕ) (places : List ℕ) (es : List Taken) → MarksOf number places es
    → chosen is es ≡ []
marks_none is quiet number places [] are = refl
marks_none is quiet number [] (t ∷ ts) are = absurd cc
marks_none is quiet number (place ∷ places) (t ∷ ts) are =
    let first : t.event ≡ event.Mark number place = cc in
    let rest : MarksOf number places ts = cc in
    (λ i. kept_if (is (first i)) t ++ marks_none is quiet number places ts rest i)
    ∙ ap (λ (k : Bool). kept_if k t ++ []) (quiet number place)

look_none : (number : ℕ) (own : Status) (old new : Value) (es : List Taken)
    → LookAndMarks number own old new es → chosen is_write es ≡ []
look_none number own old new es is =
    ap (λ (ts : List Taken). chosen is_write ts) is.split
    ∙ marks_none is_write (λ i place. refl) number (wanted_by (barrier_of own is.control) old new)
    is.marks is.marks_are

pub sought_writes : (a b : Bound Pass) → Calm Seeking a b → WritesNothing a b
sought_writes a b calm = calm_writes Seeking a b seeking_none calm

pub claimed_writes : (a b : Bound Pass) (place : ℕ) → Claimed a place b → WritesNothing a b
claimed_writes a b place got =
    nothing_then [] a got.at b (sought_writes a got.at got.calm)
    (writes_told got.at b (event.Claim got.at.seat.me.number got.cell) (finds.Colour colour.Blue)
    got.told)

-- A field that is loaded, marks, the write, and the places that are kept.
pub rewrites : (chooses : Event → Bool) → ((i place : ℕ) → chooses (event.Mark i place) ≡ false)
    → ((i n place count : ℕ) → chooses (event.Keep i n place count) ≡ false)
    → (holds : Map → List Pass → Type 0) (wanted : Barrier) (loads : Event)
    (reads : Learned → Found → Pass → Pass) (seen : Field) (writes : Bound Pass → Event)
    (next : Learned → Found → Pass → Pass) (found : Found) (new : Value) (a b : Bound Pass)
    (is : Rewritten holds is_fixed wanted loads reads seen writes next found new a b)
    → chooses loads ≡ false → chooses (writes is.replaced.at) ≡ true
    → Chosen chooses (took (writes is.replaced.at) found ∷ []) a b
rewrites chooses mark keep holds wanted loads reads seen writes next found new a b is quiet loud =
    let loaded = is.replaced.loaded in
    let at = is.replaced.at in
    let t = took (writes at) found in
    let load : Chosen chooses [] a loaded =
    subst (λ (k : Bool). Chosen chooses (kept_if k (took loads (finds.Field seen))) a loaded) quiet
    (chosen_event chooses a loaded loads (finds.Field seen)
    (ap (λ (v : View Pass). v.trail) is.replaced.load.event.new)) in
    let marks : Chosen chooses [] loaded at =
    calm_chosen chooses _ [] loaded at (marks_none chooses mark a.seat.me.number
    (wanted_by wanted (value_found (length a.seat.me.own.held) seen) new)) is.replaced.marks in
    let write : Chosen chooses (t ∷ []) at is.written =
    subst (λ (k : Bool). Chosen chooses (kept_if k t) at is.written) loud
    (chosen_event chooses at is.written (writes at) found
    (ap (λ (v : View Pass). v.trail) is.replaced.write.event.new)) in
    let n = length a.seat.me.own.held in
    let cut = event.Keep is.written.seat.me.number n 0 0 in
    let end = finds.Presence is.written.seat.me.presence in
    then_none chooses (t ∷ []) a is.written b
    (chosen_then chooses [] (t ∷ []) a at is.written
    (chosen_then chooses [] [] a loaded at load marks) write)
    (subst (λ (k : Bool). Chosen chooses (kept_if k (took cut end)) is.written b)
    (keep is.written.seat.me.number n 0 0) (chosen_told chooses is.written b cut end is.told))

pub looks_writes : (control : Control) (a b : Bound Pass) → Looks control a b → WritesNothing a b
looks_writes control a b calm =
    calm_writes (λ es. es ≡ look_of a.seat.me.number control ∷ []) a b
    (λ es is. ap (λ (ts : List Taken). chosen is_write ts) is) calm

pub looks_once : (control : Control) (a b : Bound Pass) → Looks control a b
    → Chosen is_act (look_of a.seat.me.number control ∷ []) a b
looks_once control a b calm =
    calm_chosen is_act (λ es. es ≡ look_of a.seat.me.number control ∷ [])
    (look_of a.seat.me.number control ∷ []) a b
    (λ es is. ap (λ (ts : List Taken). chosen is_act ts) is) calm

-- A write, with its look and its marks.
module _ (holds : Map → List Pass → Type 0) (next : Learned → Found → Pass → Pass)
    (a b : Bound Pass) (old new : Value) (found : Field)
    (wrote : Updated holds is_fixed next a 0 0 old new found b) where
  abbrev from : Field
  from = field_at a.seat.me.own.held old

  abbrev box : Field
  box = field_at wrote.at.seat.me.own.held new

  pub exchanged : Writes (exchange a.seat.me.number from box found ∷ []) a b
  exchanged =
      let at = wrote.at in
      let word = field_same at.seat.me.own.held a.seat.me.own.held wrote.calm.kept.held old in
      subst (λ (t : Taken). Writes (t ∷ []) a b)
      (λ i. exchange (wrote.calm.kept.number i) (word i) box found)
      (nothing_then (took (write_of at 0 0 old new) (finds.Field found) ∷ []) a at b
      (calm_writes (LookAndMarks a.seat.me.number a.seat.me.presence.status old new) a at
      (look_none a.seat.me.number a.seat.me.presence.status old new) wrote.calm)
      (writes_event at b (write_of at 0 0 old new) (finds.Field found)
      (ap (λ (v : View Pass). v.trail) wrote.event.new)))

pub writes_once : (holds : Map → List Pass → Type 0) (next : Learned → Found → Pass → Pass)
    (a b : Bound Pass) (old new : Value) (found : Field) → found ≡ field_at a.seat.me.own.held old
    → Updated holds is_fixed next a 0 0 old new found b → WritesOnce a b
writes_once holds next a b old new found is wrote = record {
  from = field_at a.seat.me.own.held old;
  box = field_at wrote.at.seat.me.own.held new;
  writes = subst (λ (w : Field). Writes (exchange a.seat.me.number
      (field_at a.seat.me.own.held old) (field_at wrote.at.seat.me.own.held new) w ∷ []) a b) is
      (exchanged holds next a b old new found wrote);
}

pub loses_once : (holds : Map → List Pass → Type 0) (next : Learned → Found → Pass → Pass)
    (a b : Bound Pass) (old new : Value) (found : Field)
    → same_field found (field_at a.seat.me.own.held old) ≡ false
    → Updated holds is_fixed next a 0 0 old new found b → LosesOnce a b
loses_once holds next a b old new found other wrote = record {
  from = field_at a.seat.me.own.held old;
  box = field_at wrote.at.seat.me.own.held new;
  found = found;
  other = other;
  writes = exchanged holds next a b old new found wrote;
}

-- What a commit does: it claims a cell, reads, makes the box, writes, and cuts its places.

module _ (a b c d : Bound Pass) (number : b.seat.me.number ≡ a.seat.me.number)
    (first : WritesNothing a b) (last : WritesNothing c d) where
  around : (writes : List Taken) → Writes writes b c → Writes writes a d
  around writes middle =
      then_nothing writes a c d (nothing_then writes a b c first middle) last

  pub once_around : WritesOnce b c → WritesOnce a d
  once_around once = record {
    from = once.from;
    box = once.box;
    writes = subst (λ (n : ℕ). Writes (exchange n once.from once.box once.from ∷ []) a d) number
        (around (exchange b.seat.me.number once.from once.box once.from ∷ []) once.writes);
  }

  pub lost_around : LosesOnce b c → LosesOnce a d
  lost_around lost = record {
    from = lost.from;
    box = lost.box;
    found = lost.found;
    other = lost.other;
    writes = subst (λ (n : ℕ). Writes (exchange n lost.from lost.box lost.found ∷ []) a d) number
        (around (exchange b.seat.me.number lost.from lost.box lost.found ∷ []) lost.writes);
  }

  pub left_around : WritesNothing b c ⊎ LosesOnce b c → WritesNothing a d ⊎ LosesOnce a d
  left_around (inl none) = inl (around [] none)
  left_around (inr lost) = inr (lost_around lost)

-- A link that is ended.

pub link_behind : (a b c : Bound Pass) → b.seat.me.number ≡ a.seat.me.number → WritesNothing a b
    → ReadsAlone a b → WritesLink b c → WritesLink a c
link_behind a b c number first alone link = record {
  control = link.control;
  taken = link.taken;
  ends = subst (λ (n : ℕ). EndsLink (lets_store a.seat.me.presence.status (Some link.control)) n
      link.taken.event) number
      (subst (λ (own : Status). EndsLink (lets_store own (Some link.control)) b.seat.me.number
      link.taken.event) alone.status link.ends);
  acts = subst (λ (n : ℕ). Chosen is_act (look_of n link.control ∷ link.taken ∷ []) a c) number
      (chosen_then is_act [] (look_of b.seat.me.number link.control ∷ link.taken ∷ []) a b c
      alone.acts link.acts);
  writes = nothing_then (link.taken ∷ []) a b c first link.writes;
}

pub link_before : (a b c : Bound Pass) → WritesLink a b → WritesNothing b c
    → Chosen is_act [] b c → WritesLink a c
link_before a b c link last quiet = record {
  control = link.control;
  taken = link.taken;
  ends = link.ends;
  acts = then_none is_act (look_of a.seat.me.number link.control ∷ link.taken ∷ []) a b c
      link.acts quiet;
  writes = then_nothing (link.taken ∷ []) a b c link.writes last;
}

pub at_most_behind : (a b c : Bound Pass) → b.seat.me.number ≡ a.seat.me.number
    → WritesNothing a b → ReadsAlone a b → WritesNothing b c ⊎ WritesLink b c
    → WritesNothing a c ⊎ WritesLink a c
at_most_behind a b c number first alone (inl none) = inl (nothing_then [] a b c first none)
at_most_behind a b c number first alone (inr link) =
    inr (link_behind a b c number first alone link)

pub at_most_before : (a b c : Bound Pass) → WritesNothing a b ⊎ WritesLink a b
    → WritesNothing b c → Chosen is_act [] b c → WritesNothing a c ⊎ WritesLink a c
at_most_before a b c (inl none) last quiet = inl (nothing_then [] a b c none last)
at_most_before a b c (inr link) last quiet = inr (link_before a b c link last quiet)
