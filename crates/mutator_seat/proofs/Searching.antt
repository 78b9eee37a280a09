-- The tries of a claim follow its takes, part by part.
use Rattle.std.proofs.Common.{◌≡◌, ◌+◌, ℕ, zero, suc, Bool, true, false, List, []}
use Rattle.std.proofs.Common.{◌∷◌, ◌++◌, refl, sym, ◌∙◌, ap, subst, arith}
use Rattle.std.proofs.Common.{Option, None}
use Rattle.std.proofs.lemmas.Bool.{and_parts}
use Rattle.std.proofs.lemmas.List.{append-nil, append_assoc}
use Rattle.std.specs.List.{list_all, range_with_len}
use Rattle.cell_words.specs.Modes.{next_status_of}
use Rattle.cell_words.specs.declared.controls.Control.{Control}
use Rattle.cell_words.specs.declared.presences.Status.{Status}
use Rattle.cell_words.specs.declared.presences.Status.TheVariants as status
use Rattle.core_machine.specs.declared.events.Event.{Event}
use Rattle.core_machine.specs.declared.events.Event.TheVariants as event
use Rattle.core_machine.specs.declared.events.Found.TheVariants as finds
use Rattle.core_machine.specs.declared.events.Taken.{Taken}
use Rattle.free_cells.specs.declared.counts.Counts.{Counts}
use Rattle.free_cells.specs.declared.hints.Hints.{Hints}
use Rattle.free_cells.specs.declared.queue.FreeQueue.{FreeQueue}
use Rattle.free_cells.specs.Hints.{cells_of, counts_of, queue_of}
use Rattle.heap_rule.specs.Rule.{took}
use Rattle.trails.specs.Claims.{look_of}
use Rattle.mutator_seat.specs.Bound.{Bound, takes}
use Rattle.mutator_seat.specs.Claims.{Tried}
use Rattle.mutator_seat.specs.Pacing.{Grew}
use Rattle.mutator_seat.specs.Searches.{Follows, Searches, Tries, TriesFor, Walks, cells_tried}
use Rattle.mutator_seat.specs.Searches.{ends, first_cells, next, patience_after, stops}
use Rattle.mutator_seat.specs.Searches.{tried_by, tries_for}
use Rattle.mutator_seat.specs.Stretches.{AnsweringIf, AreBefore, Calm, LookAndAnswer, answer_of}
use Rattle.mutator_seat.specs.Stretches.{are_marks, is_mark}
use Rattle.mutator_seat.specs.Takes.{GiveAll, Gives, after_take, after_takes}
use Rattle.mutator_seat.proofs.Calm.{trail_all}
use Rattle.mutator_seat.proofs.Handshakes.{looked_at}
use Rattle.mutator_seat.proofs.Takes.{after_more, give_more}

-- Events.

tried_append : (xs ys : List Taken) → cells_tried (xs ++ ys) ≡ cells_tried xs ++ cells_tried ys
tried_append [] ys = refl
tried_append (x ∷ xs) ys =
    ap (λ (zs : List ℕ). tried_by x.event ++ zs) (tried_append xs ys)
    ∙ sym (append_assoc (tried_by x.event) (cells_tried xs) (cells_tried ys))

mark_idle : (e : Event) → is_mark e ≡ true → tried_by e ≡ []
mark_idle (event.Mark i place) is = refl
mark_idle e is = absurd cc

marks_idle : (es : List Taken) → are_marks es → cells_tried es ≡ []
marks_idle [] are = refl
marks_idle (t ∷ ts) are =
    let parts = and_parts (is_mark t.event) (list_all (λ (u : Taken). is_mark u.event) ts) are in
    ap (λ (zs : List ℕ). zs ++ cells_tried ts) (mark_idle t.event parts.0)
    ∙ marks_idle ts parts.1

before_idle : (own : Status) (es : List Taken) → AreBefore own es → cells_tried es ≡ []
before_idle status.Async es are = marks_idle es are
before_idle status.Sync1 es none = ap (λ (ts : List Taken). cells_tried ts) none
before_idle status.Sync2 es none = ap (λ (ts : List Taken). cells_tried ts) none

rest_idle : (answered : Bool) (number : ℕ) (own : Status) (es : List Taken)
    → AnsweringIf answered number own es → cells_tried es ≡ []
rest_idle true number own es answer =
    ap (λ (ts : List Taken). cells_tried ts) answer.split
    ∙ tried_append answer.marks (answer_of number ∷ [])
    ∙ append-nil (cells_tried answer.marks)
    ∙ before_idle (next_status_of own) answer.marks answer.marks_are
rest_idle false number own es none = ap (λ (ts : List Taken). cells_tried ts) none

answer_idle : (number : ℕ) (own : Status) (answered : Bool) (es : List Taken)
    → LookAndAnswer number own answered es → cells_tried es ≡ []
answer_idle number own answered es both =
    ap (λ (ts : List Taken). cells_tried ts) both.split
    ∙ rest_idle answered number own both.rest both.answer

-- Cells.

range_more : (a n : ℕ) → range_with_len a (suc n) ≡ range_with_len a n ++ (a + n) ∷ []
range_more a zero =
    let e : a ≡ a + 0 = omega arith in ap (λ (k : ℕ). (let l : List ℕ = k ∷ [] in l)) e
range_more a (suc n) =
    let e : a + 1 + n ≡ a + suc n = omega arith in
    ap (λ (ks : List ℕ). a ∷ ks) (range_more (a + 1) n
    ∙ ap (λ (k : ℕ). range_with_len (a + 1) n ++ k ∷ []) e)

first_more : (n : ℕ) → first_cells (n + 1) ≡ first_cells n ++ n ∷ []
first_more n =
    let e : n + 1 ≡ suc n = omega arith in
    let own : 0 + n ≡ n = omega arith in
    ap (λ (k : ℕ). first_cells k) e ∙ range_more 0 n
    ∙ ap (λ (k : ℕ). first_cells n ++ k ∷ []) own

-- Parts of a call, said forwards: what follows them by this patience follows with them by that.
abbrev pub FollowsOn : ℕ → ℕ → List (Option ℕ) → ℕ → List ℕ → Type 0
FollowsOn cells p hints q tried =
    (rest : List (Option ℕ)) (more : List ℕ) → Follows cells q rest more
    → Follows cells p (hints ++ rest) (tried ++ more)

gives_on : (before middle : Hints) (given : List (Option ℕ)) (hint : Option ℕ)
    → queue_of middle ≡ queue_of before
    → counts_of middle ≡ after_takes (counts_of before) given
    → GiveAll (cells_of (queue_of before)) (counts_of before) given
    → Gives (cells_of (queue_of middle)) (counts_of middle) hint
    → GiveAll (cells_of (queue_of before)) (counts_of before) (given ++ hint ∷ [])
gives_on before middle given hint same is all one =
    give_more (cells_of (queue_of before)) (counts_of before) given hint all
    (subst (λ (c : Counts). Gives (cells_of (queue_of before)) c hint) is
    (subst (λ (q : FreeQueue). Gives (cells_of q) (counts_of middle) hint) same one))

counts_on : (before middle after : Hints) (given : List (Option ℕ)) (hint : Option ℕ)
    → counts_of middle ≡ after_takes (counts_of before) given
    → counts_of after ≡ after_take (counts_of middle) hint
    → counts_of after ≡ after_takes (counts_of before) (given ++ hint ∷ [])
counts_on before middle after given hint is one =
    one ∙ ap (λ (c : Counts). after_take c hint) is
    ∙ sym (after_more (counts_of before) given hint)

module _ {P : Type 0} where
  -- Stretches.

  grew_then : (F G H : List Taken → Type 0) (a b c : Bound P)
      → ((xs ys : List Taken) → F xs → G ys → H (xs ++ ys)) → Grew F a b → Grew G b c → Grew H a c
  grew_then F G H a b c both first second = record {
    added = first.added ++ second.added;
    trail = second.trail ∙ ap (λ (ts : List Taken). ts ++ second.added) first.trail
        ∙ append_assoc a.seat.me.trail first.added second.added;
    fact = both first.added second.added first.fact second.fact;
  }

  grew_as : (F G : List Taken → Type 0) (a b : Bound P) → ((es : List Taken) → F es → G es)
      → Grew F a b → Grew G a b
  grew_as F G a b so grew = record {
    added = grew.added;
    trail = grew.trail;
    fact = so grew.added grew.fact;
  }

  grew_none : (F : List Taken → Type 0) (a : Bound P) → F [] → Grew F a a
  grew_none F a fact = record {
    added = [];
    trail = sym (append-nil a.seat.me.trail);
    fact = fact;
  }

  calm_tries : (F : List Taken → Type 0) (cells : List ℕ) (a b : Bound P)
      → ((es : List Taken) → F es → cells_tried es ≡ cells) → Calm F a b → Tries cells a b
  calm_tries F cells a b so calm = record {
    added = calm.added;
    trail = ap (λ (m : Bound P). m.seat.me.trail) calm.told ∙ trail_all a calm.added;
    fact = so calm.added calm.fact;
  }

  pub tries_none : (a : Bound P) → Tries [] a a
  tries_none a = grew_none (λ es. cells_tried es ≡ []) a refl

  pub tries_look : (a b : Bound P) (control : Control)
      → b ≡ takes a (event.Look a.seat.me.number) (finds.Control control) → Tries [] a b
  tries_look a b control told =
      calm_tries (λ es. es ≡ look_of a.seat.me.number control ∷ []) [] a b
      (λ es is. ap (λ (ts : List Taken). cells_tried ts) is) (looked_at a b control told)

  pub tries_answer : (a b : Bound P) (answered : Bool)
      → Calm (LookAndAnswer a.seat.me.number a.seat.me.presence.status answered) a b
      → Tries [] a b
  tries_answer a b answered calm =
      calm_tries (LookAndAnswer a.seat.me.number a.seat.me.presence.status answered) [] a b
      (answer_idle a.seat.me.number a.seat.me.presence.status answered) calm

  pub tries_one : (a b : Bound P) (cell : ℕ) → Tried cell a b → Tries (cell ∷ []) a b
  tries_one a b cell tried = record {
    added = took (event.Claim a.seat.me.number cell) (finds.Colour tried.0) ∷ [];
    trail = ap (λ (m : Bound P). m.seat.me.trail) tried.1;
    fact = refl;
  }

  pub tries_as : (xs ys : List ℕ) (a b : Bound P) → xs ≡ ys → Tries xs a b → Tries ys a b
  tries_as xs ys a b same tries =
      grew_as (λ es. cells_tried es ≡ xs) (λ es. cells_tried es ≡ ys) a b (λ es is. is ∙ same)
      tries

  pub tries_then : (xs ys : List ℕ) (a b c : Bound P) → Tries xs a b → Tries ys b c
      → Tries (xs ++ ys) a c
  tries_then xs ys a b c first second =
      grew_then (λ es. cells_tried es ≡ xs) (λ es. cells_tried es ≡ ys)
      (λ es. cells_tried es ≡ xs ++ ys) a b c
      (λ es fs p q. tried_append es fs ∙ (λ i. p i ++ q i)) first second

  -- the first cells, and one more
  pub tries_more : (n : ℕ) (a b c : Bound P) → Tries (first_cells n) a b → Tried n b c
      → Tries (first_cells (n + 1)) a c
  tries_more n a b c first tried =
      tries_as (first_cells n ++ n ∷ []) (first_cells (n + 1)) a c (sym (first_more n))
      (tries_then (first_cells n) (n ∷ []) a b c first (tries_one b c n tried))

  -- and nothing after it
  pub tries_idle : (xs : List ℕ) (a b c : Bound P) → Tries xs a b → Tries [] b c → Tries xs a c
  tries_idle xs a b c first second =
      tries_as (xs ++ []) xs a c (append-nil xs) (tries_then xs [] a b c first second)

  -- Takes and tries.

  -- the tries for a take, and no more
  pub take_found : (a b : Bound P) (hint : Option ℕ) (patience : ℕ)
      → Tries (tries_for a.seat.me.shape.cells patience hint) a b
      → TriesFor patience (hint ∷ []) a b
  take_found a b hint patience tries =
      let cells = a.seat.me.shape.cells in
      let tf = tries_for cells patience hint in
      grew_as (λ es. cells_tried es ≡ tf)
      (λ es. Follows cells patience (hint ∷ []) (cells_tried es)) a b
      (λ es is. subst (λ (ts : List ℕ). Follows cells patience (hint ∷ []) ts)
      (append-nil tf ∙ sym is) (next (ends {n = 0} (omega arith)))) tries

  pub walk_found : (a b : Bound P) (patience : ℕ) → 1 ≡ patience → Walks a b
      → TriesFor patience (None ∷ []) a b
  walk_found a b patience over walks =
      let cells = a.seat.me.shape.cells in
      grew_as (λ es. cells_tried es ≡ first_cells walks.0)
      (λ es. Follows cells patience (None ∷ []) (cells_tried es)) a b
      (λ es is. subst (λ (k : ℕ). Follows cells k (None ∷ []) (cells_tried es)) over
      (subst (λ (ts : List ℕ). Follows cells 1 (None ∷ []) ts) (sym is) (stops walks.1.0)))
      walks.1.1

  walk_ends : (a b : Bound P) (patience : ℕ) → Walks a b → TriesFor patience [] a b
  walk_ends a b patience walks =
      let cells = a.seat.me.shape.cells in
      grew_as (λ es. cells_tried es ≡ first_cells walks.0)
      (λ es. Follows cells patience [] (cells_tried es)) a b
      (λ es is. subst (λ (ts : List ℕ). Follows cells patience [] ts) (sym is)
      (ends walks.1.0)) walks.1.1

  -- what a part of a call took, and that its tries follow it
  pub record Sought (p q : ℕ) (before after : Hints) (old new : Bound P) : Type 0 where
    pub given : List (Option ℕ)
    pub gives : GiveAll (cells_of (queue_of before)) (counts_of before) given
    pub counts : counts_of after ≡ after_takes (counts_of before) given
    pub tries : Grew (λ es. FollowsOn old.seat.me.shape.cells p given q (cells_tried es)) old new

  pub sought_none : (p : ℕ) (hints : Hints) (a : Bound P) → Sought p p hints hints a a
  sought_none p hints a = record {
    given = [];
    gives = tt;
    counts = refl;
    tries = grew_none (λ es. FollowsOn a.seat.me.shape.cells p [] p (cells_tried es)) a
        (λ rest more f. f);
  }

  -- and then it tried none
  pub sought_idle : (p q : ℕ) (before after : Hints) (a b c : Bound P)
      → Sought p q before after a b → Tries [] b c → Sought p q before after a c
  sought_idle p q before after a b c sought idle =
      let cells = a.seat.me.shape.cells in
      let On = λ (es : List Taken). FollowsOn cells p sought.given q (cells_tried es) in record {
        given = sought.given;
        gives = sought.gives;
        counts = sought.counts;
        tries = grew_then On (λ es. cells_tried es ≡ []) On a b c
            (λ xs ys on none rest more f.
            subst (λ (ts : List ℕ). Follows cells p (sought.given ++ rest) (ts ++ more))
            (sym (tried_append xs ys ∙ ap (λ (zs : List ℕ). cells_tried xs ++ zs) none
            ∙ append-nil (cells_tried xs))) (on rest more f)) sought.tries idle;
      }

  -- a take, and its tries, which found none
  pub sought_more : (p q : ℕ) (before middle after : Hints) (hint : Option ℕ) (a b c : Bound P)
      → Sought p q before middle a b → queue_of middle ≡ queue_of before
      → Gives (cells_of (queue_of middle)) (counts_of middle) hint
      → counts_of after ≡ after_take (counts_of middle) hint
      → b.seat.me.shape.cells ≡ a.seat.me.shape.cells
      → Tries (tries_for b.seat.me.shape.cells q hint) b c
      → Sought p (patience_after q hint) before after a c
  sought_more p q before middle after hint a b c sought same gives counts cells_are tries =
      let cells = a.seat.me.shape.cells in
      let given = sought.given in
      let tf = tries_for cells q hint in record {
        given = given ++ hint ∷ [];
        gives = gives_on before middle given hint same sought.counts sought.gives gives;
        counts = counts_on before middle after given hint sought.counts counts;
        tries = grew_then (λ es. FollowsOn cells p given q (cells_tried es))
            (λ es. cells_tried es ≡ tf)
            (λ es. FollowsOn cells p (given ++ hint ∷ []) (patience_after q hint)
            (cells_tried es)) a b c
            (λ xs ys on is rest more f.
            subst (λ (hs : List (Option ℕ)). Follows cells p hs (cells_tried (xs ++ ys) ++ more))
            (sym (append_assoc given (hint ∷ []) rest))
            (subst (λ (ts : List ℕ). Follows cells p (given ++ hint ∷ rest) ts)
            (sym (append_assoc (cells_tried xs) tf more)
            ∙ ap (λ (zs : List ℕ). (cells_tried xs ++ zs) ++ more) (sym is)
            ∙ ap (λ (zs : List ℕ). zs ++ more) (sym (tried_append xs ys)))
            (on (hint ∷ rest) (tf ++ more) (next f)))) sought.tries
            (subst (λ (n : ℕ). Tries (tries_for n q hint) b c) cells_are tries);
      }

  last_tries : (p q : ℕ) (given last : List (Option ℕ)) (a b c : Bound P)
      → b.seat.me.shape.cells ≡ a.seat.me.shape.cells
      → Grew (λ es. FollowsOn a.seat.me.shape.cells p given q (cells_tried es)) a b
      → TriesFor q last b c → TriesFor p (given ++ last) a c
  last_tries p q given last a b c cells_are sought tries =
      let cells = a.seat.me.shape.cells in
      grew_then (λ es. FollowsOn cells p given q (cells_tried es))
      (λ es. Follows cells q last (cells_tried es))
      (λ es. Follows cells p (given ++ last) (cells_tried es)) a b c
      (λ xs ys on f. subst (λ (ts : List ℕ). Follows cells p (given ++ last) ts)
      (sym (tried_append xs ys)) (on last (cells_tried ys) f)) sought
      (subst (λ (n : ℕ). Grew (λ es. Follows n q last (cells_tried es)) b c) cells_are tries)

  -- a walk that ends the call
  pub sought_ends : (p q : ℕ) (before after : Hints) (a b c : Bound P)
      → Sought p q before after a b → b.seat.me.shape.cells ≡ a.seat.me.shape.cells
      → Walks b c → Searches p [] before after a c
  sought_ends p q before after a b c sought cells_are walks = record {
    given = sought.given;
    gives = sought.gives;
    counts = sought.counts;
    tries = subst (λ (hs : List (Option ℕ)). TriesFor p hs a c) (append-nil sought.given)
        (last_tries p q sought.given [] a b c cells_are sought.tries (walk_ends b c q walks));
  }

  -- a take whose tries end it
  pub sought_found : (p q : ℕ) (before middle after : Hints) (hint : Option ℕ) (a b c : Bound P)
      → Sought p q before middle a b → queue_of middle ≡ queue_of before
      → Gives (cells_of (queue_of middle)) (counts_of middle) hint
      → counts_of after ≡ after_take (counts_of middle) hint
      → b.seat.me.shape.cells ≡ a.seat.me.shape.cells
      → TriesFor q (hint ∷ []) b c → Searches p [] before after a c
  sought_found p q before middle after hint a b c sought same gives counts cells_are tries =
      record {
        given = sought.given ++ hint ∷ [];
        gives = gives_on before middle sought.given hint same sought.counts sought.gives gives;
        counts = counts_on before middle after sought.given hint sought.counts counts;
        tries = last_tries p q sought.given (hint ∷ []) a b c cells_are sought.tries tries;
      }

  -- the tries for a hint that was taken before, and then the rest
  pub searches_on : (p : ℕ) (hint : Option ℕ) (before after : Hints) (a b c : Bound P)
      → b.seat.me.shape.cells ≡ a.seat.me.shape.cells
      → Tries (tries_for a.seat.me.shape.cells p hint) a b
      → Searches (patience_after p hint) [] before after b c
      → Searches p (hint ∷ []) before after a c
  searches_on p hint before after a b c cells_are tries rest =
      let cells = a.seat.me.shape.cells in
      let q = patience_after p hint in
      let tf = tries_for cells p hint in record {
        given = rest.given;
        gives = rest.gives;
        counts = rest.counts;
        tries = grew_then (λ es. cells_tried es ≡ tf)
            (λ es. Follows cells q rest.given (cells_tried es))
            (λ es. Follows cells p (hint ∷ rest.given) (cells_tried es)) a b c
            (λ xs ys is f. subst (λ (ts : List ℕ). Follows cells p (hint ∷ rest.given) ts)
            (ap (λ (zs : List ℕ). zs ++ cells_tried ys) (sym is) ∙ sym (tried_append xs ys))
            (next f)) tries
            (subst (λ (n : ℕ). Grew (λ es. Follows n q rest.given (cells_tried es)) b c)
            cells_are rest.tries);
      }

  -- and none
  pub searches_at : (p : ℕ) (hint : Option ℕ) (hints : Hints) (a b : Bound P)
      → Tries (tries_for a.seat.me.shape.cells p hint) a b
      → Searches p (hint ∷ []) hints hints a b
  searches_at p hint hints a b tries = record {
    given = [];
    gives = tt;
    counts = refl;
    tries = take_found a b hint p tries;
  }

  -- the first look, and the tries for a hint
  pub look_tries : (a b c : Bound P) (control : Control) (p : ℕ) (hint : Option ℕ)
      → b ≡ takes a (event.Look a.seat.me.number) (finds.Control control)
      → Tries (tries_for b.seat.me.shape.cells p hint) b c
      → Tries (tries_for a.seat.me.shape.cells p hint) a c
  look_tries a b c control p hint told tries =
      let tf = tries_for a.seat.me.shape.cells p hint in
      tries_then [] tf a b c (tries_look a b control told)
      (subst (λ (n : ℕ). Tries (tries_for n p hint) b c)
      (ap (λ (m : Bound P). m.seat.me.shape.cells) told) tries)

  -- the hint was taken in the call
  pub searches_took : (p : ℕ) (hint : Option ℕ) (before middle after : Hints) (a b : Bound P)
      → queue_of middle ≡ queue_of before
      → Gives (cells_of (queue_of before)) (counts_of before) hint
      → counts_of middle ≡ after_take (counts_of before) hint
      → Searches p (hint ∷ []) middle after a b → Searches p [] before after a b
  searches_took p hint before middle after a b same gives counts rest = record {
    given = hint ∷ rest.given;
    gives = (
      gives,
      subst (λ (c : Counts). GiveAll (cells_of (queue_of before)) c rest.given) counts
          (subst (λ (q : FreeQueue). GiveAll (cells_of q) (counts_of middle) rest.given) same
          rest.gives),
    );
    counts = rest.counts ∙ ap (λ (c : Counts). after_takes c rest.given) counts;
    tries = rest.tries;
  }
