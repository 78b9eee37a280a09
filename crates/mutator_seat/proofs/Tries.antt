-- Claims as stretches: what a try shows, how tries follow one another, and when the heap is full.
use Rattle.std.proofs.Common.{◌≡◌, ◌+◌, ◌==◌, ◌&&◌, ◌||◌, ℕ, Bool, true, false, List, []}
use Rattle.std.proofs.Common.{◌∷◌, ◌++◌, length, refl, sym, ◌∙◌, ap, subst, arith, ⊎_elim, not}
use Rattle.std.proofs.Common.{IfOk}
use Rattle.std.proofs.Common.{Option, Some, None, IfNone, IfSome, Result, Ok, Err, IfErr}
use Rattle.std.proofs.lemmas.Bool.{cases_lt, eq-eqb}
use Rattle.std.proofs.lemmas.List.{append_assoc, map-append}
use Rattle.cell_words.specs.declared.colours.Colour.{Colour}
use Rattle.cell_words.specs.declared.colours.Colour.TheVariants as colour
use Rattle.cell_words.specs.declared.controls.Control.{Control}
use Rattle.cell_words.specs.declared.presences.Status.{Status}
use Rattle.core_machine.specs.declared.events.Event.TheVariants as event
use Rattle.core_machine.specs.declared.events.Found.TheVariants as finds
use Rattle.core_machine.specs.declared.events.Taken.{Taken}
use Rattle.core_machine.specs.declared.places.Held.{Held}
use Rattle.core_machine.specs.Places.{found_at}
use Rattle.core_machine.specs.Words.{is_blue}
use Rattle.heap_rule.specs.declared.known.Known.{Known}
use Rattle.heap_rule.specs.declared.known.Known.TheVariants as knows
use Rattle.heap_rule.specs.Apart.{IsNewTo}
use Rattle.heap_rule.specs.Lore.{five_nulls}
use Rattle.heap_rule.specs.Rule.{took}
use Rattle.heap_rule.specs.Shape.{Shape}
use Rattle.trails.specs.Claims.{AllUsed, FindsFull, begun_of, decides, look_of}
use Rattle.trails.proofs.Claims.{used_late, used_on}
use Rattle.mutator_seat.specs.declared.full.HeapFull.{HeapFull}
use Rattle.mutator_seat.specs.Bound.{Bound, held_cells, takes}
use Rattle.mutator_seat.specs.Claims.{Claimed, Ends, FullBehind, Seeking, Tried, TriedFirst}
use Rattle.mutator_seat.specs.Stretches.{Calm, Kept, LookAndAnswer}
use Rattle.mutator_seat.proofs.Calm.{calm_none, calm_one, calm_then, trail_all}
use Rattle.mutator_seat.proofs.Handshakes.{looked_at}
use Rattle.mutator_seat.proofs.Seeking.{seeking_then}
use Rattle.mutator_seat.proofs.Writes.{many_same}

pub some_all : {T : Type 0} {A B : T → Type 0} (r : Option T) → IfSome r A
    → ((x : T) → A x → B x) → IfSome r B
some_all (Some x) a f = f x a
some_all None a f = a

pub some_any : {T : Type 0} {A : Type 0} (r : Option T) → A → IfSome r (λ _. A)
some_any (Some x) a = a
some_any None a = tt

pub none_then : {T : Type 0} {A B : Type 0} (r : Option T) → IfNone r A → (A → B) → IfNone r B
none_then (Some x) a f = a
none_then None a f = f a

pub ok_all : {T E : Type 0} {A B : T → Type 0} (r : Result T E) → IfOk r A
    → ((x : T) → A x → B x) → IfOk r B
ok_all (Ok x) a f = f x a
ok_all (Err e) a f = a

pub err_both : {T E : Type 0} {A B C : E → Type 0} (r : Result T E) → IfErr r A → IfErr r B
    → ((e : E) → A e → B e → C e) → IfErr r C
err_both (Ok x) a b f = a
err_both (Err e) a b f = f e a b

-- One try.

used_one : (cell c : ℕ) → cell ≡ c → (((cell == c) && true) || false) ≡ true
used_one cell c is = ap (λ (b : Bool). (b && true) || false) (eq-eqb cell c is)

tried_one : (i cell : ℕ) (found : Colour) → false ≡ is_blue found
    → AllUsed cell (cell + 1) (took (event.Claim i cell) (finds.Colour found) ∷ [])
tried_one i cell colour.Blue missed c above below = absurd cc
tried_one i cell colour.White missed c above below = used_one cell c (omega (arith, above, below))
tried_one i cell colour.Gray missed c above below = used_one cell c (omega (arith, above, below))
tried_one i cell colour.Black missed c above below = used_one cell c (omega (arith, above, below))

missed_is : (i cell : ℕ) (found : Colour) → false ≡ is_blue found
    → Seeking (took (event.Claim i cell) (finds.Colour found) ∷ [])
missed_is i cell colour.Blue missed = absurd cc
missed_is i cell colour.White missed = refl
missed_is i cell colour.Gray missed = refl
missed_is i cell colour.Black missed = refl

-- what was tried below a cell, and the cell
pub tried_more : (cell : ℕ) (xs ys : List Taken) → AllUsed 0 cell xs → AllUsed cell (cell + 1) ys
    → AllUsed 0 (cell + 1) (xs ++ ys)
tried_more cell xs ys first second c above below =
    ⊎_elim (λ lt. used_on 0 cell xs ys first c above lt)
    (λ ge. used_late cell (cell + 1) xs ys second c ge below) (cases_lt c cell)

-- The events of a call that found the heap full.

full_join : (number cells began : ℕ) (own : Status) (control : Control) (full : HeapFull)
    (os xs ys : List Taken) → Ends number own control xs → AllUsed 0 cells ys
    → full ≡ record { off_duty = not control.duty; began = began; ended = control.cycles }
    → decides began control ≡ true
    → FullBehind number cells began full (os ++ (xs ++ ys))
full_join number cells began own control full os xs ys ends used is decided = record {
  between = os ++ ends.before;
  control = control;
  tries = ys;
  split = ap (λ (zs : List Taken). os ++ (zs ++ ys)) ends.split
      ∙ ap (λ (zs : List Taken). os ++ zs)
      (append_assoc ends.before (look_of number control ∷ []) ys)
      ∙ sym (append_assoc os ends.before (look_of number control ∷ ys));
  is = is;
  decided = decided;
  all_used = used;
}

finds_join : (number cells began : ℕ) (first : Control) (full : HeapFull) (ws xs ys : List Taken)
    → ws ≡ look_of number first ∷ [] → FullBehind number cells began full ys
    → began ≡ begun_of first
    → FindsFull number cells full.off_duty full.began full.ended (ws ++ (xs ++ ys))
finds_join number cells began first full ws xs ys look behind is = record {
  first = first;
  between = xs ++ behind.between;
  control = behind.control;
  tries = behind.tries;
  split = ap (λ (zs : List Taken). zs ++ (xs ++ ys)) look
      ∙ ap (λ (zs : List Taken). look_of number first ∷ (xs ++ zs)) behind.split
      ∙ ap (λ (zs : List Taken). look_of number first ∷ zs)
      (sym (append_assoc xs behind.between (look_of number behind.control ∷ behind.tries)));
  duty = ap (λ (f : HeapFull). f.off_duty) behind.is;
  begun_is = ap (λ (f : HeapFull). f.began) behind.is ∙ is;
  ended_is = ap (λ (f : HeapFull). f.ended) behind.is;
  decided = ap (λ (n : ℕ). decides n behind.control) (ap (λ (f : HeapFull). f.began) behind.is)
      ∙ behind.decided;
  all_used = behind.all_used;
}

module _ {P : Type 0} where
  kept_missed : (m : Bound P) (i cell : ℕ) (found : Colour) → false ≡ is_blue found
      → Kept m (takes m (event.Claim i cell) (finds.Colour found))
  kept_missed m i cell colour.Blue missed = absurd cc
  kept_missed m i cell colour.White missed = record {
    heap = refl;
    table = refl;
    shape = refl;
    role = refl;
    number = refl;
    room = refl;
    held = refl;
    known = refl;
    pass = refl;
    pending = refl;
    claims = refl;
    inside = refl;
    over = refl;
  }
  kept_missed m i cell colour.Gray missed = record {
    heap = refl;
    table = refl;
    shape = refl;
    role = refl;
    number = refl;
    room = refl;
    held = refl;
    known = refl;
    pass = refl;
    pending = refl;
    claims = refl;
    inside = refl;
    over = refl;
  }
  kept_missed m i cell colour.Black missed = record {
    heap = refl;
    table = refl;
    shape = refl;
    role = refl;
    number = refl;
    room = refl;
    held = refl;
    known = refl;
    pass = refl;
    pending = refl;
    claims = refl;
    inside = refl;
    over = refl;
  }

  pub missed_at : (a b : Bound P) (cell : ℕ) (found : Colour) → false ≡ is_blue found
      → b ≡ takes a (event.Claim a.seat.me.number cell) (finds.Colour found)
      → Calm (AllUsed cell (cell + 1)) a b
  missed_at a b cell found missed told =
      calm_one (AllUsed cell (cell + 1)) a b (event.Claim a.seat.me.number cell)
      (finds.Colour found) told (kept_missed a a.seat.me.number cell found missed)
      (tried_one a.seat.me.number cell found missed)

  pub missed_seeks : (a b : Bound P) (cell : ℕ) (found : Colour) → false ≡ is_blue found
      → b ≡ takes a (event.Claim a.seat.me.number cell) (finds.Colour found)
      → Calm Seeking a b
  missed_seeks a b cell found missed told =
      calm_one Seeking a b (event.Claim a.seat.me.number cell) (finds.Colour found) told
      (kept_missed a a.seat.me.number cell found missed)
      (missed_is a.seat.me.number cell found missed)

  mode_of : (a : Bound P) (i cell : ℕ) (found : Colour) → false ≡ is_blue found
      → (takes a (event.Claim i cell) (finds.Colour found)).seat.me.own.mode ≡ a.seat.me.own.mode
  mode_of a i cell colour.Blue missed = absurd cc
  mode_of a i cell colour.White missed = refl
  mode_of a i cell colour.Gray missed = refl
  mode_of a i cell colour.Black missed = refl

  -- a try that missed leaves what the look found
  pub missed_mode : (a b : Bound P) (cell : ℕ) (found : Colour) → false ≡ is_blue found
      → b ≡ takes a (event.Claim a.seat.me.number cell) (finds.Colour found)
      → b.seat.me.own.mode ≡ a.seat.me.own.mode
  missed_mode a b cell found missed told =
      ap (λ (m : Bound P). m.seat.me.own.mode) told
      ∙ mode_of a a.seat.me.number cell found missed

  pub claimed_held : (a b : Bound P) (cell : ℕ) (found : Colour) → true ≡ is_blue found
      → b ≡ takes a (event.Claim a.seat.me.number cell) (finds.Colour found)
      → held_cells b ≡ held_cells a ++ cell ∷ []
  claimed_held a b cell colour.Blue got told =
      ap (λ (m : Bound P). held_cells m) told
      ∙ map-append (λ (p : Held). p.cell) a.seat.me.own.held (found_at cell ∷ [])
  claimed_held a b cell colour.White got told = absurd cc
  claimed_held a b cell colour.Gray got told = absurd cc
  claimed_held a b cell colour.Black got told = absurd cc

  pub claimed_at : (a b : Bound P) (cell place : ℕ) (found : Colour) → true ≡ is_blue found
      → b ≡ takes a (event.Claim a.seat.me.number cell) (finds.Colour found)
      → place ≡ length a.seat.me.own.held
      → (true ≡ true → IsNewTo (held_cells a) a.seat.me.known cell) → Claimed a place b
  claimed_at a b cell place colour.Blue got told is new = record {
    cell = cell;
    at = a;
    calm = calm_none Seeking a refl;
    told = told;
    place_is = is;
    is_new = new refl;
    held = claimed_held a b cell colour.Blue got told;
    known = ap (λ (m : Bound P). m.seat.me.known) told;
  }
  claimed_at a b cell place colour.White got told is new = absurd cc
  claimed_at a b cell place colour.Gray got told is new = absurd cc
  claimed_at a b cell place colour.Black got told is new = absurd cc

  -- Stretches before a claim.

  pub claimed_then : (a b c : Bound P) (place : ℕ) → Calm Seeking a b → Claimed b place c
      → Claimed a place c
  claimed_then a b c place calm got = record {
    cell = got.cell;
    at = got.at;
    calm = seeking_then a b got.at calm got.calm;
    told = got.told;
    place_is = got.place_is
        ∙ many_same b.seat.me.own.held a.seat.me.own.held calm.kept.held;
    is_new = subst (λ (cells : List ℕ). IsNewTo cells a.seat.me.known got.cell) calm.kept.held
        (subst (λ (known : List Known). IsNewTo (held_cells b) known got.cell) calm.kept.known
        got.is_new);
    held = got.held ∙ ap (λ (cs : List ℕ). cs ++ got.cell ∷ []) calm.kept.held;
    known = got.known
        ∙ ap (λ (ks : List Known). ks ++ knows.Raw five_nulls ∷ []) calm.kept.known;
  }

  -- what was tried below a cell, a try of it, and whatever followed
  pub tries_on : (a b c d : Bound P) (cell : ℕ) → Calm (AllUsed 0 cell) a b
      → Calm (AllUsed cell (cell + 1)) b c → Calm Seeking c d → Calm (AllUsed 0 (cell + 1)) a d
  tries_on a b c d cell first second third =
      calm_then (AllUsed 0 (cell + 1)) Seeking (AllUsed 0 (cell + 1)) a c d
      (λ xs ys used seek. used_on 0 (cell + 1) xs ys used)
      (calm_then (AllUsed 0 cell) (AllUsed cell (cell + 1)) (AllUsed 0 (cell + 1)) a b c
      (tried_more cell) first second) third

  -- Looks.

  -- a handshake, and then one look
  pub ends_then : (a b c : Bound P) (answered : Bool) (control : Control)
      → Calm (LookAndAnswer a.seat.me.number a.seat.me.presence.status answered) a b
      → c ≡ takes b (event.Look b.seat.me.number) (finds.Control control)
      → Calm (Ends a.seat.me.number a.seat.me.presence.status control) a c
  ends_then a b c answered control calm told =
      calm_then (LookAndAnswer a.seat.me.number a.seat.me.presence.status answered)
      (λ es. es ≡ look_of b.seat.me.number control ∷ [])
      (Ends a.seat.me.number a.seat.me.presence.status control) a b c
      (λ xs ys first second. record {
        before = xs;
        answered = answered;
        handshake = first;
        split = ap (λ zs. xs ++ zs) (second
            ∙ ap (λ n. look_of n control ∷ []) calm.kept.number);
      })
      calm (looked_at b c control told)

  -- The heap is full.

  pub full_behind : (a b c d : Bound P) (began : ℕ) (control : Control) (full : HeapFull)
      → Calm Seeking a b → Calm (Ends b.seat.me.number b.seat.me.presence.status control) b c
      → Calm (AllUsed 0 c.seat.me.shape.cells) c d
      → full ≡ record { off_duty = not control.duty; began = began; ended = control.cycles }
      → decides began control ≡ true
      → Calm (FullBehind a.seat.me.number a.seat.me.shape.cells began full) a d
  full_behind a b c d began control full first second third is decided =
      let number = first.kept.number in
      let cells = ap (λ (h : Shape). h.cells) (second.kept.shape ∙ first.kept.shape) in
      let own = b.seat.me.presence.status in
      let tail = calm_then (Ends b.seat.me.number own control) (AllUsed 0 c.seat.me.shape.cells)
      (λ es. (os : List Taken) → FullBehind a.seat.me.number a.seat.me.shape.cells began full
      (os ++ es)) b c d
      (λ xs ys ends used os. full_join a.seat.me.number a.seat.me.shape.cells began own control full
      os xs ys (subst (λ (n : ℕ). Ends n own control xs) number ends)
      (subst (λ (n : ℕ). AllUsed 0 n ys) cells used) is decided) second third in
      calm_then Seeking (λ es. (os : List Taken)
      → FullBehind a.seat.me.number a.seat.me.shape.cells began full (os ++ es))
      (FullBehind a.seat.me.number a.seat.me.shape.cells began full) a b d
      (λ xs ys seek rest. rest xs) first tail

  -- the first look, a try, and the rest
  pub finds_full : (a b c d : Bound P) (began : ℕ) (first : Control) (full : HeapFull)
      → b ≡ takes a (event.Look a.seat.me.number) (finds.Control first) → Calm Seeking b c
      → Calm (FullBehind c.seat.me.number c.seat.me.shape.cells began full) c d
      → began ≡ begun_of first
      → Calm (FindsFull a.seat.me.number a.seat.me.shape.cells full.off_duty full.began full.ended)
      a d
  finds_full a b c d began first full told tries behind is =
      let look = looked_at a b first told in
      let number = tries.kept.number ∙ look.kept.number in
      let cells = ap (λ (h : Shape). h.cells) (tries.kept.shape ∙ look.kept.shape) in
      let tail = calm_then Seeking
      (FullBehind c.seat.me.number c.seat.me.shape.cells began full)
      (λ es. (ws : List Taken) → ws ≡ look_of a.seat.me.number first ∷ []
      → FindsFull a.seat.me.number a.seat.me.shape.cells full.off_duty full.began full.ended
      (ws ++ es)) b c d
      (λ xs ys seek rest ws opens. finds_join a.seat.me.number a.seat.me.shape.cells began first
      full ws xs ys opens
      (subst (λ (n : ℕ). FullBehind n a.seat.me.shape.cells began full ys) number
      (subst (λ (n : ℕ). FullBehind c.seat.me.number n began full ys) cells rest)) is)
      tries behind in
      calm_then (λ es. es ≡ look_of a.seat.me.number first ∷ [])
      (λ es. (ws : List Taken) → ws ≡ look_of a.seat.me.number first ∷ []
      → FindsFull a.seat.me.number a.seat.me.shape.cells full.off_duty full.began full.ended
      (ws ++ es))
      (FindsFull a.seat.me.number a.seat.me.shape.cells full.off_duty full.began full.ended) a b d
      (λ xs ys opens rest. rest xs opens) look tail

  -- A hint.

  -- a call that claims or seeks adds to the trail
  pub grown : (a b : Bound P) (r : Result ℕ HeapFull) → IfOk r (λ place. Claimed a place b)
      → IfErr r (λ full. Calm Seeking a b)
      → (more : List Taken) × (b.seat.me.trail ≡ a.seat.me.trail ++ more)
  grown a b (Ok place) got sought =
      let last = took (event.Claim got.at.seat.me.number got.cell) (finds.Colour colour.Blue) in (
        got.calm.added ++ last ∷ [],
        ap (λ (m : Bound P). m.seat.me.trail) got.told
            ∙ ap (λ (ts : List Taken). ts ++ last ∷ [])
            (ap (λ (m : Bound P). m.seat.me.trail) got.calm.told ∙ trail_all a got.calm.added)
            ∙ append_assoc a.seat.me.trail got.calm.added (last ∷ []),
      )
  grown a b (Err full) got sought = (
    sought.added,
    ap (λ (m : Bound P). m.seat.me.trail) sought.told ∙ trail_all a sought.added,
  )

  -- the first look, the try of the hint's cell, and the rest
  pub tried_first : (a b c d : Bound P) (control : Control) (cell : ℕ) (more : List Taken)
      → b ≡ takes a (event.Look a.seat.me.number) (finds.Control control) → Tried cell b c
      → d.seat.me.trail ≡ c.seat.me.trail ++ more → TriedFirst cell a d
  tried_first a b c d control cell more told tried grows =
      let look = look_of a.seat.me.number control in
      let try : ℕ → Taken = λ n. took (event.Claim n cell) (finds.Colour tried.0) in
      let same = ap (λ (m : Bound P). m.seat.me.number) told in
      let first = ap (λ (m : Bound P). m.seat.me.trail) told in record {
        control = control;
        found = tried.0;
        rest = more;
        trail = grows
            ∙ ap (λ (ts : List Taken). ts ++ more) (ap (λ (m : Bound P). m.seat.me.trail) tried.1
            ∙ ap (λ (ts : List Taken). ts ++ try b.seat.me.number ∷ []) first
            ∙ ap (λ (n : ℕ). (a.seat.me.trail ++ look ∷ []) ++ try n ∷ []) same
            ∙ append_assoc a.seat.me.trail (look ∷ []) (try a.seat.me.number ∷ []))
            ∙ append_assoc a.seat.me.trail (look ∷ try a.seat.me.number ∷ []) more;
      }
