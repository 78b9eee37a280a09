-- A turn of the walk: to a child, over its tree, and back.
use Rattle.std.proofs.Common.{◌≡◌, ◌<◌, ◌≤◌, ◌+◌, ℕ, suc, List, [], ◌∷◌, ◌++◌, length, take, drop}
use Rattle.std.proofs.Common.{sym, ◌∙◌, ap, subst, arith, get_or}
use Rattle.std.proofs.Common.{Option, Some, None, false, true}
use Rattle.std.proofs.Math.Seq.{drop-cons}
use Rattle.std.proofs.lemmas.List.{append-nil, append_assoc, take_at}
use Rattle.client_trees.specs.Records.{is_shared}
use Rattle.client_trees.specs.declared.at.NodeAt.{NodeAt}
use Rattle.client_trees.specs.declared.at.NodeAt.TheVariants as at
use Rattle.core_machine.specs.declared.events.Event.TheVariants as event
use Rattle.core_machine.specs.declared.events.Found.{Found}
use Rattle.doc_tree.specs.Tree.{DocTree, IsRising, child, count, height, names_of}
use Rattle.doc_tree.proofs.Sizes.{child_height}
use Rattle.minor_heap.specs.Nursery.{Nursery}
use Rattle.minor_heap.specs.declared.fields.MinorRef.{MinorRef}
use Rattle.mutator_seat.specs.Bound.{Bound, held_cells, takes}
use Rattle.dump_text.specs.Dump.{dump_of, end_line, head_line}
use Rattle.version_rule.specs.Pass.{Pass}
use Rattle.version_store.specs.Calls.{Holds, StaysKnown}
use Rattle.version_store.specs.Lasts.{LastsAcross, marks}
use Rattle.held_places.proofs.Going.{known_then, many_cells, many_held}
use Rattle.version_store.proofs.Lasting.{lasts_then}
use Rattle.doc_export.specs.Lines.{child_lines, line_of, lines_from, lines_of, path_behind}
use Rattle.doc_export.specs.Lines.{tree_lines, with_slash}
use Rattle.doc_export.specs.Looks.{looks, nodes_of}
use Rattle.doc_export.specs.Still.{Stays}
use Rattle.doc_export.specs.Walks.{Walks}
use Rattle.doc_export.proofs.Keeping.{cut_cells, cut_length, keeps_cut, keeps_fewer}
use Rattle.doc_export.proofs.Keeping.{keeps_lasts}
use Rattle.doc_export.proofs.Keeping.{keeps_on, keeps_then}
use Rattle.doc_export.proofs.Looking.{looks_grown, looks_kept, next_looks}
use Rattle.doc_export.proofs.Listing.{all_names, one_more, whole_dump}
use Rattle.version_rule.specs.Versions.{is_fixed}

-- the next of the names
pub next_name : (items : List (List ℕ)) (i : ℕ) (n : List ℕ) → i < length items
    → n ≡ get_or items i n → drop i items ≡ n ∷ drop (i + 1) items
next_name items i n lt is =
    let next : suc i ≡ i + 1 = omega arith in
    drop-cons items i n lt ∙ ap (λ (x : List ℕ). x ∷ drop (suc i) items) (sym is)
    ∙ ap (λ (k : ℕ). n ∷ drop k items) next

-- before the first child
pub first_lines : (new out path before : List ℕ) (t : DocTree) (items : List (List ℕ))
    → new ≡ out ++ line_of path t.text → items ≡ names_of t.kids → IsRising t.kids
    → new ++ lines_of before t.kids items ≡ out ++ tree_lines path before t
first_lines new out path before t items line names rising =
    ap (λ (ns : List (List ℕ)). new ++ lines_of before t.kids ns) names
    ∙ ap (λ (ls : List ℕ). new ++ ls) (all_names before t.kids rising)
    ∙ ap (λ (ls : List ℕ). ls ++ lines_from before t.kids) line
    ∙ append_assoc out (line_of path t.text) (lines_from before t.kids)

-- To the child, over its tree, and back.
module _ (m l a b c : Bound Pass) (places : ℕ) (f : Found)
    (so_far : Stays (length m.seat.me.own.held) m l)
    (many : length l.seat.me.own.held ≡ length m.seat.me.own.held)
    (down : Stays (length l.seat.me.own.held) l a) (below : Stays (length a.seat.me.own.held) a b)
    (is : places ≡ length l.seat.me.own.held)
    (told : c ≡ takes b (event.Keep b.seat.me.number places 0 0) f) where
  inner : Stays (length l.seat.me.own.held) l b
  inner = keeps_on down below

  few : places ≤ length b.seat.me.own.held
  few = let long = inner.longer in omega (arith, long, is)

  pub turn_length : length c.seat.me.own.held ≡ length m.seat.me.own.held
  turn_length = cut_length b c places f told few ∙ is ∙ many

  pub turn_keeps : Stays (length m.seat.me.own.held) m c
  turn_keeps =
      let cut : Stays (length l.seat.me.own.held) b c =
      subst (λ (k : ℕ). Stays k b c) is (keeps_cut b c places f told few) in
      keeps_then so_far
      (keeps_fewer (length m.seat.me.own.held) (omega (arith, many)) (keeps_then inner cut))

  -- its lines are written
  pub some_turn : (old lm new : Nursery) (t d : DocTree)
      (path before out text written name p q : List ℕ) (items : List (List ℕ)) (i : ℕ)
      → Walks m l old lm t path before out text (drop i items)
      → new ≡ lm → i < length items → name ≡ get_or items i name
      → child name t.kids ≡ Some d → p ≡ path_behind before name → q ≡ with_slash p
      → written ≡ text ++ tree_lines p q d
      → looks (marks a) + count d ≤ looks (marks b)
      → Walks m c old new t path before out written (drop (i + 1) items)
  some_turn old lm new t d path before out text written name p q items i walks minor lt next found
      behind slash lines looked = record {
        keeps = turn_keeps;
        held = turn_length;
        minor = minor ∙ walks.minor;
        lines = one_more text written before name t.kids (drop (i + 1) items)
            (out ++ tree_lines path before t)
            (ap (λ (ns : List (List ℕ)). text ++ lines_of before t.kids ns)
            (sym (next_name items i name lt next)) ∙ walks.lines)
            (lines ∙ ap (λ (x : List ℕ). text ++ tree_lines p x d) slash
            ∙ ap (λ (x : List ℕ). text ++ tree_lines x (with_slash x) d) behind
            ∙ ap (λ (o : Option DocTree). text ++ child_lines (path_behind before name) o)
            (sym found));
        looked =
            let down_to = looks_kept l a down in
            let back = looks_kept b c (keeps_cut b c places f told few) in
            next_looks t name (drop (i + 1) items) (Some d) (looks (marks m)) (looks (marks l))
            (looks (marks c))
            (subst (λ (ns : List (List ℕ)). looks (marks m) + count t
            ≤ looks (marks l) + nodes_of t.kids ns) (next_name items i name lt next) walks.looked)
            found (omega (arith, down_to, looked, back));
      }

-- there is no such child
pub none_turn : (m l a : Bound Pass) (old lm new : Nursery) (t : DocTree)
    (path before out text name : List ℕ) (items : List (List ℕ)) (i : ℕ)
    → Walks m l old lm t path before out text (drop i items)
    → Stays (length l.seat.me.own.held) l a
    → length a.seat.me.own.held ≡ length l.seat.me.own.held
    → new ≡ lm → i < length items → name ≡ get_or items i name → child name t.kids ≡ None
    → Walks m a old new t path before out text (drop (i + 1) items)
none_turn m l a old lm new t path before out text name items i walks down same minor lt next none =
    record {
      keeps = keeps_on walks.keeps down;
      held = same ∙ walks.held;
      minor = minor ∙ walks.minor;
      lines = one_more text text before name t.kids (drop (i + 1) items)
          (out ++ tree_lines path before t)
          (ap (λ (ns : List (List ℕ)). text ++ lines_of before t.kids ns)
          (sym (next_name items i name lt next)) ∙ walks.lines)
          (sym (append-nil text)
          ∙ ap (λ (o : Option DocTree). text ++ child_lines (path_behind before name) o)
          (sym none));
      looked =
          let down_to = looks_kept l a down in
          next_looks t name (drop (i + 1) items) None (looks (marks m)) (looks (marks l))
          (looks (marks a))
          (subst (λ (ns : List (List ℕ)). looks (marks m) + count t
          ≤ looks (marks l) + nodes_of t.kids ns) (next_name items i name lt next) walks.looked)
          none (omega (arith, down_to));
    }

-- a child has a smaller height, and there is room for its tree
pub child_room : (name : List ℕ) (t d : DocTree) (here there room : ℕ)
    → child name t.kids ≡ Some d → here + (8192 + height t) ≤ room → there ≡ here + 1
    → there + (8192 + height d) ≤ room
child_room name t d here there room found fits one =
    let low = child_height name t.kids d found in omega (arith, low, fits, one)

pub child_lower : (name : List ℕ) (t d : DocTree) (top : ℕ) → child name t.kids ≡ Some d
    → height t ≡ top → height d < top
child_lower name t d top found is =
    let low = child_height name t.kids d found in omega (arith, low, is)

-- The dump of the tree, in its parts.
pub dumped : (v n : ℕ) (t d : DocTree) (bytes more last all : List ℕ) → bytes ≡ head_line v
    → more ≡ bytes ++ tree_lines (46 ∷ []) [] d → d ≡ t → last ≡ end_line n → n ≡ count t
    → all ≡ more ++ last → all ≡ dump_of v t
dumped v n t d bytes more last all head lines same end nodes whole =
    whole
    ∙ ap (λ (x : List ℕ). more ++ x) (end ∙ ap end_line nodes)
    ∙ ap (λ (x : List ℕ). x ++ end_line (count t)) (lines
    ∙ ap (λ (x : List ℕ). x ++ tree_lines (46 ∷ []) [] d) head
    ∙ ap (λ (x : DocTree). head_line v ++ tree_lines (46 ∷ []) [] x) same)
    ∙ whole_dump v t

-- To the root, over the tree, and back.
module _ (m a b c : Bound Pass) (cell places : ℕ) (f : Found) (root : Holds (cell ∷ []) m a)
    (below : Stays (length a.seat.me.own.held) a b) (is : places ≡ length m.seat.me.own.held)
    (told : c ≡ takes b (event.Keep b.seat.me.number places 0 0) f) where
  fewer : places ≤ length a.seat.me.own.held
  fewer = let more = many_held m a (cell ∷ []) root.held in omega (arith, more, is)

  there : Stays places a b
  there = keeps_fewer places fewer below

  back : Stays places a c
  back = keeps_then there (keeps_cut b c places f told there.longer)

  pub back_held : held_cells c ≡ held_cells m
  back_held = cut_cells b c places f told there.longer ∙ there.held
      ∙ ap (λ (cs : List ℕ). take places cs) root.held
      ∙ take_at (held_cells m) (cell ∷ []) places (many_cells m ∙ sym is)

  pub back_known : StaysKnown (length m.seat.me.own.held) m c
  back_known = known_then is_fixed (length m.seat.me.own.held) m a c root.known
      (subst (λ (k : ℕ). StaysKnown k a c) is back.known)

  pub back_looks : (nodes : ℕ) → LastsAcross m a
      → looks (marks a) + nodes ≤ looks (marks b) → looks (marks m) + nodes ≤ looks (marks c)
  back_looks nodes first looked =
      let before = looks_grown (marks m) (marks a) first.grown in
      let behind = looks_kept b c (keeps_cut b c places f told there.longer) in
      omega (arith, before, looked, behind)

  pub back_lasts : LastsAcross m a → LastsAcross m c
  back_lasts first = lasts_then first (keeps_lasts places a c back)

-- a shared node is no private one
pub no_minor : (a : NodeAt) (r : MinorRef) → is_shared a ≡ true → a ≡ at.Minor r → ⊥
no_minor a r shared is =
    let wrong : false ≡ true = sym (ap is_shared is) ∙ shared in cc
