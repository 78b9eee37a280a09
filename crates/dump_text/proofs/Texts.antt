-- Which text has these contents, and which contents the text of these nodes has.
use Rattle.std.proofs.Common.{◌≡◌, ℕ, ◌+◌, ◌<◌, ◌≤◌, ◌^◌, Bool, true, false, not, ◌&&◌, cond}
use Rattle.std.proofs.Common.{List, [], ◌∷◌, ◌++◌, length, map, Option, Some, None, Result, Ok}
use Rattle.std.proofs.Common.{Err, refl, sym}
use Rattle.std.proofs.Common.{ap, subst, ◌∙◌, append_assoc, append-nil, arith}
use Rattle.std.specs.Prelude.{nat_le}
use Rattle.std.specs.List.{flat_map, join_with_byte}
use Rattle.std.proofs.lemmas.Bool.{and_from, and_parts}
use Rattle.std.proofs.lemmas.Grind.{flat_map-append}
use Rattle.std.proofs.lemmas.List.{length-append}
use Rattle.std.proofs.lemmas.List.Splits.{join_with_byte-slice_split}
use Rattle.doc_tree.specs.declared.tree.TheConstants.Tree.{MOST_CHILDREN}
use Rattle.doc_tree.specs.Tree.{DocTree, Kids, no_kids, kid, count}
use Rattle.doc_tree.specs.Words.{are_names, is_name, is_path, is_text}
use Rattle.line_texts.specs.Lines.{has_feed, is_end, lines_of}
use Rattle.dump_text.specs.declared.grow.TheConstants.{MOST_NODES}
use Rattle.dump_text.specs.Contents.{Contents, contents_in, contents_of, ended, fault_at}
use Rattle.dump_text.specs.Contents.{nodes_from, nodes_of, placed, turn_of}
use Rattle.dump_text.specs.Contents.{with_head, with_nodes, with_root, with_turn}
use Rattle.dump_text.specs.Dump.{dump_of, end_line, end_text, fed, head_line, head_text}
use Rattle.dump_text.specs.Dump.{lines_below, node_line, node_text, root_line, root_text}
use Rattle.dump_text.specs.Laws.{has_words}
use Rattle.dump_text.specs.Line.{head_of, line_of, root_line_of}
use Rattle.dump_text.specs.Listing.{Listed, listed, listed_below, root_of, under}
use Rattle.dump_text.specs.Order.{Path, follows, siblings}
use Rattle.dump_text.specs.declared.fault.LoadFault.{LoadFault}
use Rattle.dump_text.specs.declared.fault.LoadKind.{LoadKind}
use Rattle.dump_text.specs.declared.fault.LoadKind.TheVariants.{BadEnd, Big, Many}
use Rattle.dump_text.specs.declared.fault.LoadKind.TheVariants.{NoOrder}
use Rattle.dump_text.specs.declared.line.Held.{Held}
use Rattle.dump_text.specs.declared.line.Held.TheVariants as held
use Rattle.line_texts.proofs.Rests.{fed_lines}
use Rattle.dump_text.proofs.Listings.{count_listed}
use Rattle.dump_text.proofs.Marks.{end_lacks, head_lacks, line_first, node_lacks, root_lacks}
use Rattle.dump_text.proofs.Nexts.{low_ten}
use Rattle.dump_text.proofs.Parts.{end_line_there, head_back, head_there, line_end_back}
use Rattle.dump_text.proofs.Parts.{line_node_back, node_line_there, root_back, root_there}

-- the lines of nodes below a path
abbrev lines_at : Path → List Listed → List ℕ
lines_at base nodes = flat_map (λ node. node_line (base ++ node.path) node.text) nodes

abbrev pub lines_with : List Listed → List ℕ
lines_with nodes = flat_map (λ node. node_line node.path node.text) nodes

lines_under : (base : Path) (n : List ℕ) (nodes : List Listed)
    → lines_at base (map (under n) nodes) ≡ lines_at (base ++ n ∷ []) nodes
lines_under base n [] = refl
lines_under base n (node ∷ nodes) =
    ap (λ (p : Path). node_line p node.text ++ lines_at base (map (under n) nodes))
    (sym (append_assoc base (n ∷ []) node.path))
    ∙ ap (λ r. node_line ((base ++ n ∷ []) ++ node.path) node.text ++ r) (lines_under base n nodes)

lines_listed : (base : Path) (kids : Kids)
    → lines_below base kids ≡ lines_at base (listed_below kids)
lines_listed base no_kids = refl
lines_listed base (kid n text inside rest) =
    let first = node_line (base ++ n ∷ []) text in
    let own : List Listed → List ℕ = lines_at base in
    let within = map (under n) (listed_below inside) in
    ap (λ a. first ++ (a ++ lines_below base rest))
    (lines_listed (base ++ n ∷ []) inside ∙ sym (lines_under base n (listed_below inside)))
    ∙ ap (λ b. first ++ (lines_at base within ++ b)) (lines_listed base rest)
    ∙ sym (append_assoc first (lines_at base within) (lines_at base (listed_below rest)))
    ∙ sym (flat_map-append (λ (node : Listed). node_line (base ++ node.path) node.text)
    (map (under n) (root_of text ∷ listed_below inside)) (listed_below rest))

pub lines_of_tree : (kids : Kids) → lines_below [] kids ≡ lines_with (listed_below kids)
lines_of_tree kids = lines_listed [] kids

-- nodes as lines have them
abbrev pub AreLines : List Listed → Type 0
AreLines [] = Unit {0}
AreLines (node ∷ nodes) =
    (is_path node.path ≡ true) × (is_text node.text ≡ true) × AreLines nodes

-- from lines to their text
join_more : (line : List ℕ) (lines : List (List ℕ)) → has_feed lines ≡ true
    → join_with_byte 10 (line ∷ lines) ≡ line ++ 10 ∷ join_with_byte 10 lines
join_more line [] more = cc
join_more line (next ∷ lines) more = refl

pub last_lines : (lines : List (List ℕ)) → has_feed lines ≡ true → is_end lines ≡ true
    → lines ≡ [] ∷ []
last_lines [] more end = cc
last_lines ([] ∷ []) more end = refl
last_lines ([] ∷ line ∷ lines) more end = cc
last_lines ((b ∷ bytes) ∷ lines) more end = cc

ended_back : (nodes all : List Listed) (lines : List (List ℕ)) → has_feed lines ≡ true
    → ended nodes lines ≡ Ok all → (lines ≡ [] ∷ []) × (nodes ≡ all)
ended_back nodes all lines more is =
    elim (is_end lines) as (λ b. is_end lines ≡ b
    → cond b (Ok nodes) (fault_at (length nodes + 3) BadEnd) ≡ Ok all
    → (lines ≡ [] ∷ []) × (nodes ≡ all)) [
      | true ↦ λ e h. (last_lines lines more e, cc)
      | false ↦ λ e h. cc
    ] refl is

placed_back : (nodes all : List Listed) (node : Listed) (lines : List (List ℕ))
    (later : List Listed → Result (List Listed) LoadFault)
    → with_turn nodes (placed nodes node) lines later ≡ Ok all
    → (later (nodes ++ node ∷ []) ≡ Ok all) × (length nodes < MOST_NODES)
placed_back nodes all node lines later is =
    let big = nat_le MOST_NODES (length nodes) in
    elim (not (follows nodes node.path)) as (λ b. with_turn nodes (cond b (Err NoOrder)
    (cond (nat_le MOST_CHILDREN (siblings nodes node.path)) (Err Many)
    (cond big (Err Big) (Ok (Some (nodes ++ node ∷ [])))))) lines later ≡ Ok all
    → (later (nodes ++ node ∷ []) ≡ Ok all) × (length nodes < MOST_NODES)) [
      | true ↦ λ h. cc
      | false ↦ λ h.
          elim (nat_le MOST_CHILDREN (siblings nodes node.path))
          as (λ b. with_turn nodes (cond b (Err Many)
          (cond big (Err Big) (Ok (Some (nodes ++ node ∷ []))))) lines later ≡ Ok all
          → (later (nodes ++ node ∷ []) ≡ Ok all) × (length nodes < MOST_NODES)) [
            | true ↦ λ g. cc
            | false ↦ λ g.
                elim big as (λ b. nat_le MOST_NODES (length nodes) ≡ b
                → with_turn nodes (cond b (Err Big) (Ok (Some (nodes ++ node ∷ [])))) lines later
                ≡ Ok all
                → (later (nodes ++ node ∷ []) ≡ Ok all) × (length nodes < MOST_NODES)) [
                  | true ↦ λ e f. cc
                  | false ↦ λ e f. (f, low_ten (length nodes) e)
                ] refl g
          ] h
    ] is

pub record IsRest (nodes all : List Listed) (lines : List (List ℕ)) : Type 0 where
  pub more : List Listed
  pub whole : all ≡ nodes ++ more
  pub text : join_with_byte 10 lines ≡ lines_with more ++ end_line (length all)
  pub words : AreLines more
  pub few : length all ≤ MOST_NODES

rest_ended : (nodes all : List Listed) (line : List ℕ) (lines : List (List ℕ))
    → length nodes ≤ MOST_NODES
    → line_of (length nodes) (has_feed lines) line ≡ Ok held.End
    → ended nodes lines ≡ Ok all → IsRest nodes all (line ∷ lines)
rest_ended nodes all line lines few is done =
    let end = line_end_back (length nodes) (has_feed lines) line is in
    let back = ended_back nodes all lines end.0 done in
    record {
      more = [];
      whole = sym back.1 ∙ sym (append-nil nodes);
      text = ap (λ (ls : List (List ℕ)). join_with_byte 10 (line ∷ ls)) back.0
          ∙ ap (λ l. l ++ 10 ∷ []) end.1
          ∙ ap (λ (ns : List Listed). end_line (length ns)) back.1;
      words = tt;
      few = omega (arith, few, ap length back.1);
    }

rest_more : (nodes all : List Listed) (node : Listed) (line : List ℕ) (lines : List (List ℕ))
    → line_of (length nodes) (has_feed lines) line ≡ Ok (held.Node node.path node.text)
    → IsRest (nodes ++ node ∷ []) all lines → IsRest nodes all (line ∷ lines)
rest_more nodes all node line lines is later =
    let back = line_node_back (length nodes) (has_feed lines) line node.path node.text is in
    let own = node_text node.path node.text in
    let after = lines_with later.more in
    let end = end_line (length all) in
    record {
      more = node ∷ later.more;
      whole = later.whole ∙ append_assoc nodes (node ∷ []) later.more;
      text = join_more line lines back.0 ∙ ap (λ l. l ++ 10 ∷ join_with_byte 10 lines) back.1.0
          ∙ ap (λ r. own ++ 10 ∷ r) later.text
          ∙ sym (append_assoc own (10 ∷ []) (after ++ end))
          ∙ sym (append_assoc (fed own) after end);
      words = (back.1.1, back.1.2, later.words);
      few = later.few;
    }

rest_of_lines : (lines : List (List ℕ)) (nodes all : List Listed) → length nodes ≤ MOST_NODES
    → nodes_from nodes lines ≡ Ok all → IsRest nodes all lines
rest_of_lines [] nodes all few is = cc
rest_of_lines (line ∷ lines) nodes all few is =
    let later : List Listed → Result (List Listed) LoadFault = λ more. nodes_from more lines in
    elim (line_of (length nodes) (has_feed lines) line) as (λ r.
    line_of (length nodes) (has_feed lines) line ≡ r
    → with_turn nodes (turn_of nodes r) lines later ≡ Ok all → IsRest nodes all (line ∷ lines)) [
      | Err kind ↦ λ e h. cc
      | Ok what ↦ λ e h.
          elim what as (λ w. line_of (length nodes) (has_feed lines) line ≡ Ok w
          → with_turn nodes (turn_of nodes (Ok w)) lines later ≡ Ok all
          → IsRest nodes all (line ∷ lines)) [
            | held.End ↦ λ f g. rest_ended nodes all line lines few f g
            | held.Node path text ↦ λ f g. (
                let node : Listed = record { path = path; text = text } in
                let back = placed_back nodes all node lines later g in
                rest_more nodes all node line lines f
                (rest_of_lines lines (nodes ++ node ∷ []) all
                (omega (arith, back.1, length-append nodes (node ∷ []))) back.0)
                )
          ] e h
    ] refl is

-- from a text to its contents
pub record IsText (bytes : List ℕ) (v : ℕ) (nodes : List Listed) : Type 0 where
  pub root : List ℕ
  pub more : List Listed
  pub whole : nodes ≡ root_of root ∷ more
  pub written : bytes ≡ head_line v
      ++ (root_line root ++ (lines_with more ++ end_line (length nodes)))
  pub version : v ≤ 1_000_000
  pub few : length nodes ≤ MOST_NODES
  pub text : is_text root ≡ true
  pub words : AreLines more

text_of_root : (line second : List ℕ) (lines : List (List ℕ)) (v : ℕ) (text : List ℕ)
    (nodes : List Listed) → line ≡ head_text v → v ≤ 1_000_000
    → root_line_of (has_feed lines) second ≡ Ok text
    → nodes_from (root_of text ∷ []) lines ≡ Ok nodes
    → IsText (join_with_byte 10 (line ∷ second ∷ lines)) v nodes
text_of_root line second lines v text nodes is low read rest =
    let back = root_back (has_feed lines) second text read in
    let later = rest_of_lines lines (root_of text ∷ []) nodes (omega arith) rest in
    let tail = lines_with later.more ++ end_line (length nodes) in
    record {
      root = text;
      more = later.more;
      whole = later.whole;
      written = ap (λ l. l ++ 10 ∷ join_with_byte 10 (second ∷ lines)) is
          ∙ ap (λ r. head_text v ++ 10 ∷ r)
          (join_more second lines back.0
          ∙ ap (λ l. l ++ 10 ∷ join_with_byte 10 lines) back.1
          ∙ ap (λ r. root_text text ++ 10 ∷ r) later.text
          ∙ sym (append_assoc (root_text text) (10 ∷ []) tail))
          ∙ sym (append_assoc (head_text v) (10 ∷ []) (root_line text ++ tail));
      version = low;
      few = later.few;
      text = back.2;
      words = later.words;
    }

text_of_nodes : (line : List ℕ) (lines : List (List ℕ)) (v : ℕ) (nodes : List Listed)
    → line ≡ head_text v → v ≤ 1_000_000 → nodes_of lines ≡ Ok nodes
    → IsText (join_with_byte 10 (line ∷ lines)) v nodes
text_of_nodes line [] v nodes is low read = cc
text_of_nodes line (second ∷ lines) v nodes is low read =
    elim (root_line_of (has_feed lines) second) as (λ r.
    root_line_of (has_feed lines) second ≡ r → with_root r lines ≡ Ok nodes
    → IsText (join_with_byte 10 (line ∷ second ∷ lines)) v nodes) [
      | Err kind ↦ λ e h. cc
      | Ok text ↦ λ e h. text_of_root line second lines v text nodes is low e h
    ] refl read

text_of_head : (line : List ℕ) (lines : List (List ℕ)) (o : Option ℕ) (has : Bool)
    (v : ℕ) (nodes : List Listed) → head_of line ≡ o
    → with_head o has lines ≡ Ok (record { version = v; nodes = nodes })
    → IsText (join_with_byte 10 (line ∷ lines)) v nodes
text_of_head line lines None has v nodes head is = cc
text_of_head line lines (Some w) false v nodes head is = cc
text_of_head line lines (Some w) true v nodes head is =
    elim (nodes_of lines) as (λ r. nodes_of lines ≡ r
    → with_nodes w r ≡ Ok (record { version = v; nodes = nodes })
    → IsText (join_with_byte 10 (line ∷ lines)) v nodes) [
      | Err fault ↦ λ e h. cc
      | Ok ns ↦ λ e h. (
          let same : record { version = w; nodes = ns }
          ≡ record { version = v; nodes = nodes } = cc in
          let version : w ≡ v = ap (λ (c : Contents). c.version) same in
          let list : ns ≡ nodes = ap (λ (c : Contents). c.nodes) same in
          let back = head_back line w head in
          text_of_nodes line lines v nodes (back.0 ∙ ap head_text version)
          (subst (λ k. k ≤ 1_000_000) version back.1) (e ∙ ap Ok list)
          )
    ] refl is

pub text_of_contents : (bytes : List ℕ) (v : ℕ) (nodes : List Listed)
    → contents_of bytes ≡ Ok (record { version = v; nodes = nodes }) → IsText bytes v nodes
text_of_contents bytes v nodes is =
    subst (λ b. IsText b v nodes) (join_with_byte-slice_split 10 bytes)
    (elim (lines_of bytes) as (λ ls. contents_in ls ≡ Ok (record { version = v; nodes = nodes })
    → IsText (join_with_byte 10 ls) v nodes) [
      | [] ↦ λ h. cc
      | line ∷ lines ↦ λ h.
          text_of_head line lines (head_of line) (has_feed lines) v nodes refl h
    ] is)

-- and back
abbrev pub AreNext : List Listed → List Listed → Type 0
AreNext nodes [] = Unit {0}
AreNext nodes (node ∷ more) =
    (placed nodes node ≡ Ok (Some (nodes ++ node ∷ []))) × AreNext (nodes ++ node ∷ []) more

next_line : (nodes : List Listed) (text rest : List ℕ) (reading : Result Held LoadKind)
    (lines : List (List ℕ)) → lines ≡ text ∷ lines_of rest
    → line_of (length nodes) true text ≡ reading
    → nodes_from nodes lines ≡ with_turn nodes (turn_of nodes reading) (lines_of rest)
    (λ more. nodes_from more (lines_of rest))
next_line nodes text rest reading lines is read =
    ap (nodes_from nodes) is
    ∙ ap (λ b. with_turn nodes (turn_of nodes (line_of (length nodes) b text)) (lines_of rest)
    (λ more. nodes_from more (lines_of rest))) (fed_lines rest)
    ∙ ap (λ r. with_turn nodes (turn_of nodes r) (lines_of rest)
    (λ more. nodes_from more (lines_of rest))) read

nodes_end : (nodes : List Listed) (total : ℕ) (tail : List ℕ) → total ≡ length nodes
    → total ≤ MOST_NODES
    → nodes_from nodes (lines_of (end_line total ++ tail)) ≡ ended nodes (lines_of tail)
nodes_end nodes total tail same few =
    let small : total < 2 ^ 64 = omega arith in
    next_line nodes (end_text total) tail (Ok held.End) (lines_of (end_line total ++ tail))
    (line_first (end_text total) tail (end_lacks total small))
    (ap (λ n. line_of n true (end_text total)) (sym same) ∙ end_line_there total small)

nodes_more : (nodes : List Listed) (node : Listed) (rest : List ℕ) → is_path node.path ≡ true
    → is_text node.text ≡ true → placed nodes node ≡ Ok (Some (nodes ++ node ∷ []))
    → nodes_from nodes (lines_of (node_line node.path node.text ++ rest))
    ≡ nodes_from (nodes ++ node ∷ []) (lines_of rest)
nodes_more nodes node rest path text next =
    let names = (and_parts _ (are_names node.path) path).1 in
    next_line nodes (node_text node.path node.text) rest (Ok (held.Node node.path node.text))
    (lines_of (node_line node.path node.text ++ rest))
    (line_first (node_text node.path node.text) rest (node_lacks node.path node.text names))
    (node_line_there (length nodes) node.path node.text path text)
    ∙ ap (λ r. with_turn nodes r (lines_of rest) (λ more. nodes_from more (lines_of rest))) next

pub nodes_of_lines : (more nodes : List Listed) (total : ℕ) (tail : List ℕ)
    → total ≡ length nodes + length more → total ≤ MOST_NODES → AreLines more → AreNext nodes more
    → nodes_from nodes (lines_of (lines_with more ++ (end_line total ++ tail)))
    ≡ ended (nodes ++ more) (lines_of tail)
nodes_of_lines [] nodes total tail same few words next =
    nodes_end nodes total tail (omega (arith, same)) few
    ∙ ap (λ (ns : List Listed). ended ns (lines_of tail)) (sym (append-nil nodes))
nodes_of_lines (node ∷ more) nodes total tail same few words next =
    let own = node_line node.path node.text in
    let rest = lines_with more ++ (end_line total ++ tail) in
    ap (λ b. nodes_from nodes (lines_of b))
    (append_assoc own (lines_with more) (end_line total ++ tail))
    ∙ nodes_more nodes node rest words.0 words.1 next.0
    ∙ nodes_of_lines more (nodes ++ node ∷ []) total tail
    (omega (arith, same, length-append nodes (node ∷ []))) few words.2 next.1
    ∙ ap (λ (ns : List Listed). ended ns (lines_of tail)) (append_assoc nodes (node ∷ []) more)

roots_line : (text rest : List ℕ) → is_text text ≡ true
    → nodes_of (lines_of (root_line text ++ rest)) ≡ nodes_from (root_of text ∷ []) (lines_of rest)
roots_line text rest is =
    ap nodes_of (line_first (root_text text) rest (root_lacks text))
    ∙ ap (λ b. with_root (root_line_of b (root_text text)) (lines_of rest)) (fed_lines rest)
    ∙ ap (λ r. with_root r (lines_of rest)) (root_there text is)

heads_line : (v : ℕ) (rest : List ℕ) → v ≤ 1_000_000
    → contents_of (head_line v ++ rest) ≡ with_nodes v (nodes_of (lines_of rest))
heads_line v rest low =
    let small : v < 2 ^ 64 = omega arith in
    ap contents_in (line_first (head_text v) rest (head_lacks v small))
    ∙ ap (λ o. with_head o (has_feed (lines_of rest)) (lines_of rest)) (head_there v low)
    ∙ ap (λ b. with_head (Some v) b (lines_of rest)) (fed_lines rest)

-- the parts of a dump before other bytes
regroup : (a b c d tail : List ℕ) → (a ++ (b ++ (c ++ d))) ++ tail ≡ a ++ (b ++ (c ++ (d ++ tail)))
regroup a b c d tail = simp append_assoc

-- the whole dump, before other bytes
pub contents_of_dump : (v : ℕ) (t : DocTree) (tail : List ℕ) → v ≤ 1_000_000
    → count t ≤ MOST_NODES → is_text t.text ≡ true → AreLines (listed_below t.kids)
    → AreNext (root_of t.text ∷ []) (listed_below t.kids)
    → contents_of (dump_of v t ++ tail) ≡ with_nodes v (ended (listed t) (lines_of tail))
contents_of_dump v t tail low few text words next =
    let end = end_line (count t) in
    ap contents_of (regroup (head_line v) (root_line t.text) (lines_below [] t.kids) end tail)
    ∙ heads_line v (root_line t.text ++ (lines_below [] t.kids ++ (end ++ tail))) low
    ∙ ap (with_nodes v)
    (roots_line t.text (lines_below [] t.kids ++ (end ++ tail)) text
    ∙ ap (λ b. nodes_from (root_of t.text ∷ []) (lines_of (b ++ (end ++ tail))))
    (lines_of_tree t.kids)
    ∙ nodes_of_lines (listed_below t.kids) (root_of t.text ∷ []) (count t) tail
    (omega (arith, count_listed t)) few words next)

-- names and texts
abbrev pub HaveWords : List Listed → Type 0
HaveWords [] = Unit {0}
HaveWords (node ∷ nodes) =
    (are_names node.path ≡ true) × (is_text node.text ≡ true) × HaveWords nodes

words_of_lines : (nodes : List Listed) → AreLines nodes → HaveWords nodes
words_of_lines [] all = tt
words_of_lines (node ∷ nodes) all =
    ((and_parts _ (are_names node.path) all.0).1, all.1, words_of_lines nodes all.2)

words_left : (l r : List Listed) → HaveWords (l ++ r) → HaveWords l
words_left [] r all = tt
words_left (node ∷ l) r all = (all.0, all.1, words_left l r all.2)

words_right : (l r : List Listed) → HaveWords (l ++ r) → HaveWords r
words_right [] r all = all
words_right (node ∷ l) r all = words_right l r all.2

words_within : (n : List ℕ) (nodes : List Listed) → HaveWords (map (under n) nodes)
    → HaveWords nodes
words_within n [] all = tt
words_within n (node ∷ nodes) all = (
  (and_parts (is_name n) (are_names node.path) all.0).1,
  all.1,
  words_within n nodes all.2,
)

words_of_kids : (kids : Kids) → HaveWords (listed_below kids) → has_words kids ≡ true
words_of_kids no_kids all = refl
words_of_kids (kid n text inside rest) all =
    let own = map (under n) (root_of text ∷ listed_below inside) in
    let here = words_left own (listed_below rest) all in
    let name = (and_parts (is_name n) true here.0).0 in
    let within = words_of_kids inside (words_within n (listed_below inside) here.2) in
    let later = words_of_kids rest (words_right own (listed_below rest) all) in
    and_from (is_name n && is_text text && has_words inside) (has_words rest)
    (and_from (is_name n && is_text text) (has_words inside)
    (and_from (is_name n) (is_text text) name here.1) within) later

pub words_there : (kids : Kids) → AreLines (listed_below kids) → has_words kids ≡ true
words_there kids all = words_of_kids kids (words_of_lines (listed_below kids) all)
