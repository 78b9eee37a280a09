-- What is read is a dump, each dump is read, and none begins another.
use Rattle.std.proofs.Common.{◌≡◌, ℕ, ◌+◌, true, false, cond, List, [], ◌∷◌, ◌++◌, length, Result}
use Rattle.std.proofs.Common.{Ok, Err, refl, sym, ap, subst, ◌∙◌, append-nil, arith}
use Rattle.std.specs.Prelude.{IfOk}
use Rattle.std.specs.List.{join_with_byte}
use Rattle.std.proofs.lemmas.List.Splits.{join_with_byte-slice_split}
use Rattle.doc_tree.specs.Lawful.{IsLawful}
use Rattle.doc_tree.specs.Tree.{DocTree}
use Rattle.doc_tree.specs.Words.{is_text}
use Rattle.line_texts.specs.Lines.{is_end, lines_of}
use Rattle.dump_text.specs.Answers.{IsLoaded, Reads}
use Rattle.dump_text.specs.Contents.{Contents, contents_of, ended, fault_at, with_nodes}
use Rattle.dump_text.specs.Dump.{end_line, head_line, lines_below, root_line}
use Rattle.dump_text.specs.Laws.{IsDump, NoneIsAFront}
use Rattle.dump_text.specs.Listing.{Listed, listed, listed_below}
use Rattle.dump_text.specs.declared.fault.LoadError.{LoadError}
use Rattle.dump_text.specs.declared.fault.LoadError.TheVariants as load
use Rattle.dump_text.specs.declared.fault.LoadFault.{LoadFault}
use Rattle.dump_text.specs.declared.fault.LoadKind.TheVariants.{BadEnd}
use Rattle.dump_text.specs.declared.loader.Loaded.{Loaded}
use Rattle.dump_text.proofs.Decoding.{trees_same}
use Rattle.dump_text.proofs.Followers.{lines_of_tree, next_of_tree}
use Rattle.line_texts.proofs.Rests.{fed_lines}
use Rattle.dump_text.proofs.Listings.{count_listed}
use Rattle.dump_text.proofs.Texts.{AreLines, IsText, contents_of_dump, last_lines, lines_with}
use Rattle.dump_text.proofs.Texts.{text_of_contents, words_there}
use Rattle.dump_text.proofs.Texts as texts

-- what is read is a dump
abbrev first_text : List Listed → List ℕ
first_text [] = []
first_text (node ∷ nodes) = node.text

abbrev later_nodes : List Listed → List Listed
later_nodes [] = []
later_nodes (node ∷ nodes) = nodes

dump_from : (bytes : List ℕ) (v : ℕ) (t : DocTree) → IsLawful t → IsText bytes v (listed t)
    → IsDump bytes v t
dump_from bytes v t lawful is =
    let root : t.text ≡ is.root = ap first_text is.whole in
    let more : listed_below t.kids ≡ is.more = ap later_nodes is.whole in
    let few = is.few in
    record {
      written = is.written
          ∙ ap (λ r. head_line v ++ (root_line r ++ (lines_with is.more
          ++ end_line (length (listed t))))) (sym root)
          ∙ ap (λ (ns : List Listed). head_line v ++ (root_line t.text ++ (lines_with ns
          ++ end_line (length (listed t))))) (sym more)
          ∙ ap (λ b. head_line v ++ (root_line t.text ++ (b ++ end_line (length (listed t)))))
          (sym (texts.lines_of_tree t.kids))
          ∙ ap (λ n. head_line v ++ (root_line t.text ++ (lines_below [] t.kids ++ end_line n)))
          (count_listed t);
      version = is.version;
      few = omega (arith, few, count_listed t);
      lawful = lawful;
      text = ap is_text root ∙ is.text;
      words = words_there t.kids (subst AreLines (sym more) is.words);
    }

pub dump_of_read : (bytes : List ℕ) (v : ℕ) (t : DocTree)
    → contents_of bytes ≡ Ok (record { version = v; nodes = listed t }) → IsLawful t
    → IsDump bytes v t
dump_of_read bytes v t is lawful =
    dump_from bytes v t lawful (text_of_contents bytes v (listed t) is)

-- each dump is read
behind_dump : (bytes tail : List ℕ) (v : ℕ) (t : DocTree) → IsDump bytes v t
    → contents_of (bytes ++ tail) ≡ with_nodes v (ended (listed t) (lines_of tail))
behind_dump bytes tail v t is =
    ap (λ b. contents_of (b ++ tail)) is.written
    ∙ contents_of_dump v t tail is.version is.few is.text (lines_of_tree t is.lawful is.words)
    (next_of_tree t is.lawful is.few)

pub contents_there : (bytes : List ℕ) (v : ℕ) (t : DocTree) → IsDump bytes v t
    → contents_of bytes ≡ Ok (record { version = v; nodes = listed t })
contents_there bytes v t is =
    ap contents_of (sym (append-nil bytes)) ∙ behind_dump bytes [] v t is

abbrev nodes_in : Result Contents LoadFault → List Listed
nodes_in (Ok contents) = contents.nodes
nodes_in (Err fault) = []

abbrev version_in : Result Contents LoadFault → ℕ
version_in (Ok contents) = contents.version
version_in (Err fault) = 0

no_fault : (fault : LoadFault) (c : Contents)
    → ◌≡◌ {A = Result Contents LoadFault} (Err fault) (Ok c) → ⊥
no_fault fault c is = cc

pub loaded_of : (answer : Result Loaded LoadError) (bytes : List ℕ) (v : ℕ) (t : DocTree)
    → Reads answer (contents_of bytes) → IsDump bytes v t → IsLoaded answer v t
loaded_of (Ok loaded) bytes v t reads is =
    let same = sym reads ∙ contents_there bytes v t is in
    (ap version_in same, trees_same loaded.tree t (ap nodes_in same))
loaded_of (Err (load.Fault fault)) bytes v t reads is =
    no_fault fault (record { version = v; nodes = listed t })
    (sym reads ∙ contents_there bytes v t is)
loaded_of (Err load.NoMemory) bytes v t reads is = tt

pub loaded_dump : (answer : Result Loaded LoadError) (bytes : List ℕ)
    → Reads answer (contents_of bytes) → IfOk answer (λ l. IsLawful l.tree)
    → IfOk answer (λ l. IsDump bytes l.version l.tree)
loaded_dump (Ok loaded) bytes reads lawful =
    dump_of_read bytes loaded.version loaded.tree reads lawful
loaded_dump (Err error) bytes reads lawful = tt

-- none begins another
no_bytes : (bytes : List ℕ) → is_end (lines_of bytes) ≡ true → bytes ≡ []
no_bytes bytes end =
    sym (join_with_byte-slice_split 10 bytes)
    ∙ ap (join_with_byte 10) (last_lines (lines_of bytes) (fed_lines bytes) end)

end_from : (v w : ℕ) (nodes others : List Listed) (lines : List (List ℕ))
    → with_nodes v (ended nodes lines) ≡ Ok (record { version = w; nodes = others })
    → is_end lines ≡ true
end_from v w nodes others lines is =
    elim (is_end lines)
    as (λ b. with_nodes v (cond b (Ok nodes) (fault_at (length nodes + 3) BadEnd))
    ≡ Ok (record { version = w; nodes = others }) → b ≡ true)
    [ true ↦ λ h. refl | false ↦ λ h. cc ] is

pub none_is_a_front : NoneIsAFront
none_is_a_front bytes more v w t u first second =
    no_bytes more
    (end_from v w (listed t) (listed u) (lines_of more)
    (sym (behind_dump bytes more v t first) ∙ contents_there (bytes ++ more) w u second))
