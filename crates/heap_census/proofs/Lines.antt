-- The text of a heap, a line after another.
use Rattle.std.specs.Prelude.{codes, decimal, if◌then◌else◌}
use Rattle.std.proofs.Common.{◌≡◌, ◌≤◌, ◌++◌, ◌+◌, ◌∙◌, ℕ, true, false, List, [], ap, add-one}
use Rattle.std.proofs.Common.{append_assoc, append-nil, arith, sym}
use Rattle.line_texts.specs.CellTexts.{colour_text, field_text}
use Rattle.heap_census.specs.Heap.{Heap, is_free}
use Rattle.heap_census.specs.ImageText.{cell_line, cell_lines, fields_text, image_text}

-- a cell's number and colour
abbrev pub line_head : Heap → ℕ → List ℕ
line_head h c = decimal c ++ (codes " " ++ colour_text (h.colour c))

-- the line with the number of cells
abbrev pub text_head : Heap → List ℕ
text_head h = codes "image 1 " ++ (decimal h.cells ++ codes "\n")

-- the fields of a line

pub line_first : (h : Heap) (c : ℕ) (colour line : List ℕ) → colour ≡ colour_text (h.colour c)
    → line ≡ decimal c ++ (codes " " ++ colour) → line ≡ line_head h c ++ fields_text h c 0
line_first h c colour line is so =
    so ∙ (ap (λ (x : List ℕ). decimal c ++ (codes " " ++ x)) is ∙ sym (append-nil (line_head h c)))

pub line_more : (h : Heap) (c i : ℕ) (line next : List ℕ)
    → line ≡ line_head h c ++ fields_text h c i
    → next ≡ line ++ (codes " " ++ field_text (h.field c i))
    → next ≡ line_head h c ++ fields_text h c (i + 1)
line_more h c i line next so adds =
    let field : List ℕ = codes " " ++ field_text (h.field c i) in
    adds
    ∙ (ap (λ (l : List ℕ). l ++ field) so
    ∙ (append_assoc (line_head h c) (fields_text h c i) field
    ∙ ap (λ n. line_head h c ++ fields_text h c n) (sym (add-one i))))

pub line_done : (h : Heap) (c i : ℕ) (line whole : List ℕ)
    → line ≡ line_head h c ++ fields_text h c i → i ≤ 6 → 6 ≤ i → whole ≡ line ++ codes "\n"
    → whole ≡ cell_line h c
line_done h c i line whole so most least adds =
    let all : i ≡ 6 = omega (arith, most, least) in
    let colour : List ℕ = codes " " ++ colour_text (h.colour c) in
    adds
    ∙ (ap (λ (l : List ℕ). l ++ codes "\n") (so ∙ ap (λ n. line_head h c ++ fields_text h c n) all)
    ∙ (append_assoc (line_head h c) (fields_text h c 6) (codes "\n")
    ∙ append_assoc (decimal c) colour (fields_text h c 6 ++ codes "\n")))

-- the lines of a text

pub text_first : (h : Heap) (count : ℕ) (before bytes head text : List ℕ) → before ≡ []
    → bytes ≡ head → head ≡ codes "image 1 " ++ (decimal count ++ codes "\n") → count ≡ h.cells
    → text ≡ before ++ bytes → text ≡ text_head h ++ cell_lines h 0
text_first h count before bytes head text none same is cells adds =
    adds
    ∙ (ap (λ (b : List ℕ). b ++ bytes) none
    ∙ (same ∙ (is
    ∙ (ap (λ n. codes "image 1 " ++ (decimal n ++ codes "\n")) cells
    ∙ sym (append-nil (text_head h))))))

pub lines_more : (h : Heap) (c : ℕ) (text next bytes line : List ℕ)
    → text ≡ text_head h ++ cell_lines h c → is_free h c ≡ false → bytes ≡ line
    → line ≡ cell_line h c → next ≡ text ++ bytes → next ≡ text_head h ++ cell_lines h (c + 1)
lines_more h c text next bytes line so used same is adds =
    adds
    ∙ (ap (λ (b : List ℕ). text ++ b) (same ∙ is)
    ∙ (ap (λ (t : List ℕ). t ++ cell_line h c) so
    ∙ (append_assoc (text_head h) (cell_lines h c) (cell_line h c)
    ∙ (ap (λ b. text_head h ++ (cell_lines h c ++ (if b then [] else cell_line h c))) (sym used)
    ∙ ap (λ n. text_head h ++ cell_lines h n) (sym (add-one c))))))

pub lines_pass : (h : Heap) (c : ℕ) (text : List ℕ) → text ≡ text_head h ++ cell_lines h c
    → is_free h c ≡ true → text ≡ text_head h ++ cell_lines h (c + 1)
lines_pass h c text so free =
    so
    ∙ (ap (λ (l : List ℕ). text_head h ++ l) (sym (append-nil (cell_lines h c)))
    ∙ (ap (λ b. text_head h ++ (cell_lines h c ++ (if b then [] else cell_line h c))) (sym free)
    ∙ ap (λ n. text_head h ++ cell_lines h n) (sym (add-one c))))

pub text_done : (h : Heap) (c : ℕ) (text whole : List ℕ) → text ≡ text_head h ++ cell_lines h c
    → c ≡ h.cells → whole ≡ text ++ codes "end\n" → whole ≡ image_text h
text_done h c text whole so all adds =
    let lines : List ℕ = cell_lines h h.cells in
    let rest : List ℕ = lines ++ codes "end\n" in
    adds
    ∙ (ap (λ (t : List ℕ). t ++ codes "end\n")
    (so ∙ ap (λ n. text_head h ++ cell_lines h n) all)
    ∙ (append_assoc (text_head h) lines (codes "end\n")
    ∙ ap (λ (x : List ℕ). codes "image 1 " ++ x)
    (append_assoc (decimal h.cells) (codes "\n") rest)))
