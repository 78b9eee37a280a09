-- The lines that the program writes of a client's replies.
-- Source: this project's own.
use Rattle.std.specs.Prelude.{ℕ, List, [], ◌∷◌, ◌++◌, ◌==◌, codes, decimal, flat_map}
use Rattle.std.specs.Prelude.{if◌then◌else◌}
use Rattle.doc_model.specs.declared.command.Reply.{Reply}
use Rattle.doc_model.specs.declared.command.Reply.TheVariants.{Committed, Drafted, Val, Names}
use Rattle.doc_model.specs.declared.command.Reply.TheVariants.{Count, Absent, Gone, Before, Many}
use Rattle.doc_model.specs.declared.command.Reply.TheVariants.{Deep, Big, Worn, Full}
use Rattle.cmd_text.specs.declared.form.Form.{Form}
use Rattle.cmd_text.specs.declared.form.Form.TheVariants.{Plain, Quoted}
use Rattle.quoted_text.specs.Quoted.{quoted_of}

-- the line above a client's replies
abbrev pub heading_of : ℕ → List ℕ
heading_of client = codes "client " ++ decimal client ++ codes "\n"

-- names, each after a space
abbrev pub spaced : List (List ℕ) → List ℕ
spaced names = flat_map (λ name. codes " " ++ name) names

-- a byte of a text that is shown as it is: a tab and a line feed are written with a backslash
abbrev pub plainly : ℕ → List ℕ
plainly b =
    if b == 9 then 92 ∷ 116 ∷ []
    else if b == 10 then 92 ∷ 110 ∷ []
    else b ∷ []

abbrev pub plainly_of : List ℕ → List ℕ
plainly_of text = flat_map plainly text

-- a text in this form
abbrev pub shown_text : Form → List ℕ → List ℕ
shown_text Plain text = plainly_of text
shown_text Quoted text = quoted_of text

-- the line of a text that was found
abbrev pub value_text_of : Form → ℕ → List ℕ → List ℕ
value_text_of form shown text =
    codes "val " ++ decimal shown ++ codes " " ++ shown_text form text ++ codes "\n"

-- the line of a reply, whose text is in this form
abbrev pub reply_text_of : Form → Reply → List ℕ
reply_text_of form (Committed shown) = codes "ok " ++ decimal shown ++ codes "\n"
reply_text_of form (Drafted shown) = codes "drafted " ++ decimal shown ++ codes "\n"
reply_text_of form (Val shown text) = value_text_of form shown text
reply_text_of form (Names shown names) =
    codes "names " ++ decimal shown ++ spaced names ++ codes "\n"
reply_text_of form (Count shown count) =
    codes "num " ++ decimal shown ++ codes " " ++ decimal count ++ codes "\n"
reply_text_of form (Absent shown) = codes "none " ++ decimal shown ++ codes "\n"
reply_text_of form (Gone shown wanted) =
    codes "gone " ++ decimal shown ++ codes " " ++ decimal wanted ++ codes "\n"
reply_text_of form (Before shown) = codes "before " ++ decimal shown ++ codes "\n"
reply_text_of form (Many shown) = codes "many " ++ decimal shown ++ codes "\n"
reply_text_of form (Deep shown) = codes "deep " ++ decimal shown ++ codes "\n"
reply_text_of form (Big shown) = codes "big " ++ decimal shown ++ codes "\n"
reply_text_of form (Worn shown) = codes "worn " ++ decimal shown ++ codes "\n"
reply_text_of form (Full shown) = codes "full " ++ decimal shown ++ codes "\n"
