-- The entries of maps: one at each field of a box, and those of a map of which one field of one box
-- is written.
use Rattle.std.proofs.Common.{◌≡◌, ◌≢◌, ℕ, Some, None, Option, sym, ◌∙◌, ap}
use Rattle.cell_words.specs.Term.{num}
use Rattle.heap_rule.specs.Boxes.{Map, Payload, with_entry, written_map}
use Rattle.heap_rule.specs.Lore.{Entry, Named, Plain, put}
use Rattle.heap_rule.proofs.Claiming.{put_here, put_other}

abbrev entry_in : Option Payload → ℕ → Entry
entry_in None f = Named 0
entry_in (Some p) f = p f

-- one box at one cell
pub same_entry : (map : Map) (x f : ℕ) (p q : Payload) → map x ≡ Some p → map x ≡ Some q
    → p f ≡ q f
same_entry map x f p q a b = ap (λ (o : Option Payload). entry_in o f) (sym a ∙ b)

pub named_inj : (a b : ℕ) → Named a ≡ Named b → a ≡ b
named_inj a b e = cc

pub num_inj : (a b : ℕ) → Plain (num a) ≡ Plain (num b) → a ≡ b
num_inj a b e = cc

-- what stands at a cell is one payload
abbrev payload_in : Payload → Option Payload → Payload
payload_in d None = d
payload_in d (Some p) = p

pub some_is : (p q : Payload) → Some p ≡ Some q → p ≡ q
some_is p q e = ap (payload_in p) e

-- One field of one box of a map changes.
module _ (map : Map) (x f : ℕ) (entry : Entry) (box : Payload) (there : map x ≡ Some box) where
  pub written_here : written_map map x f entry x ≡ Some (put box f entry)
  written_here = put_here map x (with_entry (map x) f entry)
      ∙ ap (λ (o : Option Payload). with_entry o f entry) there

  pub written_else : (y : ℕ) → y ≢ x → written_map map x f entry y ≡ map y
  written_else y other = put_other map x (with_entry (map x) f entry) y other
