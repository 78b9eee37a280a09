-- The word of a cell's colour.
-- Source: this project's layout of a word.
use Rattle.std.specs.Prelude.{ℕ, ◌≡◌}
use Rattle.cell_words.specs.declared.colours.Colour.{Colour}
use Rattle.cell_words.specs.declared.colours.Colour.TheVariants.{Blue, White, Gray, Black}

-- the word of a colour: 0 to 3
abbrev pub pack_colour_of : Colour → ℕ
pack_colour_of Blue = 0
pack_colour_of White = 1
pack_colour_of Gray = 2
pack_colour_of Black = 3

-- the word is some colour's
abbrev pub IsColourWord : ℕ → Type 0
IsColourWord word = (colour : Colour) × (pack_colour_of colour ≡ word)
