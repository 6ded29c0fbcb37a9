-- The lines of filings as the code reads them.
use Rattle.std.specs.Prelude.{ℕ, ◌+◌, ◌≤◌, true, List, [], ◌∷◌, ◌≡◌, length, drop}
use Rattle.text.specs.Reading.{pieces}
use Rattle.spelling.specs.Spelling.{every, is_printable}
use Rattle.spelling.specs.Clauses.{word_end}

-- A line of two words, the first of which is the word of a filing: the second, a file's name, is all that stands after the word and its space. It has 1 to 255 bytes,
-- none of them a space (it is one word) or a control byte.
pub record FileLine (word line : List ℕ) : Type 0 where
  pub words : pieces 32 line ≡ word ∷ drop (length word + 1) line ∷ []
  pub some : length word + 2 ≤ length line
  pub most : length line ≤ length word + 256
  pub spaceless : word_end (drop (length word + 1) line) ≡ length (drop (length word + 1) line)
  pub printable : every is_printable (drop (length word + 1) line) ≡ true
