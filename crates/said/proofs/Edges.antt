-- The table of lines holds, computed.
use mathlib.Core.List.{map}
use mathlib.Core.Path.{◌≡◌, refl}
use Rattle.text.specs.Reading.{pieces, number_after, number_in}
use Rattle.spelling.specs.Spelling.{same, every, is_plain, is_number, is_name}
use Rattle.said.specs.Said.{is_silent, by_word, said_by}
use Rattle.said.specs.Edges.{said_of, meaning_of, lines}

pub lines_said : map said_of lines ≡ map meaning_of lines
unfolding said_by by_word is_plain is_silent is_number is_name every same pieces number_after number_in
lines_said = refl
