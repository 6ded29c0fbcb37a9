-- The table of numbers by their four bytes holds, read and made, by computation.
use mathlib.Core.List.{map}
use mathlib.Core.Path.{◌≡◌, refl}
use Rattle.words.specs.Words.{word_at}
use Rattle.words.specs.Edges.{bytes_of, number_of, read_of, made_of, words}

pub words_read : map read_of words ≡ map number_of words
unfolding word_at
words_read = refl

pub words_made : map made_of words ≡ map bytes_of words
words_made = refl
