-- The table of lines holds, computed.
use mathlib.Core.List.{map}
use mathlib.Core.Path.{◌≡◌, refl}
use Rattle.text.specs.Decimal.{digits_to, decimal}
use Rattle.lines.specs.Edges.{made_of, bytes_of, lines}

pub lines_printed : map made_of lines ≡ map bytes_of lines
unfolding decimal digits_to
lines_printed = refl
