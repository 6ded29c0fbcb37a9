-- The model that a machine is (request A.2): one symbol, 0, of which the stack has as many as the count.
use Rattle.std.specs.Prelude.{List, map}
use Rattle.ppda.specs.Rules.{Push, nothing, one, two, Rule, rule}
use Rattle.onecounter.specs.Moves.{Shift, down, level, up, Move}

-- What is pushed in the place of the symbol that a step removes: d symbols 0.
abbrev pub push_for : Shift → Push
push_for down = nothing
push_for level = one 0
push_for up = two 0 0

-- The rule of a move: (u, symbol 0) → v pushing d symbols 0, with the same weight.
abbrev pub rule_for : Move → Rule
rule_for e = rule e.from 0 e.to (push_for e.shift) e.weight

-- The rules of a machine, in the same order.
unfoldable pub rules_for : List Move → List Rule
rules_for m = map rule_for m
