-- The table of records by their bytes holds, read and made, by computation.
use Prim.Native.Nat.{◌+◌, ◌*◌, ◌^◌}
use mathlib.Core.List.{[], ◌∷◌}
use mathlib.Core.Path.{◌≡◌, refl}
use Rattle.words.specs.Words.{word_at}
use Rattle.walks.specs.Lists.{list_to}
use Rattle.model.specs.Records.{records_of, field, weight, key}
use Rattle.model.specs.Numbers.{numeral, key_number}
use Rattle.model.specs.Rules.{rule_of, rules_of}
use Rattle.model.specs.Made.{made_model}
use Rattle.model.specs.Edges.{records_file, rules_said}

pub records_read : rules_of records_file ≡ rules_said
unfolding rules_of list_to rule_of records_of field weight word_at
records_read = refl

pub records_made : made_model rules_said ≡ records_file
unfolding made_model
records_made = refl

-- The key by which records ascend is p, Z, q, L, Y, X.
pub key_read : key records_file 0 ≡ 1 ∷ 5 ∷ 3 ∷ 2 ∷ 9 ∷ 7 ∷ []
unfolding field
key_read = refl

-- Its number in the base 256, each byte in its place.
pub number_read : key_number (key records_file 0) ≡ 1 * 256 ^ 5 + 5 * 256 ^ 4 + 3 * 256 ^ 3 + 2 * 256 ^ 2 + 9 * 256 + 7
unfolding field numeral
number_read = refl
