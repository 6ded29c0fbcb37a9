-- The tests as the code walks through them: state by state, row by row, and by exits within a row.
use Rattle.std.specs.Prelude.{ℕ, ◌+◌, ◌*◌, List}
use Rattle.outcome.specs.Tests.{Test}
use Rattle.walks.specs.Lists.{each}
use Rattle.delivery.specs.declared.shape.Block.{Block}
use Rattle.layout.specs.Layout.{record_tests}

-- The record for exit q of a row whose records start at record `at`.
abbrev pub record_of_row : List ℕ → Block → ℕ → ℕ → ℕ → ℕ → List Test
record_of_row d k at p z q = record_tests d (at + q) k p z q

-- The records of row (p, z), where the records of state p start at record `at`, with n records a row.
abbrev pub row_of_state : List ℕ → Block → ℕ → ℕ → ℕ → ℕ → List Test
row_of_state d k at n p z = each n (record_of_row d k (at + z * n) p z)

-- The records of state p of a block that starts at record `from`.
abbrev pub state_of_block : List ℕ → Block → ℕ → ℕ → ℕ → ℕ → List Test
state_of_block d k from n g p = each g (row_of_state d k (from + p * g * n) n p)
