-- Marks kept by rows, a row's marked exits as the bits of one number, and one round of them, as it is worked out row by row.
use Rattle.std.specs.Prelude.{ℕ, ◌/◌, ◌%◌, ◌^◌, ◌*◌, ◌<◌, List, ◌≡◌, length}
use Rattle.ppda.specs.Equations.{Vector, Same, rows, through, f}
use Rattle.model.specs.Format.{most_rows}
use Rattle.walks.specs.Sums.{sign}
use Rattle.walks.specs.Order.{row_at}
use Rattle.model.specs.declared.sizes.Sizes.{Sizes}
use Rattle.model.specs.Records.{target}
use Rattle.model.specs.Rules.{push_at, rules_of}

-- Bit q of a number.
abbrev pub bit_of : ℕ → ℕ → ℕ
bit_of n q = n / 2 ^ q % 2

-- The marks of a list with one number a row: bit q of row (p, z).
abbrev pub exit_marks : ℕ → List ℕ → Vector
exit_marks g l p z q = bit_of (rows g l p z) q

-- The list has the marks v of the rows' exits.
pub record ExitsOf (s g : ℕ) (v : Vector) (l : List ℕ) : Type 0 where
  pub size : length l ≡ most_rows
  pub marks : Same s g (exit_marks g l) v

-- ---- one round

-- One product of f of the marks l at a rule that pushes two, whose first symbol has the exits a.
abbrev pub mark_product : ℕ → List ℕ → ℕ → ℕ → ℕ → ℕ → ℕ
mark_product g l a x q t = bit_of a t * exit_marks g l t x q

-- Whether record i gives its row exit q, by the marks of the list: more than 0 where it does.
abbrev pub through_marks : List ℕ → ℕ → Sizes → List ℕ → ℕ → ℕ
through_marks b i n l q = through n.states 1 (exit_marks n.symbols l) (target b i) (push_at b i) q

-- The mark of an entry after one more round from the marks of the list.
unfoldable pub next_mark : List ℕ → ℕ → ℕ → List ℕ → ℕ → ℕ → ℕ → ℕ
next_mark b s g l p z q = sign (f (rules_of b) s 1 (exit_marks g l) p z q)

-- The number has row (p, z)'s exits after one more round.
abbrev pub NextExits : List ℕ → ℕ → ℕ → List ℕ → ℕ → ℕ → ℕ → Type 0
NextExits b s g l p z n = (q : ℕ) → q < s → bit_of n q ≡ next_mark b s g l p z q

-- The same for row number k.
abbrev pub NextExitsOf : List ℕ → Sizes → List ℕ → ℕ → ℕ → Type 0
NextExitsOf b n l k = NextExits b n.states n.symbols l (k / n.symbols) (k % n.symbols)

-- The list has the marks of the next round at the first n rows.
pub record RoundTo (b : List ℕ) (s g : ℕ) (marks : List ℕ) (n : ℕ) (l : List ℕ) : Type 0 where
  pub size : length l ≡ most_rows
  pub done : (p z : ℕ) → p < s → z < g → row_at g p z < n → NextExits b s g marks p z (rows g l p z)
