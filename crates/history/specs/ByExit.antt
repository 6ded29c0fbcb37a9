-- What request A.6 says of a register: where the numbers that it shows are held, today and before the request, with the formulas written out, and that every answer
-- equals that under the old order. Theorems of the same names prove it (`history/proofs/ByExit.antt`, `history/proofs/FileOrder.antt`).
use Rattle.std.specs.Prelude.{ℕ, ◌+◌, ◌*◌, ◌≤◌, true, List, [], ◌∷◌, ◌≡◌, get_or, Some}
use Rattle.walks.specs.Order.{entries_in, AtEntries}
use Rattle.ppda.specs.Equations.{Vector}
use Rattle.model.specs.Format.{most_entries}
use Rattle.model.specs.Records.{states_of, symbols_of}
use Rattle.delivery.specs.declared.shape.Shape.{Shape}
use Rattle.delivery.specs.Shapes.{has_lowers, shape_of}
use Rattle.delivery.specs.Numbers.{uppers_of, lowers_of}
use Rattle.held.specs.Held.{listed, listed_by_exit}
use Rattle.calls.specs.Calls.{Call, upper, lower, mean_steps, live, value}
use Rattle.register.specs.declared.Register.{Register}
use Rattle.register.specs.Filing.{cleared}
use Rattle.register.specs.Questions.{lists_of}
use Rattle.history.specs.Run.{reply_of, register_after, reply_to, replies}
use Rattle.history.specs.Mission.{Holds, HoldsDelivery}
use Rattle.history.specs.FileOrder.{reply_by_file, register_by_file, replies_by_file}

-- ---- where numbers are held, in any value r of a register, whose model has s = r.model.states and g = r.model.symbols

-- "Hold uppers and lowers in the order (q, p, Z), so that entry (p, Z, q) has place (q × s + p) × g + Z": the number that a question shows stands there. Mean steps
-- and live marks stay in the order of files. The lists that a register hands out are these. (Which numbers are shown is said by the mission; where a delivery is held,
-- all of its numbers are.)
pub record HeldByExit (r : Register) : Type 0 where
  pub uppers : (p z q n : ℕ) → reply_of r (upper p z q) ≡ value n → get_or r.numbers.uppers ((q * r.model.states + p) * r.model.symbols + z) 0 ≡ n
  pub lowers : (p z q n : ℕ) → reply_of r (lower p z q) ≡ value n → get_or r.numbers.lowers ((q * r.model.states + p) * r.model.symbols + z) 0 ≡ n
  pub means : (p z n : ℕ) → reply_of r (mean_steps p z) ≡ value n → get_or r.numbers.means (p * r.model.symbols + z) 0 ≡ n
  pub marks : (p z q n : ℕ) → reply_of r (live p z q) ≡ value n → get_or r.model.live ((p * r.model.symbols + z) * r.model.states + q) 0 ≡ n
  pub lists : lists_of r ≡ r.model.live ∷ r.numbers.uppers ∷ r.numbers.lowers ∷ r.numbers.means ∷ []

-- So, after any list of calls, the uppers and lowers of the delivery d that is held stand by exit, for the sizes of the model b that is held.
pub record DeliveryByExit (cs : List Call) (b d : List ℕ) : Type 0 where
  pub uppers : AtEntries (states_of b) (symbols_of b) (λ p z q.
      get_or (register_after cs).numbers.uppers ((q * states_of b + p) * symbols_of b + z) 0 ≡ uppers_of (states_of b) (symbols_of b) d p z q)
  pub lowers : (h : Shape) → shape_of (states_of b) (symbols_of b) d ≡ Some h → has_lowers h ≡ true → AtEntries (states_of b) (symbols_of b) (λ p z q.
      get_or (register_after cs).numbers.lowers ((q * states_of b + p) * symbols_of b + z) 0 ≡ lowers_of (states_of b) (symbols_of b) d p z q)

abbrev pub DeliveriesByExit : List Call → Type 0
DeliveriesByExit cs = (b d : List ℕ) → Holds cs b → HoldsDelivery cs d → DeliveryByExit cs b d

-- Before the request, uppers and lowers stood in the order of files too.
pub record HeldByFile (r : Register) : Type 0 where
  pub uppers : (p z q n : ℕ) → reply_by_file r (upper p z q) ≡ value n → get_or r.numbers.uppers ((p * r.model.symbols + z) * r.model.states + q) 0 ≡ n
  pub lowers : (p z q n : ℕ) → reply_by_file r (lower p z q) ≡ value n → get_or r.numbers.lowers ((p * r.model.symbols + z) * r.model.states + q) 0 ≡ n

-- For any vector, of as many entries as a list has places for, the two ways of holding it give the same number for every entry: its own.
abbrev pub SameNumbers : ℕ → ℕ → Vector → Type 0
SameNumbers s g v =
    entries_in s g ≤ most_entries → AtEntries s g (λ p z q.
    (get_or (listed_by_exit s g v) ((q * s + p) * g + z) 0 ≡ v p z q) × (get_or (listed s g v) ((p * g + z) * s + q) 0 ≡ v p z q))

-- ---- "every answer is proved equal to that under the old order"

-- After any list of calls, latest first, to one call more; and to calls in the order of time, from an empty register.
abbrev pub SameAnswers : List Call → Type 0
SameAnswers cs = (c : Call) → reply_to cs c ≡ reply_by_file (register_by_file cs) c

abbrev pub SameAnswersInTime : List Call → Type 0
SameAnswersInTime cs = replies cleared cs ≡ replies_by_file cleared cs
