-- The numbers that a register holds after a merge (request A.5), from those that it held and those of the second delivery. For deliveries that were accepted
-- they are the numbers of the merged file (theorem `merged_numbers`).
use Rattle.std.specs.Prelude.{ℕ, min, max, Bool, true, false, cond, ◌&&◌, List, get_or}
use Rattle.walks.specs.Order.{rows_in, entries_in}
use Rattle.ppda.specs.Margin.{margin}
use Rattle.model.specs.Records.{states_of, symbols_of}
use Rattle.model.specs.Rules.{rules_of}
use Rattle.delivery.specs.declared.shape.Shape.{Shape}
use Rattle.delivery.specs.Shapes.{has_lowers, has_means}
use Rattle.held.specs.declared.Numbers.{Numbers}
use Rattle.held.specs.Held.{padded, if_standing}
use Rattle.held.specs.Places.{entries_by_exit}

-- What the rule keeps of each pair of the first n numbers of two lists: with min the smaller, with max the larger.
unfoldable pub kept_to : (ℕ → ℕ → ℕ) → ℕ → List ℕ → List ℕ → List ℕ
kept_to rule n l k = padded (λ e. rule (get_or l e 0) (get_or k e 0)) n

-- The mean steps of the first n rows, by whether the one and the other delivery has any: of both the smaller, of one that one's.
abbrev pub means_to : ℕ → Bool → Bool → List ℕ → List ℕ → List ℕ
means_to n true true l k = kept_to min n l k
means_to n true false l k = l
means_to n false other l k = k

-- The margin of uppers u that are listed by exit, for the model b.
abbrev pub margin_in : List ℕ → List ℕ → ℕ
margin_in b u = margin (rules_of b) (states_of b) (symbols_of b) (entries_by_exit (states_of b) (symbols_of b) u)

-- The numbers `former`, of a delivery of shape h, merged with the numbers `second` of one of shape k, for the model b. The margin is their own.
unfoldable pub numbers_merged : List ℕ → Shape → Numbers → Shape → Numbers → Numbers
numbers_merged b h former k second =
    record {
      uppers = kept_to min (entries_in (states_of b) (symbols_of b)) former.uppers second.uppers;
      lowers = if_standing (has_lowers h && has_lowers k) (kept_to max (entries_in (states_of b) (symbols_of b)) former.lowers second.lowers);
      means = means_to (rows_in (states_of b) (symbols_of b)) (has_means h) (has_means k) former.means second.means;
      margin = cond (has_lowers h && has_lowers k)
          (margin_in b (kept_to min (entries_in (states_of b) (symbols_of b)) former.uppers second.uppers)) 0;
    }
