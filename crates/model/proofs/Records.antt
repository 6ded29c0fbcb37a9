-- The laws of a model file's records, of its sizes, and of a row's sum over them.
use Prim.Native.Nat.{ℕ, suc, ◌+◌, ◌-◌, ◌*◌, ◌≤◌, ◌<◌, max}
use native.Mathlib.Nat.{max-le, mul-le-mul}
use native.Mathlib.Omega.{arith}
use mathlib.Core.List.{List}
use mathlib.Core.Path.{◌≡◌, sym, ap, ap₂, ◌∙◌}
use Rattle.walks.specs.Sums.{bit, sum_to, greatest_to}
use Rattle.walks.specs.Order.{rows_in, entries_in}
use Rattle.ppda.specs.Rules.{Rule, fits, over_row}
use Rattle.walks.proofs.Sums.{greatest_none, greatest_step, greatest_le, greatest_most}
use Rattle.walks.proofs.Lists.{list_to_sum}
use Rattle.model.specs.Format.{most_states, most_symbols, most_rows}
use Rattle.model.specs.Records.{records_of, state, symbol, target, top, under, weight, state_named, symbol_named, states_of, symbols_of}
use Rattle.model.specs.Rules.{rule_of, rules_of}
use Rattle.model.specs.Accepted.{RecordRight}
use Rattle.model.specs.Clauses.{Narrow, Fits, SizesTo}
use Rattle.model.specs.Sizes.{sizes_of}
use Rattle.model.specs.declared.sizes.Sizes.{Sizes}

-- ---- states and symbols

-- The sizes of no records, and of one record more.
pub sizes_none : {b : List ℕ} {n : Sizes} → n.states ≡ 1 → n.symbols ≡ 1 → SizesTo b 0 n
sizes_none {b} s g =
    record {
      states = s ∙ sym (ap suc (greatest_none (state_named b)));
      symbols = g ∙ sym (ap suc (greatest_none (symbol_named b)));
      few_states = omega (arith, s);
      few_symbols = omega (arith, g);
    }

-- The greater of one more than the greatest before and one more than the next.
next_greatest : (h : ℕ → ℕ) (i : ℕ) {a n k : ℕ} → a ≡ suc (greatest_to h i) → n ≡ h i → k ≡ max a (n + 1) → k ≡ suc (greatest_to h (i + 1))
next_greatest h i {a} {n} {k} before next e =
    e ∙ ap₂ max before (ap (λ m. m + 1) next) ∙ omega (arith, greatest_step h i)

pub sizes_more : {b : List ℕ} {i s g : ℕ} {n m : Sizes} → SizesTo b i n → (s ≡ state_named b i) × (s < 65536) → (g ≡ symbol_named b i) × (g < 65536)
    → m.states ≡ max n.states (s + 1) → m.symbols ≡ max n.symbols (g + 1) → SizesTo b (i + 1) m
sizes_more {b} {i} before state symbol es eg =
    record {
      states = next_greatest (state_named b) i before.states state.0 es;
      symbols = next_greatest (symbol_named b) i before.symbols symbol.0 eg;
      few_states = rw es (max-le before.few_states (omega (arith, state.1)));
      few_symbols = rw eg (max-le before.few_symbols (omega (arith, symbol.1)));
    }

-- Of all records they are the file's.
pub sizes_all : {b : List ℕ} {n : Sizes} → SizesTo b (records_of b) n → n ≡ sizes_of b
unfolding states_of symbols_of
sizes_all {b} {n} all = rw (← all.states, ← all.symbols)

module _ (b : List ℕ) (i : ℕ) (below : i < records_of b) where
  pub state_below : state b i < states_of b
  unfolding states_of
  state_below = omega (arith, greatest_le (state_named b) (records_of b) i below)

  pub target_below : target b i < states_of b
  unfolding states_of
  target_below = omega (arith, greatest_le (state_named b) (records_of b) i below)

  pub symbol_below : symbol b i < symbols_of b
  unfolding symbols_of
  symbol_below = omega (arith, greatest_le (symbol_named b) (records_of b) i below)

  pub top_below : top b i < symbols_of b
  unfolding symbols_of
  top_below = omega (arith, greatest_le (symbol_named b) (records_of b) i below)

  pub under_below : under b i < symbols_of b
  unfolding symbols_of
  under_below = omega (arith, greatest_le (symbol_named b) (records_of b) i below)

-- Right records name states and symbols within the limits. These limits are such that rows and entries keep theirs: this is all that is known of
-- today's 8 states and 16 symbols.
sizes_within : (s g : ℕ) → 1 ≤ s → 1 ≤ g → s ≤ most_states → g ≤ most_symbols → Fits s g
sizes_within s g a b c d =
    let rows : rows_in s g ≤ most_rows = mul-le-mul c d in
    record { some_states = a; some_symbols = b; few_states = c; few_symbols = d; few_rows = rows; few_entries = mul-le-mul rows c }

pub sizes_fit : (b : List ℕ) → ((i : ℕ) → i < records_of b → RecordRight b i) → Fits (states_of b) (symbols_of b)
unfolding states_of symbols_of
sizes_fit b right =
    let states = greatest_most (state_named b) (records_of b) (most_states - 1)
    (λ i l. let r = right i l in max-le (omega (arith, r.state_range)) (omega (arith, r.target_range))) in
    let symbols = greatest_most (symbol_named b) (records_of b) (most_symbols - 1)
    (λ i l. let r = right i l in
    max-le (omega (arith, r.symbol_range)) (max-le (omega (arith, r.top_range)) (omega (arith, r.under_range)))) in
    sizes_within _ _ (omega arith) (omega arith) (omega (arith, states)) (omega (arith, symbols))

-- Sizes that fit are narrow.
pub fits_narrow : {s g : ℕ} → Fits s g → Narrow s g
fits_narrow h = record { states = omega (arith, h.few_states); symbols = omega (arith, h.few_symbols) }

-- Narrow sizes have few rows and entries.
pub narrow_rows : {s g : ℕ} → Narrow s g → rows_in s g ≤ 65536 * 65536
narrow_rows {s} {g} h = mul-le-mul {n₁ = s} {m₁ = g} {n₂ = 65536} {m₂ = 65536} (omega (arith, h.states)) (omega (arith, h.symbols))

pub narrow_entries : {s g : ℕ} → Narrow s g → entries_in s g ≤ 65536 * 65536 * 65536
narrow_entries {s} {g} h = mul-le-mul {n₁ = s * g} {m₁ = s} {n₂ = 65536 * 65536} {m₂ = 65536} (narrow_rows h) (omega (arith, h.states))

-- ---- a sum over a row

pub over_row_lem : (b : List ℕ) (p z : ℕ) (h : Rule → ℕ)
    → over_row (rules_of b) p z h ≡ sum_to (λ i. bit (fits (rule_of b i) p z) * (weight b i * h (rule_of b i))) (records_of b)
unfolding over_row rules_of rule_of
over_row_lem b p z h = list_to_sum (λ r. bit (fits r p z) * (r.weight * h r)) (rule_of b) (records_of b)
