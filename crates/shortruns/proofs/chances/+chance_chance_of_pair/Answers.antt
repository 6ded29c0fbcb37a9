-- `chance` and `chance_of_pair`: the sum so far is that over the row's records passed, each by what it pushes, and that over the pair's terms passed, each by the steps of the first
-- symbol and the state between. The measures are the steps left, doubled, and one more for a single symbol, since it is worked from a pair with one step fewer, and the pair from single
-- symbols with fewer still.
use Prim.Native.Nat.{ℕ, ◌+◌, ◌-◌, ◌*◌, ◌/◌, ◌%◌, ◌^◌, ◌≤◌, ◌<◌}
use native.Mathlib.Nat.{le_trans, le_of_lt, zero-add, mul-le-mul}
use native.Mathlib.Omega.{arith}
use mathlib.Core.List.{[], ◌∷◌}
use mathlib.Core.Path.{◌≡◌, sym, ap, ap₂, ◌∙◌}
use lib.Dec.{eqb}
use Rattle.walks.specs.Sums.{bit}
use Rattle.walks.specs.Order.{row_at}
use Rattle.ppda.proofs.Pairs.{exactly, exactly_is_difference}
use Rattle.model.specs.Records.{target, top}
use Rattle.model.specs.Rules.{push_at, rules_of}
use Rattle.model.proofs.Records.{fits_narrow}
use Rattle.model.proofs.Accepted.{sized_fits, record_names}
use Rattle.rows.proofs.Sums.{StateSum, row_begin, row_record, row_more, row_skip, row_end, states_more, states_end}
use Rattle.shortruns.proofs.Laws.{after_push, power_most, stack_most, no_steps, one_by_records, at_row, row_limit, pushes_too_many, pushes_pair, pushes_single, pushes_none, pair_terms, pair_begin, pair_split, pair_end, pair_limit}
use Rattle.shortruns.proofs.chances.+chance_chance_of_pair.Goals as goal
use Rattle.shortruns.proofs.chances.+chance_chance_of_pair.Goals.{chance-After-weight, chance-in-0, chance-in-1, chance-in_default, chance_of_pair-After-chance-before, chance_of_pair-After-chance}

pub chance-returns-then-steps-eq0 : goal.chance-returns-then-steps-eq0
chance-returns-then-steps-eq0 t c = let start = c in
    rw c.if-steps-eq0.true (no_steps _ _ _ _, omega arith)

pub chance-loop-i-init : goal.chance-loop-i-init
chance-loop-i-init t c =
    rw (c.from-start.ensures, c.from-end.ensures) (row_begin _ _ _ c.args.starts.now c.requires.files.sized c.requires.files.starts_at c.requires.inside.1)

pub chance-loop-i-preserved-then-left-pushed : goal.chance-loop-i-preserved-then-left-pushed
chance-loop-i-preserved-then-left-pushed t c =
    let inside = row_record c.loop-i.invariant c.loop-i-test.true in
    row_skip c.loop-i.invariant c.loop-i-test.true
    (pushes_too_many _ _ _ _ (c.requires.files.sized.file.records.right _ inside).pushes_range (rw c.pushes-pushed.ensures.0 at c.if-left-pushed.true))

pub chance-row-requires : goal.chance-row-requires
chance-row-requires t c = let sized = c.requires.files.sized in
    let names = record_names sized (row_record c.loop-i.invariant c.loop-i-test.true) in
    (fits_narrow (sized_fits sized), omega (arith, names.0, c.target-r.ensures.0), omega (arith, names.1, c.top.ensures.0))

-- What follows the record has the chance of what it pushes.
after_record : (t : ℕ) (c : chance-After-weight t)
    → c.match-pushed.after ≡ after_push c.args.model.now (c.args.steps - 1) c.args.q (target c.args.model.now c.loop-i.i) (push_at c.args.model.now c.loop-i.i)
after_record t c =
    let sized = c.requires.files.sized in
    let inside = row_record c.loop-i.invariant c.loop-i-test.true in
    elim c.match-pushed.branch [
      | chance-in-0 w ↦
          w.after-is ∙ w.returned-after.ensures ∙ ap₂ (λ k r. k * bit (eqb r c.args.q)) c.certain-whole.ensures c.target-r.ensures.0
          ∙ sym (pushes_none _ _ _ _ (sym c.pushes-pushed.ensures.0 ∙ w.in-0.is))
      | chance-in-1 w ↦
          w.after-is ∙ w.chance-after.ensures.0
          ∙ at_row _ _ _ _ _ _ (record_names sized inside).1 (w.row.ensures.0 ∙ ap₂ (row_at c.args.n.symbols) c.target-r.ensures.0 w.top.ensures.0)
          ∙ sym (pushes_single _ _ _ _ (sym c.pushes-pushed.ensures.0 ∙ w.in-1.is))
      | chance-in_default w ↦
          w.after-is ∙ w.chance_of_pair-after.ensures.0
          ∙ sym (pushes_pair _ _ _ _ (omega (arith, c.pushes-pushed.ensures.0, (sized.file.records.right _ inside).pushes_range)))
    ]

-- The sum with the record's product is far from the end of 64 bits.
sum_most : (t : ℕ) (c : chance-After-weight t) → c.loop-i.sum + c.weight.result * c.match-pushed.after ≤ 2 ^ 48
sum_most t c = row_limit _ _ (row_more c.loop-i.invariant c.loop-i-test.true c.weight.ensures.0 (after_record t c)) (omega arith)

pub chance-overflow_mul-sum : goal.chance-overflow_mul-sum
chance-overflow_mul-sum t c = omega (arith, sum_most t (goal.at.chance-overflow_mul-sum t c).After-weight)

pub chance-overflow_add-sum : goal.chance-overflow_add-sum
chance-overflow_add-sum t c = omega (arith, sum_most t (goal.at.chance-overflow_add-sum t c).After-weight)

pub chance-loop-i-preserved : goal.chance-loop-i-preserved
chance-loop-i-preserved t c =
    row_more c.loop-i.invariant c.loop-i-test.true c.weight.ensures.0 (after_record t (goal.at.chance-loop-i-preserved t c).After-weight)

pub chance-returns : goal.chance-returns
chance-returns t c = let start = c in
    let is = row_end c.loop-i.invariant c.loop-i-test.false ∙ zero-add _ ∙ sym (one_by_records start.args.model.now start.args.steps _ _ _ _ (omega arith)) in
    (is, rw is (stack_most start.requires.files.sized _ _ _ _))

pub chance_of_pair-row-first-requires : goal.chance_of_pair-row-first-requires
chance_of_pair-row-first-requires t c = let names = record_names c.requires.files.sized c.requires.inside.2 in
    (fits_narrow (sized_fits c.requires.files.sized), omega (arith, names.0, c.target.ensures.0), omega (arith, names.1, c.top.ensures.0))

pub chance_of_pair-overflow_mul-k-end : goal.chance_of_pair-overflow_mul-k-end
chance_of_pair-overflow_mul-k-end t c = omega (arith, mul-le-mul (sized_fits c.requires.files.sized).few_states c.requires.inside.1)

pub chance_of_pair-loop-k-init : goal.chance_of_pair-loop-k-init
chance_of_pair-loop-k-init t c = pair_begin _ _ _ _ _ c.requires.inside.0

-- Term k is for k / s steps of the first symbol, whose chance with the last of them alone is the difference, and the state k % s.
of_first : (t : ℕ) (c : chance_of_pair-After-chance-before t) → let s = c.args.n.states in let k = c.loop-k.k in
    (k / s < c.args.steps) × (k % s < s) × (65536 * c.chance-before.result ≤ c.chance-within.result)
    × (c.chance-within.result - 65536 * c.chance-before.result ≡ exactly (rules_of c.args.model.now) (k / s) (target c.args.model.now c.args.i) (top c.args.model.now c.args.i ∷ []) (k % s))
of_first t c =
    let sized = c.requires.files.sized in
    let names = record_names sized c.requires.inside.2 in
    let parted = pair_split c.args.n.states c.args.steps c.loop-k.k (sized_fits sized).some_states c.loop-k.auto.k c.loop-k-test.true in
    let first = c.row-first.ensures.0 ∙ ap₂ (row_at c.args.n.symbols) c.target.ensures.0 c.top.ensures.0 in
    let apart = exactly_is_difference _ _ _ _ _ parted.0 (c.chance-within.ensures.0 ∙ at_row _ _ _ _ _ _ names.1 first) (c.chance-before.ensures.0 ∙ at_row _ _ _ _ _ _ names.1 first) in
    (parted.1, parted.2, apart.0, apart.1)

pub chance_of_pair-overflow_mul-sum : goal.chance_of_pair-overflow_mul-sum
chance_of_pair-overflow_mul-sum t c =
    let first = of_first t (goal.at.chance_of_pair-overflow_mul-sum t c).After-chance-before in
    omega (arith, first.2, c.chance-within.ensures.1, power_most _ (le_trans (le_of_lt first.0) c.requires.inside.1))

pub chance_of_pair-overflow_sub-sum : goal.chance_of_pair-overflow_sub-sum
chance_of_pair-overflow_sub-sum t c =
    let first = of_first t (goal.at.chance_of_pair-overflow_sub-sum t c).After-chance-before in omega (arith, first.2)

pub chance_of_pair-row-requires : goal.chance_of_pair-row-requires
chance_of_pair-row-requires t c =
    let first = of_first t (goal.at.chance_of_pair-row-requires t c).After-chance-before in
    let sized = c.requires.files.sized in
    let names = record_names sized c.requires.inside.2 in
    (fits_narrow (sized_fits sized), omega (arith, first.1), omega (arith, names.2, c.under-x.ensures.0))

-- One term more.
one_term : (t : ℕ) (c : chance_of_pair-After-chance t) → StateSum (pair_terms c.args.model.now c.args.n.states c.args.steps c.args.i c.args.q)
    (c.args.n.states * c.args.steps) (c.loop-k.k + 1) (c.loop-k.sum + (c.chance-within.result - 65536 * c.chance-before.result) * c.chance.result)
one_term t c =
    let first = of_first t (goal.at.chance_of_pair-loop-k-preserved t c).After-chance-before in
    let names = record_names c.requires.files.sized c.requires.inside.2 in
    states_more c.loop-k.invariant c.loop-k-test.true
    (ap₂ ◌*◌ first.3 (c.chance.ensures.0 ∙ at_row _ _ _ _ _ _ names.2 (c.row.ensures.0 ∙ ap (row_at _ _) c.under-x.ensures.0)))

-- The sum with the term is far from the end of 64 bits.
terms_most : (t : ℕ) (c : chance_of_pair-After-chance t)
    → c.loop-k.sum + (c.chance-within.result - 65536 * c.chance-before.result) * c.chance.result ≤ 2 ^ 48
terms_most t c = pair_limit c.requires.files.sized _ _ c.requires.inside.2 (one_term t c) c.requires.inside.1

pub chance_of_pair-overflow_mul-sum-in-loop-k : goal.chance_of_pair-overflow_mul-sum-in-loop-k
chance_of_pair-overflow_mul-sum-in-loop-k t c = omega (arith, terms_most t c)

pub chance_of_pair-overflow_add-sum : goal.chance_of_pair-overflow_add-sum
chance_of_pair-overflow_add-sum t c = omega (arith, terms_most t c)

pub chance_of_pair-loop-k-preserved : goal.chance_of_pair-loop-k-preserved
chance_of_pair-loop-k-preserved t c = one_term t c

pub chance_of_pair-returns : goal.chance_of_pair-returns
chance_of_pair-returns t c =
    let is = states_end c.loop-k.invariant c.loop-k-test.false ∙ pair_end c.requires.files.sized _ _ c.requires.inside.2 in
    (is, rw is (stack_most c.requires.files.sized _ _ _ _))
