-- The model that a counter file makes says the machine's rules, and is accepted: its records are those of the counter file with a symbol 0 between, so that they are
-- right and ascend as these do, and its rows are the states.
use Prim.Native.Nat.{ℕ, zero, suc, ◌+◌, ◌*◌, ◌≤◌, ◌<◌, ◌^◌, max}
use native.Mathlib.Omega.{arith}
use mathlib.Core.List.{List, [], ◌∷◌, ◌++◌}
use mathlib.Core.Logic.{inl, inr}
use mathlib.Core.Path.{◌≡◌, refl, sym, ap, ap₂, ◌∙◌}
use lib.ListN.{get_or}
use Rattle.walks.specs.Sums.{In, greatest_to}
use Rattle.walks.specs.Lists.{list_to}
use Rattle.walks.proofs.Sums.{greatest_cong, greatest_most}
use Rattle.walks.proofs.Lists.{in_list_to, length_list_to, map_list_to}
use Rattle.ppda.specs.Units.{weight_unit}
use Rattle.ppda.specs.Rules.{Rule, pushed, Below, over_row}
use Rattle.model.specs.Format as model
use Rattle.model.specs.Records.{records_of, field, state, symbol, target, pushes, top, under, weight, key, state_named, symbol_named, states_of, symbols_of}
use Rattle.model.specs.Rules.{rules_of}
use Rattle.model.specs.Accepted.{RecordRight, Above, RecordsRight, Ascending, ModelFile}
use Rattle.model.specs.Made.{push_record, model_record, rule_record, made_model, RuleFits}
use Rattle.model.proofs.Made.{rules_of_made, made_length, made_field, made_weight, made_more}
use Rattle.wellformed.specs.Verdict.{model_verdict}
use Rattle.wellformed.proofs.Accepted.{model_accepted}
use Rattle.onecounter.specs.Moves.{Shift, down, level, up}
use Rattle.onecounter.specs.Pushing.{push_for, rule_for, rules_for}
use Rattle.onecounter.proofs.Models.{machine_model}
use Rattle.counter.specs.Records.{moves_in, from_at, to_at, shift_at, weight_in, state_in, states_in}
use Rattle.counter.specs.Moves.{shift_of, move_of, moves_of}
use Rattle.counter.specs.Verdict.{counter_verdict}
use Rattle.counter.specs.Accepted.{MovesRight, CounterFile}
use Rattle.counter.specs.Made.{counter_model}
use Rattle.counter.specs.Clauses.{record_made}
use Rattle.counter.proofs.Accepted.{counter_accepted}
use Rattle.outcome.specs.Outcomes.{Accepted}

-- The rule of record i, and the file made of the rules of the first n records.
abbrev pub rule_made : List ℕ → ℕ → Rule
rule_made c i = rule_for (move_of c i)

pub counter_model_lem : (c : List ℕ) → counter_model c ≡ made_model (list_to (rule_made c) (moves_in c))
unfolding counter_model rules_for moves_of
counter_model_lem c = ap made_model (map_list_to rule_for (move_of c) (moves_in c))

-- d of these symbols are pushed.
push_made : (u v d k : ℕ) → d ≤ 2 → push_record u 0 v (push_for (shift_of d)) k ≡ model_record u 0 v d 0 0 k
push_made u v zero k h = refl
push_made u v (suc zero) k h = refl
push_made u v (suc (suc zero)) k h = refl
push_made u v (suc (suc (suc d))) k h = absurd (omega arith)

pub record_made_lem : (c : List ℕ) (i : ℕ) → shift_at c i ≤ 2 → rule_record (rule_made c i) ≡ record_made c i
unfolding move_of
record_made_lem c i h = push_made (from_at c i) (to_at c i) (shift_at c i) (weight_in c i) h

-- One record more, as a loop makes the file.
pub made_turn : (c : List ℕ) (n : ℕ) → shift_at c n ≤ 2 → made_model (list_to (rule_made c) n) ++ record_made c n ≡ made_model (list_to (rule_made c) (n + 1))
made_turn c n h = ap (λ r. made_model (list_to (rule_made c) n) ++ r) (sym (record_made_lem c n h)) ∙ sym (made_more (rule_made c) n)

module _ (c : List ℕ) (right : MovesRight c) where
  abbrev b : List ℕ
  b = made_model (list_to (rule_made c) (moves_in c))

  weights_fit : (i : ℕ) → i < moves_in c → (rule_made c i).weight < 2 ^ 32
  unfolding move_of
  weights_fit i l = omega (arith, (right.right i l).weight_most)

  -- ---- its records

  records_made : records_of b ≡ moves_in c
  unfolding records_of
  records_made = rw (made_length (list_to (rule_made c) (moves_in c)), length_list_to (rule_made c) (moves_in c)) (omega arith)

  module _ (i : ℕ) (l : i < moves_in c) where
    byte : (k : ℕ) → k < 10 → field b i k ≡ get_or (record_made c i) k 0
    byte k h = made_field (rule_made c) (moves_in c) i k l h ∙ ap (λ r. get_or r k 0) (record_made_lem c i (right.right i l).shift_range)

    state_made : state b i ≡ from_at c i
    state_made = byte 0 (omega arith)

    symbol_made : symbol b i ≡ 0
    symbol_made = byte 1 (omega arith)

    target_made : target b i ≡ to_at c i
    target_made = byte 2 (omega arith)

    pushes_made : pushes b i ≡ shift_at c i
    pushes_made = byte 3 (omega arith)

    top_made : top b i ≡ 0
    top_made = byte 4 (omega arith)

    under_made : under b i ≡ 0
    under_made = byte 5 (omega arith)

    weight_made : weight b i ≡ weight_in c i
    unfolding move_of
    weight_made = made_weight (rule_made c) (moves_in c) i l weights_fit

    key_made : key b i ≡ from_at c i ∷ 0 ∷ to_at c i ∷ shift_at c i ∷ 0 ∷ 0 ∷ []
    key_made = rw (state_made, symbol_made, target_made, pushes_made, top_made, under_made)

    record_right : RecordRight b i
    record_right =
        let move = right.right i l in
        record {
          state_range = rw state_made move.from_range;
          symbol_range = rw symbol_made (omega arith);
          target_range = rw target_made move.to_range;
          pushes_range = rw pushes_made move.shift_range;
          top_range = rw top_made (omega arith);
          under_range = rw under_made (omega arith);
          top_unused = λ e. top_made;
          under_unused = λ n. under_made;
          weight_some = rw weight_made move.weight_some;
          weight_most = rw weight_made move.weight_most;
        }

  records_right : RecordsRight b
  records_right =
      record {
        some = rw records_made right.some;
        most = rw records_made (omega (arith, right.most));
        whole = made_length (list_to (rule_made c) (moves_in c)) ∙ ap (λ n. model.record_bytes * n) (length_list_to (rule_made c) (moves_in c) ∙ sym records_made);
        right = λ i l. record_right i (rw records_made at l);
      }

  -- A symbol 0 between two numbers, and two behind them, leave the order as it is.
  still_above : (u v d u' v' d' : ℕ) → Above (u ∷ v ∷ d ∷ []) (u' ∷ v' ∷ d' ∷ []) → Above (u ∷ 0 ∷ v ∷ d ∷ 0 ∷ 0 ∷ []) (u' ∷ 0 ∷ v' ∷ d' ∷ 0 ∷ 0 ∷ [])
  still_above u v d u' v' d' (inl h) = inl h
  still_above u v d u' v' d' (inr (e, inl h)) = inr (e, inr (refl, inl h))
  still_above u v d u' v' d' (inr (e, inr (f, inl h))) = inr (e, inr (refl, inr (f, inl h)))
  still_above u v d u' v' d' (inr (e, inr (f, inr (g, h)))) = absurd h

  above_same : {x x' y y' : List ℕ} → x ≡ x' → y ≡ y' → Above x' y' → Above x y
  above_same e f h = rw (e, f) h

  ascending : Ascending b
  ascending i l =
      let last : suc i < moves_in c = rw records_made at l in
      above_same (key_made (suc i) last) (key_made i (omega arith)) (still_above _ _ _ _ _ _ (right.ascending i last))

  -- ---- its sizes and its rules

  states_of_lem : states_of b ≡ states_in c
  unfolding states_of states_in
  states_of_lem =
      ap suc (ap (greatest_to (state_named b)) records_made
      ∙ greatest_cong (state_named b) (state_in c) (moves_in c) (λ i l. ap₂ max (state_made i l) (target_made i l)))

  symbols_of_lem : symbols_of b ≡ 1
  unfolding symbols_of
  symbols_of_lem =
      ap suc (omega (
        arith,
        greatest_most (symbol_named b) (records_of b) 0 (λ i l.
            let m : i < moves_in c = rw records_made at l in
            rw (symbol_made i m, top_made i m, under_made i m) (omega arith)),
      ))

  rule_fits : (r : Rule) → In r (list_to (rule_made c) (moves_in c)) → RuleFits r
  unfolding move_of
  rule_fits r h =
      let (i, l, e) = in_list_to (rule_made c) (moves_in c) r h in
      let move = right.right i l in
      rw e (record {
        state = omega (arith, move.from_range);
        symbol = omega arith;
        target = omega (arith, move.to_range);
        push = zeros_fit (shift_of (shift_at c i));
        weight = omega (arith, move.weight_most);
      })
    where
      zeros_fit : (d : Shift) → Below 256 (pushed (push_for d))
      zeros_fit down = tt
      zeros_fit level = (omega arith, tt)
      zeros_fit up = (omega arith, (omega arith, tt))

  rules_said_lem : rules_of b ≡ rules_for (moves_of c)
  unfolding rules_for moves_of
  rules_said_lem = (rules_of_made (list_to (rule_made c) (moves_in c)) rule_fits).1 ∙ sym (map_list_to rule_for (move_of c) (moves_in c))

-- ---- of an accepted counter file

module _ (c : List ℕ) (file : CounterFile c) where
  -- The model says the rules of the machine, has its states, and one symbol.
  pub made_rules : rules_of (counter_model c) ≡ rules_for (moves_of c)
  made_rules = ap rules_of (counter_model_lem c) ∙ rules_said_lem c file.records

  pub made_states : states_of (counter_model c) ≡ states_in c
  made_states = ap states_of (counter_model_lem c) ∙ states_of_lem c file.records

  pub made_symbols : symbols_of (counter_model c) ≡ 1
  made_symbols = ap symbols_of (counter_model_lem c) ∙ symbols_of_lem c file.records

  made_row : (p z : ℕ) → p < states_of (counter_model c) → z < symbols_of (counter_model c) → over_row (rules_of (counter_model c)) p z (λ r. 1) ≡ weight_unit
  made_row p z hp hz =
      ap (λ m. over_row m p z (λ r. 1)) made_rules
      ∙ (machine_model file.machine).row p z (rw made_states at hp) (rw made_symbols at hz)

  -- It is a model file: after the tests of the counter file nothing can fail.
  pub made_right : ModelFile (counter_model c)
  made_right =
      record {
        records = rw (counter_model_lem c) (records_right c file.records);
        ascending = rw (counter_model_lem c) (ascending c file.records);
        row = made_row;
      }

pub made_accepted : (c : List ℕ) → counter_verdict c ≡ Accepted → model_verdict (counter_model c) ≡ Accepted
made_accepted c e = (model_accepted (counter_model c)).1 (made_right c ((counter_accepted c).0 e))
