-- A model file is a model of crate ppda, and what an accepted one with its sizes gives.
use Prim.Native.Nat.{ℕ, zero, suc, ◌<◌}
use native.Mathlib.Omega.{arith}
use mathlib.Core.List.{List}
use Rattle.walks.proofs.Lists.{in_list_to}
use Rattle.ppda.specs.Rules.{pushed, Below, IsRule, IsModel}
use Rattle.model.specs.Records.{records_of, states_of, symbols_of, state, symbol, target, pushes, top, under}
use Rattle.model.specs.Clauses.{HasRecord, Sized, Fits}
use Rattle.model.specs.Rules.{push_of, rule_of, rules_of}
use Rattle.model.specs.Accepted.{ModelFile}
use Rattle.model.proofs.Records.{sizes_fit, state_below, target_below, symbol_below, top_below, under_below}

-- ---- a model file is a model

push_below : (g l y x : ℕ) → y < g → x < g → Below g (pushed (push_of l y x))
push_below g zero y x hy hx = tt
push_below g (suc zero) y x hy hx = (hy, tt)
push_below g (suc (suc l)) y x hy hx = (hy, (hx, tt))

rule_right : (b : List ℕ) → ModelFile b → (i : ℕ) → i < records_of b → IsRule (states_of b) (symbols_of b) (rule_of b i)
unfolding rule_of
rule_right b m i l =
    record {
      state = state_below b i l;
      symbol = symbol_below b i l;
      target = target_below b i l;
      push = push_below (symbols_of b) (pushes b i) (top b i) (under b i) (top_below b i l) (under_below b i l);
      weight = (m.records.right i l).weight_some;
    }

pub is_model_lem : (b : List ℕ) → ModelFile b → IsModel (states_of b) (symbols_of b) (rules_of b)
unfolding rules_of
is_model_lem b m =
    record {
      rule = λ r h. let (i, l, e) = in_list_to (rule_of b) (records_of b) r h in rw e (rule_right b m i l);
      row = m.row;
    }

-- ---- an accepted model with its sizes

module _ {b : List ℕ} {s g : ℕ} (sized : Sized b s g) where
  -- Its sizes fit.
  pub sized_fits : Fits s g
  sized_fits = rw (sized.states, sized.symbols) (sizes_fit b sized.file.records.right)

  pub has_record : {i : ℕ} → i < records_of b → HasRecord b i
  has_record l = omega (arith, sized.file.records.whole)

  -- Record i is for a row of the model, and names states and symbols of it.
  pub record_row : {i : ℕ} → i < records_of b → (state b i < s) × (symbol b i < g)
  record_row {i} l = rw (sized.states, sized.symbols) (state_below b i l, symbol_below b i l)

  pub record_names : {i : ℕ} → i < records_of b → (target b i < s) × (top b i < g) × (under b i < g)
  record_names {i} l = rw (sized.states, sized.symbols) (target_below b i l, top_below b i l, under_below b i l)

  -- The theory's model.
  pub sized_model : IsModel s g (rules_of b)
  sized_model = rw (sized.states, sized.symbols) (is_model_lem b sized.file)
