-- Where a register has the numbers that it shows (request A.6): a question that is answered reads its list at the entry's place.
use Prim.Native.Nat.{ℕ, ◌≤◌}
use native.Mathlib.Omega.{arith}
use mathlib.Core.Bool.{Bool, true, false, cond}
use mathlib.Core.List.{List}
use mathlib.Core.Option.{some}
use mathlib.Core.Path.{◌≡◌, refl, ap, ap₂, ◌∙◌}
use lib.ListN.{get_or}
use Rattle.walks.specs.Order.{entries_in, exit_place}
use Rattle.walks.proofs.Exits.{file_ordered, exit_ordered}
use Rattle.ppda.specs.Equations.{Vector, entries, rows}
use Rattle.model.specs.Format.{most_entries}
use Rattle.model.specs.Records.{states_of, symbols_of}
use Rattle.delivery.specs.Numbers.{uppers_of, lowers_of}
use Rattle.held.specs.Held.{holds_model, is_held, lowers_stand, means_stand, numbers_held}
use Rattle.held.specs.Places.{has_row, has_entry, entries_by_exit, row_value, entry_value, exit_value}
use Rattle.held.proofs.Listed.{listed_at}
use Rattle.calls.specs.Calls.{Call, value}
use Rattle.calls.specs.Answers.{answered, answer_reply}
use Rattle.register.specs.declared.Register.{Register}
use Rattle.register.specs.Filing.{shape_for}
use Rattle.register.specs.Questions.{upper_in, lower_in, mean_in, live_in}
use Rattle.history.specs.Plain.{last_delivery}
use Rattle.history.specs.Run.{reply_of, register_after, history, holding, register_of}
use Rattle.history.specs.Mission.{Holds, HoldsDelivery}
use Rattle.history.specs.FileOrder.{upper_by_file, lower_by_file, reply_by_file}
use Rattle.history.specs.ByExit.{HeldByExit, DeliveryByExit, DeliveriesByExit, HeldByFile, SameNumbers}
use Rattle.history.proofs.Pairs.{few_entries, model_held_right}
use Rattle.history.proofs.Plain.{holds_pair, right_pair}

-- A number is answered only where the model has the place, and then it is the one that stands there.
placed : (m d i k : Bool) (v : ℕ) {n : ℕ} → answer_reply (answered m d i k (cond i v 0)) ≡ value n → v ≡ n
placed false d i k v e = let z : ◌≡◌ {A = ℕ} 0 1 = cc in absurd (omega arith)
placed true false i k v e = let z : ◌≡◌ {A = ℕ} 0 1 = cc in absurd (omega arith)
placed true true false k v e = let z : ◌≡◌ {A = ℕ} 0 1 = cc in absurd (omega arith)
placed true true true false v e = let z : ◌≡◌ {A = ℕ} 0 1 = cc in absurd (omega arith)
placed true true true true v e = cc

module _ (r : Register) where
  -- Whether a model and a delivery are held, and the sizes.
  abbrev model : Bool
  model = holds_model r.model.length

  abbrev delivery : Bool
  delivery = is_held r.delivery

  abbrev s : ℕ
  s = r.model.states

  abbrev g : ℕ
  g = r.model.symbols

  pub held_by_exit : HeldByExit r
  unfolding reply_of upper_in lower_in mean_in live_in exit_value row_value entry_value
  held_by_exit = record {
    uppers = λ p z q n. placed model delivery (has_entry s g p z q) true (entries_by_exit s g r.numbers.uppers p z q);
    lowers = λ p z q n. placed model delivery (has_entry s g p z q) (lowers_stand r.delivery) (entries_by_exit s g r.numbers.lowers p z q);
    means = λ p z n. placed model delivery (has_row s g p z) (means_stand r.delivery) (rows g r.numbers.means p z);
    marks = λ p z q n. placed model true (has_entry s g p z q) true (entries s g r.model.live p z q);
    lists = refl;
  }

  pub held_by_file : HeldByFile r
  unfolding reply_by_file upper_by_file lower_by_file entry_value
  held_by_file = record {
    uppers = λ p z q n. placed model delivery (has_entry s g p z q) true (entries s g r.numbers.uppers p z q);
    lowers = λ p z q n. placed model delivery (has_entry s g p z q) (lowers_stand r.delivery) (entries s g r.numbers.lowers p z q);
  }

-- After any list of calls the register holds the pair of files, and so the delivery's numbers at their places.
module _ (cs : List Call) (b d : List ℕ) (model_held_lem : Holds cs b) (delivery_held : HoldsDelivery cs d) where
  held_pair : register_after cs ≡ holding (some b) (some d)
  unfolding register_of
  held_pair = holds_pair cs ∙ ap₂ holding model_held_lem delivery_held

  few : entries_in (states_of b) (symbols_of b) ≤ most_entries
  few = few_entries b (model_held_right (last_delivery (history cs)) (right_pair cs) model_held_lem)

  pub delivery_by_exit : DeliveryByExit cs b d
  unfolding numbers_held shape_for
  delivery_by_exit = record {
    uppers = λ p z q hp hz hq.
        ap (λ r. get_or r.numbers.uppers (exit_place (states_of b) (symbols_of b) p z q) 0) held_pair
        ∙ listed_at (exit_ordered (states_of b) (symbols_of b)) (uppers_of (states_of b) (symbols_of b) d) p z q hp hz hq few;
    lowers = λ h shape has p z q hp hz hq.
        ap (λ r. get_or r.numbers.lowers (exit_place (states_of b) (symbols_of b) p z q) 0) held_pair
        ∙ rw (shape, has) (listed_at (exit_ordered (states_of b) (symbols_of b)) (lowers_of (states_of b) (symbols_of b) d) p z q hp hz hq few);
  }

pub deliveries_by_exit : (cs : List Call) → DeliveriesByExit cs
deliveries_by_exit cs b d = delivery_by_exit cs b d

pub same_numbers : (s g : ℕ) (v : Vector) → SameNumbers s g v
same_numbers s g v few p z q hp hz hq =
    (listed_at (exit_ordered s g) v p z q hp hz hq few, listed_at (file_ordered s g) v p z q hp hz hq few)
