-- A refused call changes nothing, whatever the register holds.
use Prim.Native.Nat.{ℕ}
use native.Mathlib.Omega.{arith}
use mathlib.Core.Bool.{true}
use mathlib.Core.Path.{◌≡◌, refl}
use lib.IntN.{ℤ}
use Rattle.register.specs.declared.Register.{Register}
use Rattle.calls.specs.declared.Mark.{Mark}
use Rattle.calls.specs.declared.Mark.TheVariants.{Known, New}
use Rattle.register.specs.Filing as Filing
use Rattle.register.specs.Merging.{merge_delivery}
use Rattle.register.proofs.Keeps.{model_keeps, delivery_keeps, merge_keeps}
use Rattle.counter.specs.Filing as Counter
use Rattle.counter.proofs.Filing.{counter_keeps}
use Rattle.calls.specs.Calls.{Call, clear, file_model, file_counter, file_delivery, merge, upper, lower, mean_steps, margin, live, within, refused}
use Rattle.calls.specs.Answers.{Receipt, model_reply, mark_reply, delivery_reply}
use Rattle.history.specs.Run.{after_call, reply_of}
use Rattle.history.specs.Mission.{RefusedKeeps}
use Rattle.outcome.specs.Outcomes.{Outcome, Accepted, Refused, is_refused}
use Rattle.std.specs.Prelude.{Err, Ok}

-- A mark is no refusal.
mark_not_refused : (m : Mark) {n i : ℕ} {k : ℤ} → mark_reply m ≡ refused n i k → ⊥
mark_not_refused Known e = cc
mark_not_refused New e = cc

-- A reply that refuses is that of a refused outcome.
model_refused : (o : Outcome) {n i : ℕ} {k : ℤ} → model_reply o ≡ refused n i k → is_refused o ≡ true
model_refused (Ok u) e = let z : ◌≡◌ {A = ℕ} 0 1 = cc in absurd (omega arith)
model_refused (Err why) e = refl

delivery_refused : (x : Receipt) {n i : ℕ} {k : ℤ} → delivery_reply x ≡ refused n i k → is_refused x ≡ true
delivery_refused (Ok m) e = absurd (mark_not_refused m e)
delivery_refused (Err why) e = refl

pub refused_keeps : (r : Register) (c : Call) → RefusedKeeps r c
unfolding after_call reply_of
refused_keeps r clear n i k e = let z : ◌≡◌ {A = ℕ} 0 1 = cc in absurd (omega arith)
refused_keeps r (file_model b) n i k e = model_keeps r b (model_refused (Filing.file_model r b).outcome e)
refused_keeps r (file_counter c) n i k e = counter_keeps r c (model_refused (Counter.file_counter r c).outcome e)
refused_keeps r (file_delivery d) n i k e = delivery_keeps r d (delivery_refused (Filing.file_delivery r d).receipt e)
refused_keeps r (merge d) n i k e = merge_keeps r d (delivery_refused (merge_delivery r d).receipt e)
refused_keeps r (upper p z q) n i k e = refl
refused_keeps r (lower p z q) n i k e = refl
refused_keeps r (mean_steps p z) n i k e = refl
refused_keeps r margin n i k e = refl
refused_keeps r (live p z q) n i k e = refl
refused_keeps r (within m p z q) n i k e = refl
