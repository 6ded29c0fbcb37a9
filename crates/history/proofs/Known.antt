-- After any list of calls a delivery that is marked known is the file that is held, and the file that is held is known.
use Prim.Native.Nat.{ℕ}
use native.Mathlib.Omega.{arith}
use mathlib.Core.Bool.{Bool, true, false, cond}
use mathlib.Core.List.{List}
use mathlib.Core.Option.{Option, none, some}
use mathlib.Core.Path.{◌≡◌, refl, sym, ◌∙◌}
use Rattle.verdict.specs.Verdict.{verdict}
use Rattle.verdict.proofs.Accepted.{delivery_accepted}
use Rattle.calls.specs.Calls.{Call, file_delivery, known, new}
use Rattle.history.specs.Plain.{last_model, last_delivery, of_model, by_verdict, same_delivery, mark_of, plain_reply}
use Rattle.history.specs.Run.{history}
use Rattle.history.specs.Mission.{KnownHeld, HeldKnown}
use Rattle.history.proofs.Same.{itself_same, same_bytes}
use Rattle.history.proofs.Pairs.{Right}
use Rattle.history.proofs.Plain.{right_pair, held_right, as_plain_pair}
use Rattle.outcome.specs.Outcomes.{Outcome, Accepted, Refused}
use Rattle.std.specs.Prelude.{Err, Ok}

-- Known and new are two words.
pub known_if : (t : Bool) → cond t known new ≡ known → t ≡ true
known_if true e = refl
known_if false e = let z : ◌≡◌ {A = ℕ} 0 1 = cc in absurd (omega arith)

-- A known delivery is the same as the one that is held beside the held model.
record KnownBy (m y : Option (List ℕ)) (d : List ℕ) : Type 0 where
  model : List ℕ
  former : List ℕ
  held_model : m ≡ some model
  held_delivery : y ≡ some former
  same : same_delivery model former d ≡ true

known_by : (m y : Option (List ℕ)) (d : List ℕ) → of_model m (λ b. by_verdict (verdict b d) (mark_of b y d)) ≡ known → KnownBy m y d
known_by none y d e = let z : ◌≡◌ {A = ℕ} 0 1 = cc in absurd (omega arith)
known_by (some b) y d e = go (verdict b d) y e
  where
    go : (o : Outcome) (y : Option (List ℕ)) → by_verdict o (mark_of b y d) ≡ known → KnownBy (some b) y d
    go (Err why) y e = let z : ◌≡◌ {A = ℕ} 0 1 = cc in absurd (omega arith)
    go (Ok u) none e = let z : ◌≡◌ {A = ℕ} 0 1 = cc in absurd (omega arith)
    go (Ok u) (some former) e =
        record { model = b; former = former; held_model = refl; held_delivery = refl; same = known_if (same_delivery b former d) e }

pub known_held : (cs : List Call) → KnownHeld cs
unfolding plain_reply
known_held cs d e =
    let by = known_by (last_model (history cs)) (last_delivery (history cs)) d (sym (as_plain_pair cs (file_delivery d)) ∙ e) in
    let right = held_right _ _ by.model by.former (right_pair cs) by.held_model by.held_delivery in
    (by.former, by.held_delivery, λ bytes bytes'. (same_bytes _ _ d right bytes bytes').0 by.same)

-- The file that is held is accepted again, and is the same as itself.
held_by : (m y : Option (List ℕ)) (d : List ℕ) → Right m y → y ≡ some d → of_model m (λ b. by_verdict (verdict b d) (mark_of b y d)) ≡ known
held_by none y d right e = let z : ◌≡◌ {A = ℕ} 0 1 = cc in absurd (omega arith)
held_by (some b) y d right e =
    let is = held_right (some b) y b d right refl e in
    rw (e, is, itself_same b d ((delivery_accepted b d).0 is).delivery.shape)

pub held_known : (cs : List Call) → HeldKnown cs
unfolding plain_reply
held_known cs d e = as_plain_pair cs (file_delivery d) ∙ held_by (last_model (history cs)) (last_delivery (history cs)) d (right_pair cs) e
