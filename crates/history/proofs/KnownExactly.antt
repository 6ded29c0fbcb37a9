-- What the mission comes to for marks: where a delivery is held, another is known exactly where its bytes are the same.
use Prim.Native.Nat.{ℕ}
use mathlib.Core.List.{List}
use mathlib.Core.Logic.{◌↔◌}
use mathlib.Core.Option.{some}
use mathlib.Core.Path.{◌≡◌, ap, subst, ◌∙◌}
use Rattle.words.specs.Words.{Bytes}
use Rattle.calls.specs.Calls.{Call, file_delivery, known}
use Rattle.history.specs.Run.{reply_to}
use Rattle.history.specs.Mission.{HoldsDelivery}
use Rattle.history.proofs.Mission.{mission}

pub known_exactly : (cs : List Call) (d e : List ℕ) → HoldsDelivery cs e → Bytes e → Bytes d → (reply_to cs (file_delivery d) ≡ known) ↔ (e ≡ d)
known_exactly cs d e holds bytes bytes' = (
  λ is.
      let (former, held, same) = (mission cs).known_held d is in
      let here : former ≡ e = cc in
      subst (λ x. Bytes x → Bytes d → x ≡ d) here same bytes bytes',
  λ same. (mission cs).held_known d (holds ∙ ap some same),
)
