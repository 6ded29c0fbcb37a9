-- Whether a file is read goes by the plain pair: that of a model, and of a counter machine, where the pair has no model, a delivery's where it has one, a merge's
-- where it has both. The bytes of a file that is not read change nothing that is printed.
use Prim.Native.Nat.{ℕ}
use mathlib.Core.Bool.{true, false}
use mathlib.Core.List.{List}
use mathlib.Core.Option.{Option, none, some, Option-elim}
use mathlib.Core.Path.{◌≡◌, refl, sym, ap, ap₂, ◌∙◌}
use Rattle.calls.specs.Calls.{Call}
use Rattle.held.specs.Held.{no_model, holds_model}
use Rattle.register.specs.Filing.{cleared, with_model}
use Rattle.register.specs.Merging.{has_delivery}
use Rattle.register.specs.Questions.{has_model}
use Rattle.history.specs.Plain.{last_model, last_delivery}
use Rattle.history.specs.Run.{register_after, history, holding, register_of}
use Rattle.history.proofs.Pairs.{Right, model_held_lem}
use Rattle.history.proofs.Plain.{holds_pair, right_pair}
use Rattle.said.specs.declared.Said.{Said}
use Rattle.script.specs.Script.{asked_by, reads_file, text_by}
use Rattle.script.proofs.Printing.{reply_by_lem}
use Rattle.script.proofs.Responses.{unread_text}

held_by : (m y : Option (List ℕ)) → Right m y → has_model (holding m y) ≡ Option-elim m false (λ b. true)
unfolding has_model holds_model cleared no_model Option-elim
held_by none y right = refl
held_by (some b) y right = model_held_lem b y right

-- A register holds a model after any calls exactly where the plain pair does.
pub model_held_after : (cs : List Call) → has_model (register_after cs) ≡ Option-elim (last_model (history cs)) false (λ b. true)
unfolding register_of
model_held_after cs = ap has_model (holds_pair cs) ∙ held_by (last_model (history cs)) (last_delivery (history cs)) (right_pair cs)

delivered_by : (m y : Option (List ℕ)) → Right m y → has_delivery (holding m y) ≡ Option-elim y false (λ d. true)
unfolding has_delivery cleared with_model Option-elim
delivered_by none y right = rw right
delivered_by (some b) none right = refl
delivered_by (some b) (some d) right = refl

-- And a delivery.
pub delivery_held_after : (cs : List Call) → has_delivery (register_after cs) ≡ Option-elim (last_delivery (history cs)) false (λ d. true)
unfolding register_of
delivery_held_after cs = ap has_delivery (holds_pair cs) ∙ delivered_by (last_model (history cs)) (last_delivery (history cs)) (right_pair cs)

-- Where the plain pair's own reasons decide, what is printed is the same for any bytes of the file.
pub unread_after : (cs : List Call) (s : Said) (f g : List ℕ)
    → reads_file (Option-elim (last_model (history cs)) false (λ b. true)) (Option-elim (last_delivery (history cs)) false (λ d. true)) s ≡ false
    → text_by (history cs) (asked_by s f) ≡ text_by (history cs) (asked_by s g)
unread_after cs s f g unread =
    sym (reply_by_lem cs (asked_by s f))
    ∙ unread_text (register_after cs) s f g (ap₂ (λ m d. reads_file m d s) (model_held_after cs) (delivery_held_after cs) ∙ unread)
    ∙ reply_by_lem cs (asked_by s g)
