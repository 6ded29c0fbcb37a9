-- A refused delivery has no mark and an accepted one has, whatever the register and the file: by the outcome.
use Prim.Native.Nat.{ℕ}
use mathlib.Core.Bool.{true, false≢true}
use mathlib.Core.List.{List}
use mathlib.Core.Logic.{◌↔◌}
use mathlib.Core.Path.{◌≡◌, refl}
use Rattle.filing.specs.Outcomes.{file_of, delivery_outcome}
use Rattle.register.specs.declared.Register.{Register}
use Rattle.register.specs.Filing.{delivery_by, file_delivery, Marked}
use Rattle.outcome.specs.Outcomes.{Outcome, is_refused}
use Rattle.std.specs.Result.{result_ok}
use Rattle.std.specs.Prelude.{Err, Ok, None}

by_outcome : (o : Outcome) (r : Register) (b d : List ℕ) → (is_refused o ≡ true) ↔ (result_ok (delivery_by o r b d).receipt ≡ None)
by_outcome (Ok u) r b d = (λ e. absurd (false≢true e), λ e. absurd cc)
by_outcome (Err why) r b d = (λ e. refl, λ e. refl)

pub marked : (r : Register) (d : List ℕ) → Marked r d
unfolding file_delivery
marked r d = by_outcome (delivery_outcome r.model d) r (file_of r.model) d
