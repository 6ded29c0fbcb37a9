-- A register through any list of calls: what each call makes of it and replies, by the definitions that the calls' contracts cite.
use Rattle.std.specs.Prelude.{ℕ, List, [], ◌∷◌}
use Rattle.std.proofs.Math.Option.{Option, none, some}
use Rattle.calls.specs.Answers.{model_reply, delivery_reply, answer_reply}
use Rattle.register.specs.declared.Register.{Register}
use Rattle.register.specs.Filing as Filing
use Rattle.register.specs.Merging.{merge_delivery}
use Rattle.counter.specs.Filing as Counter
use Rattle.register.specs.Questions.{upper_in, lower_in, mean_in, margin_in, live_in, within_in}
use Rattle.calls.specs.Calls.{Call, clear, file_model, file_counter, file_delivery, merge, upper, lower, mean_steps, margin, live, within, Reply, cleared}
use Rattle.history.specs.Plain.{Event, Pair}

-- The register after a call, and the reply.
unfoldable pub after_call : Register → Call → Register
after_call r clear = Filing.cleared
after_call r (file_model b) = (Filing.file_model r b).register
after_call r (file_counter c) = (Counter.file_counter r c).register
after_call r (file_delivery d) = (Filing.file_delivery r d).register
after_call r (merge d) = (merge_delivery r d).register
after_call r (upper p z q) = r
after_call r (lower p z q) = r
after_call r (mean_steps p z) = r
after_call r margin = r
after_call r (live p z q) = r
after_call r (within n p z q) = r

unfoldable pub reply_of : Register → Call → Reply
reply_of r clear = cleared
reply_of r (file_model b) = model_reply (Filing.file_model r b).outcome
reply_of r (file_counter c) = model_reply (Counter.file_counter r c).outcome
reply_of r (file_delivery d) = delivery_reply (Filing.file_delivery r d).receipt
reply_of r (merge d) = delivery_reply (merge_delivery r d).receipt
reply_of r (upper p z q) = answer_reply (upper_in r p z q)
reply_of r (lower p z q) = answer_reply (lower_in r p z q)
reply_of r (mean_steps p z) = answer_reply (mean_in r p z)
reply_of r margin = answer_reply (margin_in r)
reply_of r (live p z q) = answer_reply (live_in r p z q)
reply_of r (within n p z q) = answer_reply (within_in r n p z q)

-- The register after a list of calls, latest first, from an empty one; its history; and its reply to one call more.
unfoldable pub register_after : List Call → Register
register_after [] = Filing.cleared
register_after (c ∷ cs) = after_call (register_after cs) c

abbrev pub reply_to : List Call → Call → Reply
reply_to cs c = reply_of (register_after cs) c

unfoldable pub history : List Call → List Event
history [] = []
history (c ∷ cs) = record { call = c; reply = reply_to cs c } ∷ history cs

-- The replies of a register to calls in the order of time.
unfoldable pub replies : Register → List Call → List Reply
replies r [] = []
replies r (c ∷ cs) = reply_of r c ∷ replies (after_call r c) cs

-- The register that holds a pair of files.
abbrev pub holding : Option (List ℕ) → Option (List ℕ) → Register
holding none d = Filing.cleared
holding (some b) none = Filing.with_model b
holding (some b) (some d) = (Filing.received (Filing.with_model b) b (Filing.shape_for b d) d).register

unfoldable pub register_of : Pair → Register
register_of x = holding x.model x.delivery
