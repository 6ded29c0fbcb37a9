-- What is responded to what is said, as the code makes it.
use Rattle.std.specs.Prelude.{ℕ, Bool, true, false, List}
use Rattle.questions.specs.declared.Shown.{Shown}
use Rattle.questions.specs.Questions.{answer_from}
use Rattle.questions.specs.Clauses.{is_short}
use Rattle.register.specs.declared.Register.{Register}
use Rattle.register.specs.Filing as Filing
use Rattle.register.specs.Merging.{merge_delivery}
use Rattle.register.specs.declared.Filed as Given
use Rattle.register.specs.declared.Received as Register
use Rattle.counter.specs.Filing.{file_counter}
use Rattle.said.specs.declared.Change.{Change}
use Rattle.said.specs.declared.Change.TheVariants.{Clear, Model, Counter, Delivery, Merge}
use Rattle.said.specs.declared.Said.{Said}
use Rattle.said.specs.declared.Said.TheVariants as Says
use Rattle.replies.specs.declared.Response.{Response}
use Rattle.replies.specs.declared.Response.TheVariants.{Silence, Unclear, Cleared, Filed, Received, Answered}
use Rattle.script.specs.declared.Responded.{Responded}

-- Whether what is said may change the register.
abbrev pub may_change : Said → Bool
may_change Says.Nothing = false
may_change Says.Unclear = false
may_change (Says.Change c) = true
may_change (Says.Question a) = false

-- Whether what is said asks for a short run.
abbrev pub asks_short : Said → Bool
asks_short Says.Nothing = false
asks_short Says.Unclear = false
asks_short (Says.Change c) = false
asks_short (Says.Question a) = is_short a

-- The response to what changes nothing, from what is held, the model's bytes and the lists of numbers; silence for the rest.
abbrev pub answered_from : Shown → List ℕ → List (List ℕ) → Said → Response
answered_from h b l Says.Nothing = Silence
answered_from h b l Says.Unclear = Unclear
answered_from h b l (Says.Change c) = Silence
answered_from h b l (Says.Question k) = Answered (answer_from h b l k)

abbrev pub responded : Register → Response → Responded
responded r x = record { register = r; response = x }

-- What a model gives, filed by itself or by a counter file.
abbrev pub filed_as : Given.Filed → Responded
filed_as x = responded x.register (Filed x.outcome)

-- What a delivery gives, filed or merged.
abbrev pub received_as : Register.Received → Responded
received_as x = responded x.register (Received x.receipt)

-- The register after a change, and the response, where the file that is named has these bytes.
abbrev pub change_made : Register → Change → List ℕ → Responded
change_made r Clear f = responded Filing.cleared Cleared
change_made r Model f = filed_as (Filing.file_model r f)
change_made r Counter f = filed_as (file_counter r f)
change_made r Delivery f = received_as (Filing.file_delivery r f)
change_made r Merge f = received_as (merge_delivery r f)

-- The same for whatever is said: for what changes nothing, the register and silence.
abbrev pub changed_by : Register → Said → List ℕ → Responded
changed_by r Says.Nothing f = responded r Silence
changed_by r Says.Unclear f = responded r Silence
changed_by r (Says.Change c) f = change_made r c f
changed_by r (Says.Question a) f = responded r Silence
