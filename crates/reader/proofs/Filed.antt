-- Two files that are filed one after the other: the replies to the filings, and then those of the plain pair, by which a printout is made.
use Prim.Native.Nat.{ℕ}
use mathlib.Core.List.{List, [], ◌∷◌}
use mathlib.Core.Option.{some}
use mathlib.Core.Path.{◌≡◌, ap, fun_ext, ◌∙◌}
use lib.IntN.{ℤ}
use Rattle.outcome.specs.declared.Reason.{Reason}
use Rattle.outcome.specs.Reasons.{number_of}
use Rattle.wellformed.specs.Verdict.{model_verdict}
use Rattle.wellformed.proofs.Accepted.{model_accepted}
use Rattle.verdict.specs.Verdict.{verdict}
use Rattle.verdict.proofs.Accepted.{delivery_accepted}
use Rattle.calls.specs.Calls.{Call, file_model, file_delivery, Reply, accepted, new}
use Rattle.history.specs.Plain.{Pair, last_model, last_delivery, pair_of, by_verdict, plain_reply}
use Rattle.history.specs.Run.{reply_to, history}
use Rattle.history.proofs.Plain.{as_plain_pair}
use Rattle.lines.specs.Lines.{refused_line}
use Rattle.report.specs.Printed.{accepted_lines, printed}
use Rattle.outcome.specs.Outcomes.{Accepted, Refused}
use Rattle.std.specs.Prelude.{Err}
use Rattle.outcome.specs.declared.Refusal.{Refusal}

-- The pair of the two files.
abbrev pub both : List ℕ → List ℕ → Pair
both b d = record { model = some b; delivery = some d }

module _ (b d : List ℕ) where
  -- The replies after the two filings.
  abbrev pub asked : Call → Reply
  asked = reply_to (file_delivery d ∷ file_model b ∷ [])

  pub model_reply_lem : reply_to [] (file_model b) ≡ by_verdict (model_verdict b) accepted
  unfolding plain_reply history last_model
  model_reply_lem = as_plain_pair [] (file_model b)

  pub delivery_reply_lem : model_verdict b ≡ Accepted → reply_to (file_model b ∷ []) (file_delivery d) ≡ by_verdict (verdict b d) new
  unfolding plain_reply history last_model last_delivery
  delivery_reply_lem is = as_plain_pair (file_model b ∷ []) (file_delivery d) ∙ rw (model_reply_lem, is)

  -- A refusal of the delivery prints its line.
  pub refused_plainly : model_verdict b ≡ Accepted → {why : Refusal} → verdict b d ≡ Err why
      → printed b d ≡ refused_line (number_of why.reason) why.place why.shortfall
  unfolding printed
  refused_plainly m v = rw (model_reply_lem, m, delivery_reply_lem m, v)

  module _ (is : verdict b d ≡ Accepted) where
    model_is : model_verdict b ≡ Accepted
    model_is = (model_accepted b).1 ((delivery_accepted b d).0 is).model

    pair_is : pair_of (history (file_delivery d ∷ file_model b ∷ [])) ≡ both b d
    unfolding history last_model last_delivery
    pair_is = rw (model_reply_lem, model_is, delivery_reply_lem model_is, is)

    pub replied : (c : Call) → asked c ≡ plain_reply (both b d) c
    replied c = as_plain_pair (file_delivery d ∷ file_model b ∷ []) c ∙ ap (λ x. plain_reply x c) pair_is

    -- Accepted files print the lines of the plain pair's replies.
    pub printed_plainly : printed b d ≡ accepted_lines (plain_reply (both b d)) b d
    unfolding printed
    printed_plainly = rw (model_reply_lem, model_is, delivery_reply_lem model_is, is) (ap (λ ask. accepted_lines ask b d) (fun_ext replied))
