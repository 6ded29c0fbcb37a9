-- What a reader of a printout learns: a line of it is one of accepted files, made of the register's replies, and these are true of the runs.
use Prim.Native.Nat.{ℕ, ◌/◌, ◌%◌, ◌^◌, ◌<◌}
use native.Mathlib.Omega.{arith}
use mathlib.Core.Bool.{Bool, true, false, cond}
use mathlib.Core.List.{List, [], ◌∷◌, append-nil}
use mathlib.Core.Logic.{◌⊎◌, inl, inr}
use mathlib.Core.Path.{◌≡◌, refl, ap, ◌∙◌}
use lib.IntN.{ℤ}
use borrow.Author.Tests.{lt-ltb}
use Rattle.walks.specs.Sums.{In}
use Rattle.walks.specs.Order.{rows_in, AtRows}
use Rattle.walks.proofs.Places.{row_of_lem}
use Rattle.outcome.specs.Reasons.{number_of}
use Rattle.ppda.specs.Bounds.{UpperHolds, LowerHolds, MeanHolds, TailHolds}
use Rattle.ppda.proofs.Margin.{margin_le_top}
use Rattle.model.specs.Records.{states_of, symbols_of, records_of}
use Rattle.model.specs.Rules.{rules_of}
use Rattle.model.specs.Clauses.{Fits}
use Rattle.model.proofs.Records.{sizes_fit}
use Rattle.wellformed.specs.Verdict.{model_verdict}
use Rattle.delivery.specs.declared.shape.Shape.{Shape}
use Rattle.delivery.specs.Shapes.{has_lowers, has_means}
use Rattle.delivery.specs.Numbers.{uppers_of, lowers_of, means_of}
use Rattle.verdict.specs.Verdict.{verdict}
use Rattle.verdict.specs.Accepted.{RightFiles}
use Rattle.verdict.proofs.Accepted.{delivery_accepted}
use Rattle.certificate.specs.Margin.{margin_of}
use Rattle.certificate.specs.Promised.{TrueFor}
use Rattle.certificate.proofs.Holds.{true_of_shape}
use Rattle.calls.specs.Calls.{upper, lower, mean_steps, margin, Reply, value, refusal}
use Rattle.history.specs.Plain.{plain_reply}
use Rattle.text.specs.Decimal.{decimal, signed}
use Rattle.text.specs.Reading.{words_in, number_in}
use Rattle.text.proofs.Reading.{decimal_number, words_of_nothing}
use Rattle.lines.specs.Lines.{shown, margin_word, chance_word, steps_word, refused_word, refused_line}
use Rattle.lines.proofs.Read.{refused_read}
use Rattle.gaps.specs.Gaps.{gap_of}
use Rattle.report.specs.Printed.{accepted_lines, printed}
use Rattle.reader.specs.Reader.{LineIn, ChanceRead, Reader}
use Rattle.reader.proofs.Filed.{asked, model_reply_lem, delivery_reply_lem, replied}
use Rattle.reader.proofs.Words.{Found, of_table, of_margin, of_chance, of_steps, of_nothing, found}
use Rattle.outcome.specs.Outcomes.{Outcome, Accepted, Refused}
use Rattle.std.specs.Prelude.{Err, Ok}

-- ---- lines of accepted files

module _ (b d : List ℕ) where
  refused_only : (n i : ℕ) (k : ℤ) (w : List ℕ) (ws : List (List ℕ)) → In (w ∷ ws) (words_in (refused_line n i k)) → (w ≡ refused_word) ⊎ (w ≡ [])
  refused_only n i k w ws found = go (rw (refused_read [] n i k) at (rw (← append-nil (refused_line n i k)) at found))
    where
      go : (w ∷ ws ≡ refused_word ∷ decimal n ∷ decimal i ∷ signed k ∷ []) ⊎ In (w ∷ ws) (words_in []) → (w ≡ refused_word) ⊎ (w ≡ [])
      go (inl e) = inl cc
      go (inr i) = let e = words_of_nothing (w ∷ ws) i in inr cc

  -- A line with another word is one of accepted files.
  accepted_line : (w : List ℕ) (ws : List (List ℕ)) → (w ≡ refused_word → ⊥) → (w ≡ [] → ⊥) → LineIn b d (w ∷ ws)
      → (verdict b d ≡ Accepted) × In (w ∷ ws) (words_in (accepted_lines (asked b d) b d))
  unfolding printed
  accepted_line w ws other apart i = go (model_verdict b) refl (verdict b d) refl i
    where
      not_refused : (n j : ℕ) (k : ℤ) → In (w ∷ ws) (words_in (refused_line n j k)) → ⊥
      not_refused n j k i = pick (refused_only n j k w ws i)
        where
          pick : (w ≡ refused_word) ⊎ (w ≡ []) → ⊥
          pick (inl e) = other e
          pick (inr e) = apart e

      go : (o : Outcome) → model_verdict b ≡ o → (a : Outcome) → verdict b d ≡ a → LineIn b d (w ∷ ws)
          → (verdict b d ≡ Accepted) × In (w ∷ ws) (words_in (accepted_lines (asked b d) b d))
      go (Ok u) m (Ok v') v i = (v, rw (model_reply_lem b d, m, delivery_reply_lem b d m, v) at i)
      go (Ok u) m (Err why) v i = absurd (not_refused (number_of why.reason) why.place why.shortfall (rw (model_reply_lem b d, m, delivery_reply_lem b d m, v) at i))
      go (Err why) m a v i = absurd (not_refused (number_of why.reason) why.place why.shortfall (rw (model_reply_lem b d, m) at i))

  module _ (is : verdict b d ≡ Accepted) (right : RightFiles b d) where
    -- The reply for a block that the shape may have.
    abbrev in_block : Bool → ℕ → Reply
    in_block has v = cond has (value v) (refusal 43)

    upper_is : (p z q : ℕ) → p < states_of b → z < symbols_of b → q < states_of b
        → asked b d (upper p z q) ≡ value (uppers_of (states_of b) (symbols_of b) d p z q)
    unfolding plain_reply
    upper_is p z q hp hz hq = replied b d is (upper p z q) ∙ rw (lt-ltb p (states_of b) hp, lt-ltb z (symbols_of b) hz, lt-ltb q (states_of b) hq)

    lower_is : (p z q : ℕ) → p < states_of b → z < symbols_of b → q < states_of b
        → asked b d (lower p z q) ≡ in_block (has_lowers right.shaped) (lowers_of (states_of b) (symbols_of b) d p z q)
    unfolding plain_reply
    lower_is p z q hp hz hq =
        replied b d is (lower p z q)
        ∙ rw (lt-ltb p (states_of b) hp, lt-ltb z (symbols_of b) hz, lt-ltb q (states_of b) hq, right.delivery.shape)

    mean_is : (p z : ℕ) → p < states_of b → z < symbols_of b
        → asked b d (mean_steps p z) ≡ in_block (has_means right.shaped) (means_of (states_of b) (symbols_of b) right.shaped d p z)
    unfolding plain_reply
    mean_is p z hp hz = replied b d is (mean_steps p z) ∙ rw (lt-ltb p (states_of b) hp, lt-ltb z (symbols_of b) hz, right.delivery.shape)

    margin_is : asked b d margin ≡ in_block (has_lowers right.shaped) (margin_of b d)
    unfolding plain_reply
    margin_is = replied b d is margin ∙ rw right.delivery.shape

    -- ---- numbers are small enough to be read back

    fits : Fits (states_of b) (symbols_of b)
    fits = sizes_fit b right.model.records.right

    upper_small : (p z q : ℕ) → p < states_of b → z < symbols_of b → q < states_of b → uppers_of (states_of b) (symbols_of b) d p z q < 10 ^ 20
    unfolding uppers_of
    upper_small p z q hp hz hq = omega (arith, (right.delivery.uppers.due p z q hp hz hq).most)

    lower_small : has_lowers right.shaped ≡ true → (p z q : ℕ) → p < states_of b → z < symbols_of b → q < states_of b
        → lowers_of (states_of b) (symbols_of b) d p z q < 10 ^ 20
    lower_small has p z q hp hz hq = omega (arith, (right.delivery.lowers has).below p z q hp hz hq, upper_small p z q hp hz hq)

    mean_small : has_means right.shaped ≡ true → (p z : ℕ) → p < states_of b → z < symbols_of b → means_of (states_of b) (symbols_of b) right.shaped d p z < 10 ^ 20
    unfolding means_of
    mean_small has p z hp hz = omega (arith, ((right.delivery.means has).due p z hp hz).most)

    margin_small : margin_of b d < 10 ^ 20
    unfolding margin_of
    margin_small = omega (arith, margin_le_top (rules_of b) (states_of b) (symbols_of b) (uppers_of (states_of b) (symbols_of b) d))

    -- ---- what the words say

    read_back : (w : List ℕ) (n : ℕ) → w ≡ decimal n → n < 10 ^ 20 → number_in w ≡ n
    read_back w n e l = ap number_in e ∙ decimal_number n l

    chance_of_lem : (p z q : ℕ) (wp wz wq wl wu : List ℕ) → p < states_of b → z < symbols_of b → q < states_of b → wp ≡ decimal p → wz ≡ decimal z
        → wq ≡ decimal q → wl ≡ shown (asked b d (lower p z q)) → wu ≡ shown (asked b d (upper p z q))
        → ((m : List ℕ) → LineIn b d (margin_word ∷ m ∷ []) → m ≡ shown (asked b d margin)) → ChanceRead b d wp wz wq wl wu
    chance_of_lem p z q wp wz wq wl wu hp hz hq ep ez eq el eu em =
        record {
          upper = upper_read;
          lower = λ written m i. by_shape (has_lowers right.shaped) refl written m (em m i);
        }
      where
        holds : TrueFor b d (states_of b) (symbols_of b) right.shaped
        holds = true_of_shape b d right.shaped is right.delivery.shape

        np : number_in wp ≡ p
        np = read_back wp p ep (omega (arith, fits.few_states))

        nz : number_in wz ≡ z
        nz = read_back wz z ez (omega (arith, fits.few_symbols))

        nq : number_in wq ≡ q
        nq = read_back wq q eq (omega (arith, fits.few_states))

        nu : number_in wu ≡ uppers_of (states_of b) (symbols_of b) d p z q
        nu = read_back wu _ (eu ∙ ap shown (upper_is p z q hp hz hq)) (upper_small p z q hp hz hq)

        upper_read : UpperHolds (rules_of b) (number_in wp) (number_in wz) (number_in wq) (number_in wu)
        upper_read = rw (np, nz, nq, nu) (holds.uppers p z q hp hz hq)

        by_shape : (t : Bool) → has_lowers right.shaped ≡ t → (wl ≡ 45 ∷ [] → ⊥) → (m : List ℕ) → m ≡ shown (asked b d margin)
            → LowerHolds (rules_of b) (number_in wp) (number_in wz) (number_in wq) (number_in wl) (number_in wu) (number_in m)
        by_shape true has written m e =
            rw (np, nz, nq, nu, nl, nm) (holds.lowers has p z q hp hz hq)
          where
            nl : number_in wl ≡ lowers_of (states_of b) (symbols_of b) d p z q
            nl = read_back wl _ (el ∙ ap shown (lower_is p z q hp hz hq ∙ ap (λ t. in_block t (lowers_of (states_of b) (symbols_of b) d p z q)) has)) (lower_small has p z q hp hz hq)

            nm : number_in m ≡ margin_of b d
            nm = read_back m _ (e ∙ ap shown (margin_is ∙ ap (λ t. in_block t (margin_of b d)) has)) margin_small
        by_shape false has written m e =
            absurd (written (el ∙ ap shown (lower_is p z q hp hz hq ∙ ap (λ t. in_block t (lowers_of (states_of b) (symbols_of b) d p z q)) has)))

    -- What holds of each row and its figure in the delivery holds of the line's.
    steps_of : (P : ℕ → ℕ → ℕ → Type 0) → (has_means right.shaped ≡ true → AtRows (states_of b) (symbols_of b) (λ p z. P p z (means_of (states_of b) (symbols_of b) right.shaped d p z)))
        → (p z r : ℕ) (wp wz wr : List ℕ) → p < states_of b → z < symbols_of b → wp ≡ decimal p → wz ≡ decimal z → wr ≡ decimal r
        → asked b d (mean_steps p z) ≡ value r → P (number_in wp) (number_in wz) (number_in wr)
    steps_of P holds p z r wp wz wr hp hz ep ez er reply = by_shape (has_means right.shaped) refl
      where
        by_shape : (t : Bool) → has_means right.shaped ≡ t → P (number_in wp) (number_in wz) (number_in wr)
        by_shape true has =
            rw (read_back wp p ep (omega (arith, fits.few_states)), read_back wz z ez (omega (arith, fits.few_symbols)), nr) (holds has p z hp hz)
          where
            nr : number_in wr ≡ means_of (states_of b) (symbols_of b) right.shaped d p z
            nr =
                let said = mean_is p z hp hz ∙ ap (λ t. in_block t (means_of (states_of b) (symbols_of b) right.shaped d p z)) has in
                let same : r ≡ means_of (states_of b) (symbols_of b) right.shaped d p z = cc in
                read_back wr _ (rw same at er) (mean_small has p z hp hz)
        by_shape false has =
            let said = mean_is p z hp hz ∙ ap (λ t. in_block t (means_of (states_of b) (symbols_of b) right.shaped d p z)) has in
            let z : ◌≡◌ {A = ℕ} 0 1 = cc in
            absurd (omega arith)

  -- ---- the reader

  margin_line_lem : (m : List ℕ) → LineIn b d (margin_word ∷ m ∷ []) → m ≡ shown (asked b d margin)
  margin_line_lem m i = go (found (asked b d) (gap_of b d) (states_of b) (symbols_of b) _ (records_of b)
      (accepted_line margin_word (m ∷ []) (λ e. let z : ◌≡◌ {A = ℕ} 109 114 = cc in omega arith) (λ e. let z : ◌≡◌ {A = ℕ} 0 1 = cc in omega arith) i).1)
    where
      go : Found (asked b d) (gap_of b d) (states_of b) (symbols_of b) (margin_word ∷ m ∷ []) → m ≡ shown (asked b d margin)
      go (of_table ws e) = let z : ◌≡◌ {A = ℕ} 109 116 = cc in absurd (omega arith)
      go (of_margin e) = cc
      go (of_chance k l e) = let z : ◌≡◌ {A = ℕ} 109 99 = cc in absurd (omega arith)
      go (of_steps k l (r, reply, e)) = let z : ◌≡◌ {A = ℕ} 109 115 = cc in absurd (omega arith)
      go (of_nothing e) = let z : ◌≡◌ {A = ℕ} 0 1 = cc in absurd (omega arith)

  chance_line_read : (p z q l u gap : List ℕ) → LineIn b d (chance_word ∷ p ∷ z ∷ q ∷ l ∷ u ∷ gap ∷ []) → ChanceRead b d p z q l u
  chance_line_read p z q l u gap i =
      let (is, line) =
      accepted_line chance_word (p ∷ z ∷ q ∷ l ∷ u ∷ gap ∷ []) (λ e. let z : ◌≡◌ {A = ℕ} 99 114 = cc in omega arith)
      (λ e. let z : ◌≡◌ {A = ℕ} 0 1 = cc in omega arith) i in
      go is ((delivery_accepted b d).0 is) (found (asked b d) (gap_of b d) (states_of b) (symbols_of b) _ (records_of b) line)
    where
      go : verdict b d ≡ Accepted → RightFiles b d → Found (asked b d) (gap_of b d) (states_of b) (symbols_of b) (chance_word ∷ p ∷ z ∷ q ∷ l ∷ u ∷ gap ∷ [])
          → ChanceRead b d p z q l u
      go is right (of_table ws e) = let z : ◌≡◌ {A = ℕ} 99 116 = cc in absurd (omega arith)
      go is right (of_margin e) = let z : ◌≡◌ {A = ℕ} 99 109 = cc in absurd (omega arith)
      go is right (of_chance k below e) =
          let fit = fits is right in
          let (hk, hq, same) = row_of_lem (rows_in (states_of b) (symbols_of b)) (states_of b) k fit.some_states below in
          let (hp, hz, same') = row_of_lem (states_of b) (symbols_of b) (k / states_of b) fit.some_symbols hk in
          chance_of_lem is right (k / states_of b / symbols_of b) (k / states_of b % symbols_of b) (k % states_of b) p z q l u hp hz hq
          (cc) (cc) (cc) (cc) (cc) margin_line_lem
      go is right (of_steps k below (r, reply, e)) = let z : ◌≡◌ {A = ℕ} 99 115 = cc in absurd (omega arith)
      go is right (of_nothing e) = let z : ◌≡◌ {A = ℕ} 0 1 = cc in absurd (omega arith)

  steps_line_read : (P : ℕ → ℕ → ℕ → Type 0)
      → ((h : Shape) → TrueFor b d (states_of b) (symbols_of b) h → has_means h ≡ true → AtRows (states_of b) (symbols_of b) (λ p z. P p z (means_of (states_of b) (symbols_of b) h d p z)))
      → (p z r : List ℕ) → LineIn b d (steps_word ∷ p ∷ z ∷ r ∷ []) → P (number_in p) (number_in z) (number_in r)
  steps_line_read P holds p z r i =
      let (is, line) =
      accepted_line steps_word (p ∷ z ∷ r ∷ []) (λ e. let z : ◌≡◌ {A = ℕ} 115 114 = cc in omega arith)
      (λ e. let z : ◌≡◌ {A = ℕ} 0 1 = cc in omega arith) i in
      go is ((delivery_accepted b d).0 is) (found (asked b d) (gap_of b d) (states_of b) (symbols_of b) _ (records_of b) line)
    where
      go : verdict b d ≡ Accepted → RightFiles b d → Found (asked b d) (gap_of b d) (states_of b) (symbols_of b) (steps_word ∷ p ∷ z ∷ r ∷ [])
          → P (number_in p) (number_in z) (number_in r)
      go is right (of_table ws e) = let z : ◌≡◌ {A = ℕ} 115 116 = cc in absurd (omega arith)
      go is right (of_margin e) = let z : ◌≡◌ {A = ℕ} 115 109 = cc in absurd (omega arith)
      go is right (of_chance k below e) = let z : ◌≡◌ {A = ℕ} 115 99 = cc in absurd (omega arith)
      go is right (of_steps k below (v, reply, e)) =
          let (hp, hz, same) = row_of_lem (states_of b) (symbols_of b) k (fits is right).some_symbols below in
          steps_of is right P (holds right.shaped (true_of_shape b d right.shaped is right.delivery.shape)) (k / symbols_of b) (k % symbols_of b) v p z r hp hz
          (cc) (cc) (cc) reply
      go is right (of_nothing e) = let z : ◌≡◌ {A = ℕ} 0 1 = cc in absurd (omega arith)

pub reader : (b d : List ℕ) → Reader b d
reader b d = record {
  chances = chance_line_read b d;
  steps = steps_line_read b d (MeanHolds (rules_of b)) (λ h holds. holds.means);
  tails = steps_line_read b d (TailHolds (rules_of b) (states_of b)) (λ h holds. holds.tails);
}
