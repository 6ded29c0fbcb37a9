-- The laws of calls: the word of each says it, any other word says none, and what a line says by its first word and the rest.
use Prim.Native.Nat.{ℕ, ◌-◌}
use mathlib.Core.Bool.{Bool, true, false}
use mathlib.Core.List.{List, [], ◌∷◌}
use mathlib.Core.Path.{◌≡◌, sym, ap, ◌∙◌}
use lib.Dec.{eqb}
use lib.ListN.{length, take, drop}
use Rattle.std.specs.Bool.{IsTrue}
use Rattle.std.specs.Borrow.{Bor}
use Rattle.std.specs.List.{slice_get}
use Rattle.std.specs.Option.{MatchOption, option_copied}
use Rattle.std.specs.Prelude.{Option, Some, None}
use Rattle.std.proofs.lemmas.Option.{none-some, same_Some}
use Rattle.spelling.specs.Spelling.{same, is_plain}
use Rattle.spelling.specs.Clauses.{word_end, arguments_in}
use Rattle.spelling.proofs.Words.{same_is, pieces_split}
use Rattle.spelling.proofs.Rest.{part_from}
use Rattle.said.specs.declared.Said.{Said}
use Rattle.calls.specs.declared.Question.TheVariants.{Upper, Lower, MeanSteps, Margin, Live, Within}
use Rattle.said.specs.declared.Change.TheVariants.{Clear, Model, Counter, Delivery, Merge}
use Rattle.said.specs.declared.Said.TheVariants as Says
use Rattle.said.specs.declared.Said.TheVariants.{Nothing, Unclear}
use Rattle.said.specs.Said.{is_silent, alone, on_file, on_row, on_entry, on_steps, by_word, said_by}
use Rattle.said.specs.Said.{clear_word, model_word, counter_word, delivery_word, merge_word, upper_word, lower_word, steps_word, margin_word, live_word, within_word}

-- Each call by its word.
module _ (w : List ℕ) (ws : List (List ℕ)) where
  pub says_clear : same w clear_word ≡ true → by_word w ws ≡ alone (Says.Change Clear) ws
  unfolding by_word same
  says_clear e = rw (same_is w clear_word e)

  pub says_model : same w model_word ≡ true → by_word w ws ≡ on_file (Says.Change Model) ws
  unfolding by_word same
  says_model e = rw (same_is w model_word e)

  pub says_counter : same w counter_word ≡ true → by_word w ws ≡ on_file (Says.Change Counter) ws
  unfolding by_word same
  says_counter e = rw (same_is w counter_word e)

  pub says_delivery : same w delivery_word ≡ true → by_word w ws ≡ on_file (Says.Change Delivery) ws
  unfolding by_word same
  says_delivery e = rw (same_is w delivery_word e)

  pub says_merge : same w merge_word ≡ true → by_word w ws ≡ on_file (Says.Change Merge) ws
  unfolding by_word same
  says_merge e = rw (same_is w merge_word e)

  pub says_upper : same w upper_word ≡ true → by_word w ws ≡ on_entry Upper ws
  unfolding by_word same
  says_upper e = rw (same_is w upper_word e)

  pub says_lower : same w lower_word ≡ true → by_word w ws ≡ on_entry Lower ws
  unfolding by_word same
  says_lower e = rw (same_is w lower_word e)

  pub says_steps : same w steps_word ≡ true → by_word w ws ≡ on_row MeanSteps ws
  unfolding by_word same
  says_steps e = rw (same_is w steps_word e)

  pub says_margin : same w margin_word ≡ true → by_word w ws ≡ alone (Says.Question Margin) ws
  unfolding by_word same
  says_margin e = rw (same_is w margin_word e)

  pub says_live_lem : same w live_word ≡ true → by_word w ws ≡ on_entry Live ws
  unfolding by_word same
  says_live_lem e = rw (same_is w live_word e)

  pub says_within : same w within_word ≡ true → by_word w ws ≡ on_steps Within ws
  unfolding by_word same
  says_within e = rw (same_is w within_word e)

  -- Any other word.
  pub says_none : same w clear_word ≡ false → same w model_word ≡ false → same w counter_word ≡ false → same w delivery_word ≡ false
      → same w merge_word ≡ false → same w upper_word ≡ false → same w lower_word ≡ false → same w steps_word ≡ false → same w margin_word ≡ false → same w live_word ≡ false
      → same w within_word ≡ false → by_word w ws ≡ Unclear
  unfolding by_word
  says_none a b c d m e f g h i j = rw (a, b, c, d, m, e, f, g, h, i, j)

-- A line that gets no reply is empty, or its first byte is `#`.
pub silent_by : (l : List ℕ) (first : Option (Bor ℕ)) (r : Bool) {P : Bor ℕ → Type 0} → option_copied first ≡ slice_get l 0
    → MatchOption first (IsTrue r) P → ((b : Bor ℕ) → P b → r ≡ eqb b.now 35) → r ≡ is_silent l
unfolding is_silent
silent_by [] None r e is by = is
silent_by (x ∷ xs) (Some b) r e is by = by b is ∙ ap (λ y. eqb y 35) (same_Some b.now x e)
silent_by [] (Some b) r e is by = absurd (none-some b.now (sym e))
silent_by (x ∷ xs) None r e is by = absurd (none-some x e)

-- A line by its first word and the rest.
pub line_says : (l : List ℕ) → is_silent l ≡ false → is_plain l ≡ true → said_by l ≡ by_word (take (word_end l) l) (arguments_in (drop (word_end l) l))
unfolding said_by
line_says l loud plain = rw (loud, plain, pieces_split l)

-- The same by the parts that the code takes.
pub line_found : (l : List ℕ) (e : ℕ) → is_silent l ≡ false → is_plain l ≡ true → e ≡ word_end l
    → {r : Said} → r ≡ by_word (take e l) (arguments_in (take (length l - e) (drop e l))) → r ≡ said_by l
line_found l e loud plain end made = made ∙ rw (part_from e l, end) (sym (line_says l loud plain))

-- A line that gets no reply, and one that is not plain.
pub silent_says : (l : List ℕ) → is_silent l ≡ true → said_by l ≡ Nothing
unfolding said_by
silent_says l e = rw e

pub odd_says : (l : List ℕ) → is_silent l ≡ false → is_plain l ≡ false → said_by l ≡ Unclear
unfolding said_by
odd_says l loud e = rw (loud, e)
