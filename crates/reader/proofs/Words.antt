-- The words of a printout of accepted files: each line is that of the table, of the margin, of an entry or of a row.
use Prim.Native.Nat.{ℕ, ◌/◌, ◌%◌, ◌<◌}
use mathlib.Core.Bool.{Bool, true, false, cond}
use mathlib.Core.List.{List, [], ◌∷◌, ◌++◌, append-nil}
use mathlib.Core.Logic.{◌⊎◌, inl, inr}
use mathlib.Core.Path.{◌≡◌, refl}
use Rattle.walks.specs.Lists.{each}
use Rattle.walks.specs.Sums.{In}
use Rattle.walks.specs.Order.{rows_in, entries_in, by_row, by_entry}
use Rattle.ppda.specs.Equations.{Vector}
use Rattle.calls.specs.Calls.{Call, upper, lower, mean_steps, margin, live, Reply, cleared, accepted, known, new, value, refused}
use Rattle.text.specs.Decimal.{decimal}
use Rattle.text.specs.Reading.{words_in}
use Rattle.text.proofs.Reading.{words_of_nothing, words_of_each}
use Rattle.lines.specs.Lines.{shown, says_live, steps_by, table_word, margin_word, chance_word, steps_word, margin_line, chance_line}
use Rattle.lines.proofs.Read.{table_read, margin_read, chance_read, steps_read}
use Rattle.report.specs.Printed.{live_entries, chance_of, chance_at, chance_lines, steps_at, steps_lines, lines_by}

-- ---- the lines of accepted files

-- The words of the line of an entry, and of a row with the mean steps that are replied.
abbrev pub ChanceWords : (Call → Reply) → Vector → List (List ℕ) → ℕ → ℕ → ℕ → Type 0
ChanceWords ask gap x p z q =
    x ≡ chance_word ∷ decimal p ∷ decimal z ∷ decimal q ∷ shown (ask (lower p z q)) ∷ shown (ask (upper p z q)) ∷ decimal (gap p z q) ∷ []

abbrev pub StepsWords : (Call → Reply) → List (List ℕ) → ℕ → ℕ → Type 0
StepsWords ask x p z = (r : ℕ) × (ask (mean_steps p z) ≡ value r) × (x ≡ steps_word ∷ decimal p ∷ decimal z ∷ decimal r ∷ [])

module _ (ask : Call → Reply) (x : List (List ℕ)) (more : List ℕ) where
  chance_line_lem : (p z q gap : ℕ) → In x (words_in (chance_of ask p z q gap ++ more)) → ChanceWords ask (λ p z q. gap) x p z q ⊎ In x (words_in more)
  unfolding chance_of
  chance_line_lem p z q gap i = go (says_live (ask (live p z q))) i
    where
      go : (t : Bool) → In x (words_in (cond t (chance_line p z q (ask (lower p z q)) (ask (upper p z q)) gap) [] ++ more))
          → ChanceWords ask (λ p z q. gap) x p z q ⊎ In x (words_in more)
      go true i = rw (chance_read more p z q (ask (lower p z q)) (ask (upper p z q)) gap) at i
      go false i = inr i

  steps_line_lem : (p z : ℕ) → In x (words_in (steps_at ask p z ++ more)) → StepsWords ask x p z ⊎ In x (words_in more)
  steps_line_lem p z i = go (ask (mean_steps p z)) refl i
    where
      line : {r : ℕ} → ask (mean_steps p z) ≡ value r → (x ≡ steps_word ∷ decimal p ∷ decimal z ∷ decimal r ∷ []) ⊎ In x (words_in more)
          → StepsWords ask x p z ⊎ In x (words_in more)
      line {r} e (inl w) = inl (r, e, w)
      line e (inr i) = inr i

      go : (a : Reply) → ask (mean_steps p z) ≡ a → In x (words_in (steps_by p z a ++ more)) → StepsWords ask x p z ⊎ In x (words_in more)
      go (value r) e i = line e (rw (steps_read more p z r) at i)
      go cleared e i = inr i
      go accepted e i = inr i
      go known e i = inr i
      go new e i = inr i
      go (refused n j k) e i = inr i

-- A line of accepted files, by its words: of the table, of the margin, of an entry or of a row; or what stands after the last line's end.
pub data Found (ask : Call → Reply) (gap : Vector) (s g : ℕ) (x : List (List ℕ)) : Type 0 where
  of_table : (ws : List (List ℕ)) → x ≡ table_word ∷ ws → Found ask gap s g x
  of_margin : x ≡ margin_word ∷ shown (ask margin) ∷ [] → Found ask gap s g x
  of_chance : (e : ℕ) → e < entries_in s g → ChanceWords ask gap x (e / s / g) (e / s % g) (e % s) → Found ask gap s g x
  of_steps : (k : ℕ) → k < rows_in s g → StepsWords ask x (k / g) (k % g) → Found ask gap s g x
  of_nothing : x ≡ [] ∷ [] → Found ask gap s g x

module _ (ask : Call → Reply) (gap : Vector) (s g : ℕ) (x : List (List ℕ)) where
  found_steps : In x (words_in (steps_lines ask s g)) → Found ask gap s g x
  unfolding steps_lines
  found_steps i =
      go (words_of_each (rows_in s g) (by_row g (steps_at ask)) (λ k x. StepsWords ask x (k / g) (k % g)) x []
      (λ k l more. steps_line_lem ask x more (k / g) (k % g)) (rw (← append-nil (each (rows_in s g) (by_row g (steps_at ask)))) at i))
    where
      go : ((k : ℕ) × (k < rows_in s g) × StepsWords ask x (k / g) (k % g)) ⊎ In x (words_in []) → Found ask gap s g x
      go (inl (k, l, w)) = of_steps k l w
      go (inr i) = of_nothing (words_of_nothing x i)

  found_chances : In x (words_in (chance_lines ask gap s g ++ steps_lines ask s g)) → Found ask gap s g x
  unfolding chance_lines
  found_chances i =
      go (words_of_each (entries_in s g) (by_entry s g (chance_at ask gap)) (λ e x. ChanceWords ask gap x (e / s / g) (e / s % g) (e % s)) x (steps_lines ask s g)
      (λ e l more. chance_line_lem ask x more (e / s / g) (e / s % g) (e % s) (by_entry s g gap e)) i)
    where
      go : ((e : ℕ) × (e < entries_in s g) × ChanceWords ask gap x (e / s / g) (e / s % g) (e % s)) ⊎ In x (words_in (steps_lines ask s g)) → Found ask gap s g x
      go (inl (e, l, w)) = of_chance e l w
      go (inr i) = found_steps i

  pub found : (n : ℕ) → In x (words_in (lines_by ask n gap s g)) → Found ask gap s g x
  unfolding lines_by
  found n i = go (rw (table_read (margin_line (ask margin) ++ (chance_lines ask gap s g ++ steps_lines ask s g)) s g n (live_entries ask s g)) at i)
    where
      rest : (x ≡ margin_word ∷ shown (ask margin) ∷ []) ⊎ In x (words_in (chance_lines ask gap s g ++ steps_lines ask s g)) → Found ask gap s g x
      rest (inl e) = of_margin e
      rest (inr i) = found_chances i

      go : (x ≡ table_word ∷ decimal s ∷ decimal g ∷ decimal n ∷ decimal (live_entries ask s g) ∷ [])
          ⊎ In x (words_in (margin_line (ask margin) ++ (chance_lines ask gap s g ++ steps_lines ask s g)))
          → Found ask gap s g x
      go (inl e) = of_table _ e
      go (inr i) = rest (rw (margin_read (chance_lines ask gap s g ++ steps_lines ask s g) (ask margin)) at i)
