-- Where the name of a filing's file is read is where it stands: a line of two words is the first of them, a space and the second, so the second is what stands
-- after as many bytes as the first has and one more.
use Prim.Native.Nat.{ℕ, ◌+◌}
use native.Mathlib.Omega.{arith}
use mathlib.Core.Bool.{Bool, true, false, cond}
use mathlib.Core.List.{List, [], ◌∷◌, ◌++◌, append-nil}
use mathlib.Core.Path.{◌≡◌, refl, sym, ap, ◌∙◌}
use lib.Dec.{eqb}
use lib.ListN.{length, drop}
use borrow.Author.Tests.{eqb-true}
use Rattle.text.specs.Reading.{in_front, pieces}
use Rattle.said.specs.declared.Change.{Change}
use Rattle.said.specs.declared.Change.TheVariants.{Clear, Model, Counter, Delivery, Merge}
use Rattle.said.specs.declared.Said.TheVariants as Says
use Rattle.said.specs.Said.{clear_word, model_word, counter_word, delivery_word, merge_word, said_by}
use Rattle.said.specs.Clauses.{FileLine}
use Rattle.said.proofs.Meaning.{model_names, counter_names, delivery_names, merge_names}
use Rattle.service.specs.Clauses.{name_from}

-- Words, a space before each.
abbrev spaced : List (List ℕ) → List ℕ
spaced [] = []
spaced (w ∷ ws) = 32 ∷ (w ++ spaced ws)

-- The words of a line make the line.
spaced_pieces : (line : List ℕ) → spaced (pieces 32 line) ≡ 32 ∷ line
unfolding pieces
spaced_pieces [] = refl
spaced_pieces (x ∷ xs) = go (eqb x 32) refl (pieces 32 xs) (spaced_pieces xs)
  where
    go : (t : Bool) → eqb x 32 ≡ t → (ws : List (List ℕ)) → spaced ws ≡ 32 ∷ xs → spaced (cond t ([] ∷ ws) (in_front x ws)) ≡ 32 ∷ x ∷ xs
    go true space ws are = rw (are, eqb-true x 32 space)
    go false other [] are = let z : ◌≡◌ {A = ℕ} 0 1 = cc in absurd (omega arith)
    go false other (w ∷ ws) are = let rest : w ++ spaced ws ≡ xs = cc in rw rest

-- What stands from a place on in a line is the name of the file that a filing by the word names: the line's second word, and the line is the word, a space and
-- the name.
pub record NameAt (from : ℕ) (word line : List ℕ) : Type 0 where
  pub second : pieces 32 line ≡ word ∷ drop from line ∷ []
  pub whole : line ≡ word ++ (32 ∷ drop from line)

name_after : (word line : List ℕ) → FileLine word line → NameAt (length word + 1) word line
name_after word line x = record { second = x.words; whole = parts (drop (length word + 1) line) (ap spaced (sym x.words) ∙ spaced_pieces line) }
  where
    parts : (name : List ℕ) → spaced (word ∷ name ∷ []) ≡ 32 ∷ line → line ≡ word ++ (32 ∷ name)
    parts name e = let same : name ++ [] ≡ name = append-nil name in cc

-- The first word of a line that says a change.
abbrev pub word_of : Change → List ℕ
word_of Clear = clear_word
word_of Model = model_word
word_of Counter = counter_word
word_of Delivery = delivery_word
word_of Merge = merge_word

-- Every change but a clearing names a file, and its name stands where it is read.
pub name_read : (c : Change) (line : List ℕ) → (c ≡ Clear → ⊥) → said_by line ≡ Says.Change c → NameAt (name_from c) (word_of c) line
name_read Clear line files e = absurd (files refl)
name_read Model line files e = name_after model_word line (model_names line e)
name_read Counter line files e = name_after counter_word line (counter_names line e)
name_read Delivery line files e = name_after delivery_word line (delivery_names line e)
name_read Merge line files e = name_after merge_word line (merge_names line e)
