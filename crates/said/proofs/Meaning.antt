-- What a reader learns of a line: which lines get no reply, which say no call for their length or a byte, and where a filing's name stands.
use Prim.Native.Nat.{ℕ, zero, suc, ◌+◌, ◌-◌, ◌≤◌, ◌<◌}
use native.Mathlib.Omega.{arith}
use mathlib.Core.Bool.{Bool, true, false, cond, ◌&&◌, and-false, and-eq-true_iff, false≢true}
use mathlib.Core.List.{List, [], ◌∷◌}
use mathlib.Core.Logic.{◌⊎◌, inl, inr}
use mathlib.Core.Path.{◌≡◌, refl, sym, ap, ◌∙◌}
use lib.Dec.{eqb, leb}
use lib.ListN.{length, take, drop, get_or, length-drop}
use lib.Seq.{take_all, length-take-le, drop-drop}
use borrow.Author.Tests.{eqb-true, leb-true, leb-false, lt-leb}
use Rattle.text.specs.Reading.{number_in}
use Rattle.spelling.specs.Spelling.{same, every, is_printable, is_plain, is_number, is_name, is_file}
use Rattle.spelling.specs.Clauses.{word_end, arguments_in}
use Rattle.spelling.proofs.Words.{same_is, every_false, every_drop, plain_long, end_within, pieces_split, pieces_one}
use Rattle.spelling.proofs.Rest.{name_of}
use Rattle.said.specs.declared.Said.{Said}
use Rattle.calls.specs.declared.Question.{Question}
use Rattle.calls.specs.declared.Question.TheVariants.{Upper, Lower, MeanSteps, Margin, Live, Within}
use Rattle.said.specs.declared.Change.TheVariants.{Clear, Model, Counter, Delivery, Merge}
use Rattle.said.specs.declared.Said.TheVariants as Says
use Rattle.said.specs.declared.Said.TheVariants.{Nothing, Unclear}
use Rattle.said.specs.Said.{is_silent, alone, on_file, on_row, on_entry, on_steps, by_word, said_by}
use Rattle.said.specs.Said.{clear_word, model_word, counter_word, delivery_word, merge_word, upper_word, lower_word, steps_word, margin_word, live_word, within_word}
use Rattle.said.specs.Clauses.{FileLine}
use Rattle.said.proofs.Calls.{says_model, says_counter, says_delivery, says_merge, line_says, silent_says, odd_says}

-- ---- lines that say no call

-- A line that is empty or starts with `#` says nothing, whatever else stands in it.
pub silent_says_nothing : (line : List ℕ) → is_silent line ≡ true → said_by line ≡ Nothing
silent_says_nothing line e = silent_says line e

-- One of more than 300 bytes that does not start with `#` is unclear.
pub long_is_unclear : (line : List ℕ) → is_silent line ≡ false → 300 < length line → said_by line ≡ Unclear
long_is_unclear line loud h = odd_says line loud (plain_long line h)

-- So is one with a byte below 32, or 127, anywhere.
pub control_is_unclear : (line : List ℕ) (i : ℕ) → is_silent line ≡ false → i < length line → (get_or line i 0 < 32) ⊎ (get_or line i 0 ≡ 127)
    → said_by line ≡ Unclear
unfolding is_plain
control_is_unclear line i loud h control =
    odd_says line loud (not_plain (every_false is_printable line i h (not_printable (get_or line i 0) control)))
  where
    not_printable : (b : ℕ) → (b < 32) ⊎ (b ≡ 127) → is_printable b ≡ false
    not_printable b (inl low) = rw (lt-leb 32 b low)
    not_printable b (inr is) = rw is

    not_plain : every is_printable line ≡ false → is_plain line ≡ false
    not_plain e = rw (e, and-false (leb (length line) 300))

-- ---- the first bytes of a line are enough

silent_kept : (n : ℕ) (line : List ℕ) → 0 < n → is_silent (take n line) ≡ is_silent line
unfolding is_silent
silent_kept zero line h = absurd (omega arith)
silent_kept (suc n) [] h = refl
silent_kept (suc n) (x ∷ xs) h = refl

-- A program that keeps 301 bytes of a line, or more, and drops the others, reads the same.
pub kept_says : (n : ℕ) (line : List ℕ) → 300 < n → said_by (take n line) ≡ said_by line
kept_says n line h = by_length (leb (length line) n) refl
  where
    by_reply : n < length line → (t : Bool) → is_silent line ≡ t → said_by (take n line) ≡ said_by line
    by_reply long true e = silent_says (take n line) (silent_kept n line (omega arith) ∙ e) ∙ sym (silent_says line e)
    by_reply long false e =
        long_is_unclear (take n line) (silent_kept n line (omega arith) ∙ e) (rw (length-take-le n line (omega arith)) h)
        ∙ sym (long_is_unclear line e (omega arith))

    by_length : (t : Bool) → leb (length line) n ≡ t → said_by (take n line) ≡ said_by line
    by_length true e = ap said_by (take_all n line (leb-true (length line) n e))
    by_length false e = by_reply (leb-false (length line) n e) (is_silent line) refl

-- ---- which lines say a filing

-- A flag on what is said that is down for `Unclear`: it is down for a first word and the words after it unless it is up for the call of that word.
module _ (f : Said → Bool) (unclear : f Unclear ≡ false) where
  either : (t : Bool) (a b : Said) → (t ≡ true → f a ≡ false) → f b ≡ false → f (cond t a b) ≡ false
  either true a b g h = g refl
  either false a b g h = h

  alone_down : (call : Said) (ws : List (List ℕ)) → f call ≡ false → f (alone call ws) ≡ false
  alone_down call [] e = e
  alone_down call (w ∷ ws) e = unclear

  file_down : (call : Said) (ws : List (List ℕ)) → f call ≡ false → f (on_file call ws) ≡ false
  file_down call ws e = either (is_file ws) call Unclear (λ t. e) unclear

  row_down : (call : ℕ → ℕ → Question) (ws : List (List ℕ)) → ((a : Question) → f (Says.Question a) ≡ false) → f (on_row call ws) ≡ false
  row_down call [] e = unclear
  row_down call (p ∷ []) e = unclear
  row_down call (p ∷ z ∷ []) e = either (is_number p && is_number z) (Says.Question (call (number_in p) (number_in z))) Unclear (λ t. e (call (number_in p) (number_in z))) unclear
  row_down call (p ∷ z ∷ w ∷ ws) e = unclear

  entry_down : (call : ℕ → ℕ → ℕ → Question) (ws : List (List ℕ)) → ((a : Question) → f (Says.Question a) ≡ false) → f (on_entry call ws) ≡ false
  entry_down call [] e = unclear
  entry_down call (p ∷ []) e = unclear
  entry_down call (p ∷ z ∷ []) e = unclear
  entry_down call (p ∷ z ∷ q ∷ []) e =
      either (is_number p && (is_number z && is_number q)) (Says.Question (call (number_in p) (number_in z) (number_in q))) Unclear
      (λ t. e (call (number_in p) (number_in z) (number_in q))) unclear
  entry_down call (p ∷ z ∷ q ∷ w ∷ ws) e = unclear

  steps_down : (call : ℕ → ℕ → ℕ → ℕ → Question) (ws : List (List ℕ)) → ((a : Question) → f (Says.Question a) ≡ false) → f (on_steps call ws) ≡ false
  steps_down call [] e = unclear
  steps_down call (n ∷ []) e = unclear
  steps_down call (n ∷ p ∷ []) e = unclear
  steps_down call (n ∷ p ∷ z ∷ []) e = unclear
  steps_down call (n ∷ p ∷ z ∷ q ∷ []) e =
      either (is_number n && (is_number p && (is_number z && is_number q)))
      (Says.Question (call (number_in n) (number_in p) (number_in z) (number_in q))) Unclear
      (λ t. e (call (number_in n) (number_in p) (number_in z) (number_in q))) unclear
  steps_down call (n ∷ p ∷ z ∷ q ∷ w ∷ ws) e = unclear

  word_down : (w : List ℕ) (ws : List (List ℕ)) → f (Says.Change Clear) ≡ false → (same w model_word ≡ true → f (Says.Change Model) ≡ false)
      → (same w counter_word ≡ true → f (Says.Change Counter) ≡ false) → (same w delivery_word ≡ true → f (Says.Change Delivery) ≡ false)
      → (same w merge_word ≡ true → f (Says.Change Merge) ≡ false) → ((a : Question) → f (Says.Question a) ≡ false) → f (by_word w ws) ≡ false
  unfolding by_word
  word_down w ws clear model counter delivery merge question =
      either (same w clear_word) _ _ (λ t. alone_down (Says.Change Clear) ws clear)
      (either (same w model_word) _ _ (λ t. file_down (Says.Change Model) ws (model t))
      (either (same w counter_word) _ _ (λ t. file_down (Says.Change Counter) ws (counter t))
      (either (same w delivery_word) _ _ (λ t. file_down (Says.Change Delivery) ws (delivery t))
      (either (same w merge_word) _ _ (λ t. file_down (Says.Change Merge) ws (merge t))
      (either (same w upper_word) _ _ (λ t. entry_down Upper ws question)
      (either (same w lower_word) _ _ (λ t. entry_down Lower ws question)
      (either (same w steps_word) _ _ (λ t. row_down MeanSteps ws question)
      (either (same w margin_word) _ _ (λ t. alone_down (Says.Question Margin) ws (question Margin))
      (either (same w live_word) _ _ (λ t. entry_down Live ws question)
      (either (same w within_word) _ _ (λ t. steps_down Within ws question) unclear))))))))))

-- The flags of a reply that is none, and of the filings.
abbrev is_nothing : Said → Bool
is_nothing Nothing = true
is_nothing Unclear = false
is_nothing (Says.Change c) = false
is_nothing (Says.Question a) = false

abbrev is_model : Said → Bool
is_model Nothing = false
is_model Unclear = false
is_model (Says.Change Clear) = false
is_model (Says.Change Model) = true
is_model (Says.Change Counter) = false
is_model (Says.Change Delivery) = false
is_model (Says.Change Merge) = false
is_model (Says.Question a) = false

abbrev is_counter : Said → Bool
is_counter Nothing = false
is_counter Unclear = false
is_counter (Says.Change Clear) = false
is_counter (Says.Change Model) = false
is_counter (Says.Change Counter) = true
is_counter (Says.Change Delivery) = false
is_counter (Says.Change Merge) = false
is_counter (Says.Question a) = false

abbrev is_delivery : Said → Bool
is_delivery Nothing = false
is_delivery Unclear = false
is_delivery (Says.Change Clear) = false
is_delivery (Says.Change Model) = false
is_delivery (Says.Change Counter) = false
is_delivery (Says.Change Delivery) = true
is_delivery (Says.Change Merge) = false
is_delivery (Says.Question a) = false

abbrev is_merge : Said → Bool
is_merge Nothing = false
is_merge Unclear = false
is_merge (Says.Change Clear) = false
is_merge (Says.Change Model) = false
is_merge (Says.Change Counter) = false
is_merge (Says.Change Delivery) = false
is_merge (Says.Change Merge) = true
is_merge (Says.Question a) = false

-- What a line says that says anything but `Nothing` and `Unclear`, it says by its words.
record Spoken (line : List ℕ) : Type 0 where
  plain : is_plain line ≡ true
  words : said_by line ≡ by_word (take (word_end line) line) (arguments_in (drop (word_end line) line))

-- Only a line that is empty or starts with `#` says nothing.
pub nothing_is_silent : (line : List ℕ) → said_by line ≡ Nothing → is_silent line ≡ true
nothing_is_silent line e = go (is_silent line) refl (is_plain line) refl
  where
    go : (t : Bool) → is_silent line ≡ t → (u : Bool) → is_plain line ≡ u → t ≡ true
    go true loud u plain = refl
    go false loud false plain = absurd (false≢true (ap is_nothing (sym (odd_says line loud plain) ∙ e)))
    go false loud true plain =
        absurd
        (false≢true
        (sym (word_down is_nothing refl _ _ refl (λ t. refl) (λ t. refl) (λ t. refl) (λ t. refl) (λ a. refl))
        ∙ ap is_nothing (sym (line_says line loud plain) ∙ e)))

spoken : (line : List ℕ) (f : Said → Bool) → f Nothing ≡ false → f Unclear ≡ false → f (said_by line) ≡ true → Spoken line
spoken line f nothing unclear e = go (is_silent line) refl (is_plain line) refl
  where
    go : (t : Bool) → is_silent line ≡ t → (u : Bool) → is_plain line ≡ u → Spoken line
    go true silent u plain = absurd (false≢true (sym nothing ∙ ap f (sym (silent_says line silent)) ∙ e))
    go false loud false plain = absurd (false≢true (sym unclear ∙ ap f (sym (odd_says line loud plain)) ∙ e))
    go false loud true plain = record { plain = plain; words = line_says line loud plain }

-- ---- where the name of a filing stands

-- What a rest that names a file is: a space and a name.
record NameIn (rest name : List ℕ) : Type 0 where
  words : arguments_in rest ≡ name ∷ []
  spaceless : word_end name ≡ length name
  some : 1 ≤ length name
  most : length name ≤ 255

name_in : (rest : List ℕ) → is_file (arguments_in rest) ≡ true → NameIn rest (drop 1 rest)
unfolding is_name arguments_in
name_in [] e = absurd (false≢true e)
name_in (x ∷ xs) e =
    let (one, sizes) = (and-eq-true_iff (eqb (word_end xs) (length xs)) (is_name xs)).0 (sym (name_of xs) ∙ e) in
    let (some, most) = (and-eq-true_iff (leb 1 (length xs)) (leb (length xs) 255)).0 sizes in
    let all : word_end xs ≡ length xs = eqb-true (word_end xs) (length xs) one in
    record { words = pieces_one xs all; spaceless = all; some = leb-true 1 (length xs) some; most = leb-true (length xs) 255 most }

-- A line whose first word is that of a filing and whose rest names a file.
file_line : (word line : List ℕ) → is_plain line ≡ true → take (word_end line) line ≡ word → is_file (arguments_in (drop (word_end line) line)) ≡ true
    → FileLine word line
unfolding is_plain
file_line word line plain first file =
    let end : word_end line ≡ length word = sym (length-take-le (word_end line) line (end_within line)) ∙ ap length first in
    let place : drop 1 (drop (word_end line) line) ≡ drop (length word + 1) line = drop-drop 1 (word_end line) line ∙ rw end in
    let name : NameIn (drop (word_end line) line) (drop (length word + 1) line) = rw place at (name_in (drop (word_end line) line) file) in
    let size : length (drop (length word + 1) line) ≡ length line - (length word + 1) = length-drop (length word + 1) line in
    record {
      words = pieces_split line ∙ rw (first, name.words);
      some = omega arith;
      most = omega arith;
      spaceless = name.spaceless;
      printable = every_drop is_printable (length word + 1) line ((and-eq-true_iff (leb (length line) 300) (every is_printable line)).0 plain).1;
    }

-- A filing of any kind, by its flag f, its word and its call.
filing_names : (f : Said → Bool) (word line : List ℕ) (call : Said) → f call ≡ true → f Nothing ≡ false → f Unclear ≡ false
    → ((w : List ℕ) (ws : List (List ℕ)) → same w word ≡ false → f (by_word w ws) ≡ false)
    → ((w : List ℕ) (ws : List (List ℕ)) → same w word ≡ true → by_word w ws ≡ on_file call ws) → said_by line ≡ call → FileLine word line
filing_names f word line call up nothing unclear other by e = go (same first word) refl (is_file rest) refl
  where
    first : List ℕ
    first = take (word_end line) line

    rest : List (List ℕ)
    rest = arguments_in (drop (word_end line) line)

    said : Spoken line
    said = spoken line f nothing unclear (ap f e ∙ up)

    is_up : f (by_word first rest) ≡ true
    is_up = ap f (sym said.words ∙ e) ∙ up

    go : (t : Bool) → same first word ≡ t → (u : Bool) → is_file rest ≡ u → FileLine word line
    go false is u file = absurd (false≢true (sym (other first rest is) ∙ is_up))
    go true is false file = absurd (false≢true (sym (ap f (by first rest is ∙ rw file) ∙ unclear) ∙ is_up))
    go true is true file = file_line word line said.plain (same_is first word is) file

-- The name in a line that files a model is its bytes from number 6 on, in one that files a counter machine those from number 8 on, and in one that files a
-- delivery those from number 9 on; in one that merges, those from number 6 on.
pub model_names : (line : List ℕ) → said_by line ≡ Says.Change Model → FileLine model_word line
model_names line e =
    filing_names is_model model_word line (Says.Change Model) refl refl refl
    (λ w ws is. word_down is_model refl w ws refl (λ t. absurd (false≢true (sym is ∙ t))) (λ t. refl) (λ t. refl) (λ t. refl) (λ a. refl))
    says_model e

pub counter_names : (line : List ℕ) → said_by line ≡ Says.Change Counter → FileLine counter_word line
counter_names line e =
    filing_names is_counter counter_word line (Says.Change Counter) refl refl refl
    (λ w ws is. word_down is_counter refl w ws refl (λ t. refl) (λ t. absurd (false≢true (sym is ∙ t))) (λ t. refl) (λ t. refl) (λ a. refl))
    says_counter e

pub delivery_names : (line : List ℕ) → said_by line ≡ Says.Change Delivery → FileLine delivery_word line
delivery_names line e =
    filing_names is_delivery delivery_word line (Says.Change Delivery) refl refl refl
    (λ w ws is. word_down is_delivery refl w ws refl (λ t. refl) (λ t. refl) (λ t. absurd (false≢true (sym is ∙ t))) (λ t. refl) (λ a. refl))
    says_delivery e

pub merge_names : (line : List ℕ) → said_by line ≡ Says.Change Merge → FileLine merge_word line
merge_names line e =
    filing_names is_merge merge_word line (Says.Change Merge) refl refl refl
    (λ w ws is. word_down is_merge refl w ws refl (λ t. refl) (λ t. refl) (λ t. refl) (λ t. absurd (false≢true (sym is ∙ t))) (λ a. refl))
    says_merge e
