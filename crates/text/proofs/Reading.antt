-- What is written is read back: a line's words are those it was made of, and a decimal says its number.
use Prim.Native.Nat.{ℕ, zero, suc, ◌+◌, ◌-◌, ◌*◌, ◌/◌, ◌%◌, ◌^◌, ◌<◌}
use native.Mathlib.Nat.{pow-succ'}
use native.Mathlib.Omega.{arith}
use mathlib.Core.Bool.{Bool, true, false, cond, not, ◌&&◌, and-eq-true_iff}
use mathlib.Core.List.{List, [], ◌∷◌, ◌++◌, map, append-nil, append_assoc}
use mathlib.Core.Logic.{◌⊎◌, inl, inr}
use mathlib.Core.Path.{◌≡◌, refl, sym, ap, ◌∙◌}
use lib.Dec.{eqb, ltb}
use borrow.Author.Tests.{ne_eqb, not-true}
use Rattle.walks.specs.Lists.{each}
use Rattle.walks.specs.Sums.{In}
use Rattle.text.specs.Decimal.{digits_to, decimal}
use Rattle.text.specs.Texts.{fields}
use Rattle.text.specs.Reading.{pieces, words_in, number_after, number_in}

-- ---- words of a line

-- No byte of the text is c.
abbrev pub Without : ℕ → List ℕ → Type 0
Without c [] = Unit {0}
Without c (x ∷ xs) = (eqb x c ≡ false) × Without c xs

pub without_append : (c : ℕ) (xs ys : List ℕ) → Without c xs → Without c ys → Without c (xs ++ ys)
without_append c [] ys f g = g
without_append c (x ∷ xs) ys f g = (f.0, without_append c xs ys f.1 g)

-- A text without c is one piece, and one before a c is the first piece.
piece_whole : (c : ℕ) (xs : List ℕ) → Without c xs → pieces c xs ≡ xs ∷ []
unfolding pieces
piece_whole c [] f = refl
piece_whole c (x ∷ xs) f = rw (f.0, piece_whole c xs f.1)

piece_first : (c : ℕ) (xs ys : List ℕ) → Without c xs → eqb c c ≡ true → pieces c (xs ++ (c ∷ ys)) ≡ xs ∷ pieces c ys
unfolding pieces
piece_first c [] ys f same = rw same
piece_first c (x ∷ xs) ys f same = rw (f.0, piece_first c xs ys f.1 same)

-- A word of a line: it has no space and no line end.
pub record Word (x : List ℕ) : Type 0 where
  pub space : Without 32 x
  pub end : Without 10 x

-- By a test, for words that are written out.
abbrev lacks : ℕ → List ℕ → Bool
lacks c [] = true
lacks c (x ∷ xs) = not (eqb x c) && lacks c xs

lacks_exactly : (c : ℕ) (xs : List ℕ) → lacks c xs ≡ true → Without c xs
lacks_exactly c [] e = tt
lacks_exactly c (x ∷ xs) e = let (apart, rest) = (and-eq-true_iff (not (eqb x c)) (lacks c xs)).0 e in (not-true (eqb x c) apart, lacks_exactly c xs rest)

pub word_tested : (x : List ℕ) → (lacks 32 x && lacks 10 x) ≡ true → Word x
word_tested x e =
    let (space, end) = (and-eq-true_iff (lacks 32 x) (lacks 10 x)).0 e in
    record { space = lacks_exactly 32 x space; end = lacks_exactly 10 x end }

abbrev pub Words : List (List ℕ) → Type 0
Words [] = Unit {0}
Words (x ∷ xs) = Word x × Words xs

-- A line without its end.
abbrev body : List (List ℕ) → List ℕ
body [] = []
body (x ∷ xs) = 32 ∷ (x ++ body xs)

fields_body : (xs : List (List ℕ)) → fields xs ≡ body xs ++ (10 ∷ [])
fields_body [] = refl
fields_body (x ∷ xs) = ap (λ l. 32 ∷ l) (ap (λ l. x ++ l) (fields_body xs) ∙ sym (append_assoc x (body xs) (10 ∷ [])))

body_end : (xs : List (List ℕ)) → Words xs → Without 10 (body xs)
body_end [] ws = tt
body_end (x ∷ xs) ws = (refl, without_append 10 x (body xs) ws.0.end (body_end xs ws.1))

body_words : (w : List ℕ) (xs : List (List ℕ)) → Word w → Words xs → pieces 32 (w ++ body xs) ≡ w ∷ xs
body_words w [] is ws = rw (append-nil w) (piece_whole 32 w is.space)
body_words w (x ∷ xs) is ws = piece_first 32 w (x ++ body xs) is.space refl ∙ ap (λ l. w ∷ l) (body_words x xs ws.0 ws.1)

-- The words of a text that begins with a line are those of the line, and then those of the rest.
pub words_of_line : (w : List ℕ) (xs : List (List ℕ)) (rest : List ℕ) → Word w → Words xs
    → words_in ((w ++ fields xs) ++ rest) ≡ (w ∷ xs) ∷ words_in rest
unfolding words_in
words_of_line w xs rest is ws =
    rw (as_line, piece_first 10 (w ++ body xs) rest (without_append 10 w (body xs) is.end (body_end xs ws)) refl)
    (ap (λ l. l ∷ map (pieces 32) (pieces 10 rest)) (body_words w xs is ws))
  where
    as_line : (w ++ fields xs) ++ rest ≡ (w ++ body xs) ++ (10 ∷ rest)
    as_line =
        ap (λ l. (w ++ l) ++ rest) (fields_body xs)
        ∙ ap (λ l. l ++ rest) (sym (append_assoc w (body xs) (10 ∷ [])))
        ∙ append_assoc (w ++ body xs) (10 ∷ []) rest

-- A text with no line has one empty word.
pub words_of_nothing : (x : List (List ℕ)) → In x (words_in []) → x ≡ [] ∷ []
unfolding words_in pieces
words_of_nothing x (inr i) = elim i [ ]
words_of_nothing x (inl e) = e

-- The words of texts one after the other are those of one of them, or of what follows. `Of e x` says that x are the words of text number e.
pub words_of_each : (n : ℕ) (h : ℕ → List ℕ) (Of : ℕ → List (List ℕ) → Type 0) (x : List (List ℕ)) (rest : List ℕ)
    → ((e : ℕ) → e < n → (more : List ℕ) → In x (words_in (h e ++ more)) → Of e x ⊎ In x (words_in more))
    → In x (words_in (each n h ++ rest)) → ((e : ℕ) × (e < n) × Of e x) ⊎ In x (words_in rest)
unfolding each
words_of_each zero h Of x rest one i = inr i
words_of_each (suc n) h Of x rest one i =
    go (words_of_each n h Of x (h n ++ rest) (λ e l. one e (omega arith)) (rw (append_assoc (each n h) (h n) rest) at i)) (one n (omega arith) rest)
  where
    last : Of n x ⊎ In x (words_in rest) → ((e : ℕ) × (e < suc n) × Of e x) ⊎ In x (words_in rest)
    last (inl of) = inl (n, omega arith, of)
    last (inr i) = inr i

    go : ((e : ℕ) × (e < n) × Of e x) ⊎ In x (words_in (h n ++ rest)) → (In x (words_in (h n ++ rest)) → Of n x ⊎ In x (words_in rest))
        → ((e : ℕ) × (e < suc n) × Of e x) ⊎ In x (words_in rest)
    go (inl (e, l, of)) f = inl (e, omega arith, of)
    go (inr i) f = last (f i)

-- ---- numbers

digit_apart : (c d : ℕ) → c < 48 → eqb (48 + d) c ≡ false
digit_apart c d l = ne_eqb (48 + d) c (λ e. omega arith)

digits_without : (k n c : ℕ) → c < 48 → Without c (digits_to k n)
unfolding digits_to
digits_without zero n c l = tt
digits_without (suc k) n c l = go (ltb n 10) (digits_without k (n / 10) c l)
  where
    go : (t : Bool) → Without c (digits_to k (n / 10)) → Without c (cond t ((48 + n) ∷ []) (digits_to k (n / 10) ++ ((48 + n % 10) ∷ [])))
    go true ih = (digit_apart c n l, tt)
    go false ih = without_append c (digits_to k (n / 10)) _ ih (digit_apart c (n % 10) l, tt)

pub decimal_word : (n : ℕ) → Word (decimal n)
unfolding decimal
decimal_word n = record { space = digits_without 20 n 32 (omega arith); end = digits_without 20 n 10 (omega arith) }

number_append : (n : ℕ) (ds es : List ℕ) → number_after n (ds ++ es) ≡ number_after (number_after n ds) es
unfolding number_after
number_append n [] es = refl
number_append n (d ∷ ds) es = number_append (n * 10 + (d - 48)) ds es

digits_number : (k n : ℕ) → n < 10 ^ k → number_after 0 (digits_to k n) ≡ n
unfolding digits_to number_after
digits_number zero n l = omega arith
digits_number (suc k) n l = go (ltb n 10) refl (digits_number k (n / 10) (let m : n < 10 * 10 ^ k = rw pow-succ' at l in omega arith))
  where
    go : (t : Bool) → ltb n 10 ≡ t → number_after 0 (digits_to k (n / 10)) ≡ n / 10
        → number_after 0 (cond t ((48 + n) ∷ []) (digits_to k (n / 10) ++ ((48 + n % 10) ∷ []))) ≡ n
    go true e ih = omega arith
    go false e ih = number_append 0 (digits_to k (n / 10)) ((48 + n % 10) ∷ []) ∙ rw ih (omega arith)

pub decimal_number : (n : ℕ) → n < 10 ^ 20 → number_in (decimal n) ≡ n
unfolding decimal number_in
decimal_number n l = digits_number 20 n l
