-- The pieces of a text that grows at its end.
use Prim.Native.Nat.{ℕ}
use mathlib.Core.Bool.{Bool, true, false, cond}
use mathlib.Core.List.{List, [], ◌∷◌, ◌++◌, append-nil, append_assoc}
use mathlib.Core.Path.{◌≡◌, refl, sym, ap, ◌∙◌}
use lib.Dec.{eqb}
use Rattle.text.specs.Reading.{in_front, pieces}

-- Two lists of pieces, whose last and first are one.
abbrev joined : List (List ℕ) → List (List ℕ) → List (List ℕ)
joined [] qs = qs
joined (p ∷ []) [] = p ∷ []
joined (p ∷ []) (q ∷ qs) = (p ++ q) ∷ qs
joined (p ∷ o ∷ ps) qs = p ∷ joined (o ∷ ps) qs

-- A text has a first piece.
abbrev first_of : List (List ℕ) → List ℕ
first_of [] = []
first_of (p ∷ ps) = p

abbrev others_of : List (List ℕ) → List (List ℕ)
others_of [] = []
others_of (p ∷ ps) = ps

some_piece : (c : ℕ) (l : List ℕ) → pieces c l ≡ first_of (pieces c l) ∷ others_of (pieces c l)
unfolding pieces
some_piece c [] = refl
some_piece c (x ∷ xs) = go (eqb x c) (some_piece c xs)
  where
    go : (t : Bool) → pieces c xs ≡ first_of (pieces c xs) ∷ others_of (pieces c xs)
        → cond t ([] ∷ pieces c xs) (in_front x (pieces c xs))
        ≡ first_of (cond t ([] ∷ pieces c xs) (in_front x (pieces c xs))) ∷ others_of (cond t ([] ∷ pieces c xs) (in_front x (pieces c xs)))
    go true is = refl
    go false is = rw is

joined_empty : (p : List ℕ) (ps : List (List ℕ)) → joined ([] ∷ []) (p ∷ ps) ≡ p ∷ ps
joined_empty p ps = refl

front_joined : (x : ℕ) (p : List ℕ) (ps qs : List (List ℕ)) → in_front x (joined (p ∷ ps) qs) ≡ joined (in_front x (p ∷ ps)) qs
front_joined x p [] [] = refl
front_joined x p [] (q ∷ qs) = refl
front_joined x p (o ∷ ps) qs = refl

-- The pieces of a text and then of another.
pub pieces_append : (c : ℕ) (l k : List ℕ) → pieces c (l ++ k) ≡ joined (pieces c l) (pieces c k)
unfolding pieces
pieces_append c [] k = rw (some_piece c k)
pieces_append c (x ∷ xs) k = go (eqb x c) (pieces_append c xs k) (some_piece c xs)
  where
    go : (t : Bool) → pieces c (xs ++ k) ≡ joined (pieces c xs) (pieces c k)
        → pieces c xs ≡ first_of (pieces c xs) ∷ others_of (pieces c xs)
        → cond t ([] ∷ pieces c (xs ++ k)) (in_front x (pieces c (xs ++ k))) ≡ joined (cond t ([] ∷ pieces c xs) (in_front x (pieces c xs))) (pieces c k)
    go true is some = rw (is, some)
    go false is some = rw is (rw some (front_joined x (first_of (pieces c xs)) (others_of (pieces c xs)) (pieces c k)))

joined_last : (ps : List (List ℕ)) (r q : List ℕ) (qs : List (List ℕ)) → joined (ps ++ (r ∷ [])) (q ∷ qs) ≡ ps ++ ((r ++ q) ∷ qs)
joined_last [] r q qs = refl
joined_last (p ∷ []) r q qs = refl
joined_last (p ∷ o ∷ ps) r q qs = ap (λ l. p ∷ l) (joined_last (o ∷ ps) r q qs)

module _ (c : ℕ) (l : List ℕ) (ps : List (List ℕ)) (r : List ℕ) (are : pieces c l ≡ ps ++ (r ∷ [])) where
  -- One byte more that is not c makes the last piece longer; c begins an empty one.
  pub piece_longer : (b : ℕ) → eqb b c ≡ false → pieces c (l ++ (b ∷ [])) ≡ ps ++ ((r ++ (b ∷ [])) ∷ [])
  unfolding pieces
  piece_longer b other = pieces_append c l (b ∷ []) ∙ rw (are, other) (joined_last ps r (b ∷ []) [])

  pub piece_ended : (b : ℕ) → eqb b c ≡ true → pieces c (l ++ (b ∷ [])) ≡ (ps ++ (r ∷ [])) ++ ([] ∷ [])
  unfolding pieces
  piece_ended b same =
      pieces_append c l (b ∷ [])
      ∙ rw (are, same) (joined_last ps r [] ([] ∷ []) ∙ ap (λ q. ps ++ (q ∷ [] ∷ [])) (append-nil r) ∙ sym (append_assoc ps (r ∷ []) ([] ∷ [])))

-- A text with c at its end has one empty piece more.
pub pieces_closed : (c : ℕ) (l : List ℕ) → eqb c c ≡ true → pieces c (l ++ (c ∷ [])) ≡ pieces c l ++ ([] ∷ [])
unfolding pieces
pieces_closed c [] same = rw same
pieces_closed c (x ∷ xs) same = go (eqb x c) (pieces_closed c xs same) (some_piece c xs)
  where
    go : (t : Bool) → pieces c (xs ++ (c ∷ [])) ≡ pieces c xs ++ ([] ∷ []) → pieces c xs ≡ first_of (pieces c xs) ∷ others_of (pieces c xs)
        → cond t ([] ∷ pieces c (xs ++ (c ∷ []))) (in_front x (pieces c (xs ++ (c ∷ [])))) ≡ cond t ([] ∷ pieces c xs) (in_front x (pieces c xs)) ++ ([] ∷ [])
    go true is some = rw is
    go false is some = rw is (rw some)

-- Two lists that are the same with one element more each are the same.
abbrev without_last : List (List ℕ) → List (List ℕ)
without_last [] = []
without_last (p ∷ []) = []
without_last (p ∷ o ∷ ps) = p ∷ without_last (o ∷ ps)

without_last_lem : (ps : List (List ℕ)) (r : List ℕ) → without_last (ps ++ (r ∷ [])) ≡ ps
without_last_lem [] r = refl
without_last_lem (p ∷ []) r = refl
without_last_lem (p ∷ o ∷ ps) r = ap (λ l. p ∷ l) (without_last_lem (o ∷ ps) r)

pub last_off : (ps qs : List (List ℕ)) (r q : List ℕ) → ps ++ (r ∷ []) ≡ qs ++ (q ∷ []) → ps ≡ qs
last_off ps qs r q same = sym (without_last_lem ps r) ∙ ap without_last same ∙ without_last_lem qs q
