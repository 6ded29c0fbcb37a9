-- The offending record and the next record in cases, by document 01's numbers: a model of two whole records and five bytes, a delivery of two and four.
use Rattle.std.specs.Prelude.{ℕ, List, [], ◌∷◌, map, replicate}
use Rattle.parts.specs.declared.record.Kind.TheVariants.{Model, Delivery}
use Rattle.parts.specs.Parts.{bytes_from, nothing, next_after, Offending, in_model, in_delivery, offending_part}

-- A refusal's number and place, and the part that is due.
pub record Case : Type 0 where
  pub number : ℕ
  pub place : ℕ
  pub due : Offending

abbrev pub case : ℕ → ℕ → Offending → Case
case n i x = record { number = n; place = i; due = x }

abbrev pub found : Case → Offending
found c = offending_part c.number c.place (replicate 25 0) (replicate 20 0)

abbrev pub due_to : Case → Offending
due_to c = c.due

-- 10 and 15; 11 to 14 with the last whole record and the one after it; 21 to 27 likewise; and other numbers.
abbrev pub cases : List Case
cases =
    case 10 0 (in_model nothing)
    ∷ case 15 1 (in_model nothing)
    ∷ case 11 0 (in_model (bytes_from 0 10))
    ∷ case 12 1 (in_model (bytes_from 10 10))
    ∷ case 13 1 (in_model (bytes_from 10 10))
    ∷ case 14 1 (in_model (bytes_from 10 10))
    ∷ case 14 2 (in_delivery nothing)
    ∷ case 21 0 (in_delivery (bytes_from 0 8))
    ∷ case 22 1 (in_delivery (bytes_from 8 8))
    ∷ case 23 1 (in_delivery (bytes_from 8 8))
    ∷ case 24 1 (in_delivery (bytes_from 8 8))
    ∷ case 25 1 (in_delivery (bytes_from 8 8))
    ∷ case 26 1 (in_delivery (bytes_from 8 8))
    ∷ case 27 1 (in_delivery (bytes_from 8 8))
    ∷ case 27 2 (in_delivery nothing)
    ∷ case 0 0 (in_delivery nothing)
    ∷ case 9 0 (in_delivery nothing)
    ∷ case 16 0 (in_delivery nothing)
    ∷ case 20 0 (in_delivery nothing)
    ∷ case 28 0 (in_delivery nothing)
    ∷ case 40 0 (in_delivery nothing)
    ∷ case 44 0 (in_delivery nothing)
    ∷ case 45 0 (in_delivery nothing)
    ∷ []

-- The numbers after record 0, 1, 2 and 3 of a model of 25 bytes and of a delivery of 20: a walk stays at its end.
abbrev pub model_walk : List ℕ
model_walk = map (next_after Model (replicate 25 0)) (0 ∷ 1 ∷ 2 ∷ 3 ∷ [])

abbrev pub delivery_walk : List ℕ
delivery_walk = map (next_after Delivery (replicate 20 0)) (0 ∷ 1 ∷ 2 ∷ 3 ∷ [])
