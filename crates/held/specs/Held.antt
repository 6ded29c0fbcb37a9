-- What the register holds, as values: document 01's model and delivery, the delivery's shape beside its numbers ("Deliveries").
use Rattle.std.specs.Prelude.{ℕ, Bool, true, false, cond, ◌&&◌, List, ltb, leb, length, get_or, replicate, Option, Some, None}
use Rattle.ppda.specs.Equations.{Vector, RowVector}
use Rattle.model.specs.Format.{most_bytes, most_entries}
use Rattle.model.specs.Records.{states_of, symbols_of}
use Rattle.walks.specs.Lists.{list_to}
use Rattle.delivery.specs.declared.shape.Shape.{Shape}
use Rattle.delivery.specs.declared.shape.Shape.TheVariants.{U}
use Rattle.delivery.specs.Shapes.{has_lowers, has_means, same_shape}
use Rattle.walks.specs.Order.{entries_in, rows_in, by_row, by_entry, by_exit}
use Rattle.delivery.specs.Numbers.{uppers_of, lowers_of, means_of}
use Rattle.verdict.specs.Marks.{live_mark}
use Rattle.certificate.specs.Margin.{margin_of}
use Rattle.held.specs.declared.HeldModel.{HeldModel}
use Rattle.held.specs.declared.Numbers.{Numbers}

-- The first n numbers of a list with a place for each entry that there may be are h 0, h 1, …, and the others 0.
unfoldable pub padded : (ℕ → ℕ) → ℕ → List ℕ
padded h n = list_to (λ e. cond (ltb e n) (h e) 0) most_entries

-- A vector in the order of files, as the register holds live marks.
abbrev pub listed : ℕ → ℕ → Vector → List ℕ
listed s g v = padded (by_entry s g v) (entries_in s g)

-- A vector by exit, in the order (q, p, z), as the register holds uppers and lowers (request A.6).
abbrev pub listed_by_exit : ℕ → ℕ → Vector → List ℕ
listed_by_exit s g v = padded (by_exit s g v) (entries_in s g)

-- Numbers of rows as the register holds them.
abbrev pub listed_rows : ℕ → ℕ → RowVector → List ℕ
listed_rows s g r = padded (by_row g r) (rows_in s g)

-- The bytes of a file as the register holds them: in the first of n places, and 0 after them.
unfoldable pub filled : ℕ → List ℕ → List ℕ
filled n b = list_to (λ i. get_or b i 0) n

-- No model and no numbers.
unfoldable pub no_model : HeldModel
no_model = record { bytes = replicate most_bytes 0; length = 0; states = 0; symbols = 0; live = replicate most_entries 0 }

unfoldable pub no_numbers : Numbers
no_numbers = record { uppers = replicate most_entries 0; lowers = replicate most_entries 0; means = replicate most_entries 0; margin = 0 }

-- The model of the file b.
unfoldable pub model_held : List ℕ → HeldModel
model_held b =
    record {
      bytes = filled most_bytes b;
      length = length b;
      states = states_of b;
      symbols = symbols_of b;
      live = listed (states_of b) (symbols_of b) (live_mark b);
    }

-- The numbers of a block that may be absent.
abbrev pub if_standing : Bool → List ℕ → List ℕ
if_standing t l = cond t l (replicate most_entries 0)

-- The numbers of the delivery d, of shape h, for the model b: uppers and lowers by exit, mean steps in the order of files.
unfoldable pub numbers_held : List ℕ → Shape → List ℕ → Numbers
numbers_held b h d =
    record {
      uppers = listed_by_exit (states_of b) (symbols_of b) (uppers_of (states_of b) (symbols_of b) d);
      lowers = if_standing (has_lowers h) (listed_by_exit (states_of b) (symbols_of b) (lowers_of (states_of b) (symbols_of b) d));
      means = if_standing (has_means h) (listed_rows (states_of b) (symbols_of b) (means_of (states_of b) (symbols_of b) h d));
      margin = cond (has_lowers h) (margin_of b d) 0;
    }

-- A model is held where its file has a byte, and no more than the longest that can be accepted.
unfoldable pub holds_model : ℕ → Bool
holds_model n = ltb 0 n && leb n most_bytes

-- Whether a delivery is held.
abbrev pub is_held : Option Shape → Bool
is_held None = false
is_held (Some h) = true

-- Its shape, where one is held.
abbrev pub shape_held : Option Shape → Shape
shape_held None = U
shape_held (Some h) = h

-- Whether one of shape k is held, one with lowers, one with mean steps.
abbrev pub is_held_as : Option Shape → Shape → Bool
is_held_as None k = false
is_held_as (Some h) k = same_shape h k

abbrev pub lowers_stand : Option Shape → Bool
lowers_stand None = false
lowers_stand (Some h) = has_lowers h

abbrev pub means_stand : Option Shape → Bool
means_stand None = false
means_stand (Some h) = has_means h

-- The shape of an accepted delivery, which is never unknown.
abbrev pub shape_as : Option Shape → Shape
shape_as (Some h) = h
shape_as None = U
