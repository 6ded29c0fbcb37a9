-- The merged lists from what is held and a file, and the block of records that listed uppers are put into.
use Rattle.std.specs.Prelude.{ℕ, min, max, ◌*◌, ◌≤◌, ◌<◌, ◌&&◌, List, ◌≡◌, length, get_or}
use Rattle.ppda.specs.Units.{most_chance}
use Rattle.model.specs.Format.{most_entries}
use Rattle.delivery.specs.Format.{record_bytes}
use Rattle.walks.specs.Order.{rows_in, entries_in, by_entry}
use Rattle.delivery.specs.declared.shape.Shape.{Shape}
use Rattle.delivery.specs.Records.{value_at}
use Rattle.delivery.specs.Shapes.{has_lowers, has_means}
use Rattle.delivery.specs.Numbers.{uppers_of, lowers_of, means_of}
use Rattle.held.specs.declared.Numbers.{Numbers}
use Rattle.held.specs.Held.{listed_by_exit, listed_rows, if_standing}
use Rattle.held.specs.Places.{entries_by_exit}
use Rattle.merging.specs.Numbers.{kept_to, means_to}

-- Each list, from the held numbers `former` of a delivery of shape h and the file d of shape k, for a model with s states and g symbols.
abbrev pub uppers_merged : ℕ → ℕ → Numbers → List ℕ → List ℕ
uppers_merged s g former d = kept_to min (entries_in s g) former.uppers (listed_by_exit s g (uppers_of s g d))

abbrev pub lowers_merged : ℕ → ℕ → Shape → Numbers → Shape → List ℕ → List ℕ
lowers_merged s g h former k d =
    if_standing (has_lowers h && has_lowers k)
    (kept_to max (entries_in s g) former.lowers (if_standing (has_lowers k) (listed_by_exit s g (lowers_of s g d))))

abbrev pub means_merged : ℕ → ℕ → Shape → Numbers → Shape → List ℕ → List ℕ
means_merged s g h former k d =
    means_to (rows_in s g) (has_means h) (has_means k) former.means (if_standing (has_means k) (listed_rows s g (means_of s g k d)))

-- The list has at each of the first n places what a rule may answer to the numbers of two lists there, and 0 from there on.
pub record KeptBy (answers : ℕ → ℕ → ℕ → Type 0) (n : ℕ) (l k r : List ℕ) : Type 0 where
  pub size : length r ≡ most_entries
  pub kept : (e : ℕ) → e < n → answers (get_or l e 0) (get_or k e 0) (get_or r e 0)
  pub none : (e : ℕ) → n ≤ e → get_or r e 0 ≡ 0

-- No number of the list is above 2.
abbrev pub ChancesListed : List ℕ → Type 0
ChancesListed l = (e : ℕ) → get_or l e 0 ≤ most_chance

-- The bytes of the longest block.
abbrev pub block_bytes : ℕ
block_bytes = record_bytes * most_entries

-- The first n records of the block, in the order of files, have as values the numbers of the list by exit, for s states and g symbols, and the others 0.
pub record Holds (s g : ℕ) (l : List ℕ) (n : ℕ) (block : List ℕ) : Type 0 where
  pub size : length block ≡ block_bytes
  pub value : (e : ℕ) → e < n → value_at block e ≡ by_entry s g (entries_by_exit s g l) e
  pub none : (e : ℕ) → n ≤ e → value_at block e ≡ 0
