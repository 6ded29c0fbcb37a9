-- The mark of an accepted delivery ("known" and "new" are document 01's terms, "Filing and questions"; what is known is request A.3's), by what is held.
use Rattle.std.specs.Prelude.{ℕ, Bool, cond, ◌&&◌, List, eqb, get_or, Option}
use Rattle.walks.specs.Sums.{all_to}
use Rattle.walks.specs.Order.{entries_in, rows_in}
use Rattle.delivery.specs.declared.shape.Shape.{Shape}
use Rattle.held.specs.declared.Numbers.{Numbers}
use Rattle.held.specs.Held.{is_held_as}
use Rattle.calls.specs.declared.Mark.{Mark}
use Rattle.calls.specs.declared.Mark.TheVariants.{Known, New}

-- Whether two lists have the same first n numbers.
unfoldable pub same_to : ℕ → List ℕ → List ℕ → Bool
same_to n l k = all_to (λ e. eqb (get_or l e 0) (get_or k e 0)) n

-- Whether two deliveries for a model with s states and g symbols have the same numbers: uppers and lowers of the entries, mean steps of the rows. Numbers of
-- a block that a delivery does not have are 0.
unfoldable pub same_numbers : ℕ → ℕ → Numbers → Numbers → Bool
same_numbers s g former numbers =
    same_to (entries_in s g) former.uppers numbers.uppers
    && same_to (entries_in s g) former.lowers numbers.lowers
    && same_to (rows_in s g) former.means numbers.means

-- The mark of a delivery of shape h with these numbers: known where one of the same shape was held, with the same numbers, else new (request A.3).
unfoldable pub mark_by : ℕ → ℕ → Option Shape → Numbers → Shape → Numbers → Mark
mark_by s g held former h numbers = cond (is_held_as held h && same_numbers s g former numbers) Known New
