-- The order by exit of two states and three symbols, by computation.
use mathlib.Core.List.{[], ◌∷◌}
use mathlib.Core.Path.{◌≡◌, refl}
use Rattle.walks.specs.Lists.{list_to, each}
use Rattle.walks.specs.Order.{exit_place, by_exit, each_entry}
use Rattle.walks.specs.Edges.{as_digits, exits_in_order, places_in_order}

pub exits_in_order_lem : list_to (by_exit 2 3 as_digits) 12 ≡ exits_in_order
unfolding list_to
exits_in_order_lem = refl

pub places_in_order_lem : each_entry 2 3 (λ p z q. exit_place 2 3 p z q ∷ []) ≡ places_in_order
unfolding each_entry each
places_in_order_lem = refl
