-- The table of records by their bytes holds, read and made, by computation.
use mathlib.Core.List.{[], ◌∷◌, ◌++◌, map}
use mathlib.Core.Path.{◌≡◌, refl}
use Rattle.words.specs.Words.{word_at}
use Rattle.delivery.specs.Records.{byte_of, value_at}
use Rattle.delivery.specs.Made.{delivery_record}
use Rattle.delivery.specs.Edges.{records_file, fields_at, fields_said, shapes_merged, merged_as, shape_made}

pub fields_read : map (fields_at records_file) (0 ∷ 1 ∷ 2 ∷ []) ≡ fields_said
unfolding byte_of value_at word_at
fields_read = refl

pub records_made : delivery_record 85 2 9 5 67567875 ++ (delivery_record 76 6 0 3 67240200 ++ delivery_record 82 7 8 0 100731141) ≡ records_file
records_made = refl

-- The merged shapes.
pub shapes_merged_lem : map merged_as shapes_merged ≡ map shape_made shapes_merged
shapes_merged_lem = refl
