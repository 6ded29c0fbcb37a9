-- A delivery with its model (the field's term is certificate): the margin, the shape that is shown, mission point 3 for files, and tables of
-- edges. `Clauses` serves the contracts of the code alone.
pub mod Margin
pub mod Shown
pub mod Promised
pub mod Edges
pub mod Clauses
