-- The verdict on a delivery with its model (document 01, "Reasons found in the files"): the tests 10 to 27 in their order, what acceptance comes
-- to in plain words, and the live marks that are shown of a model, by the verdict on it.
pub mod Verdict
pub mod Accepted
pub mod Marks
