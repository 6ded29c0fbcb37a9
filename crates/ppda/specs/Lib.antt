-- What a reader must believe, in the order of document 01: units, rules, runs, the chances and means summed over runs,
-- the equations, live entries, the margin, what a certificate claims and is promised, and merging two; model W, and rules of which sides are worked out. Nothing here
-- knows bytes.
pub mod Units
pub mod Rules
pub mod Runs
pub mod Chances
pub mod Equations
pub mod Live
pub mod Margin
pub mod Bounds
pub mod Merging
pub mod W
pub mod Edges
