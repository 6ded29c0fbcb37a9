-- Chances of very short runs (request A.1): "the exact chance that a routine returns through an exit within n steps, for n from 0 to 3, as a whole
-- number over 65,536^n". It is the chance over runs of crate ppda.
use Rattle.std.specs.Prelude.{ℕ, Bool, leb}

-- The most steps that may be asked for.
abbrev pub most_steps : ℕ
most_steps = 3

-- Whether so many steps may be asked for; if not, the answer is 45.
unfoldable pub few_steps : ℕ → Bool
few_steps n = leb n most_steps
