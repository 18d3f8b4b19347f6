use Rattle.std.proofs.Common.{ℕ, ◌<◌}
use Rattle.page.specs.Rows.{IsOfRunAt}
use Rattle.page.proofs.rows.first_stranger.Given as goal

-- each command so far is of the run
abbrev pub invariant-rows : goal.invariant-rows
invariant-rows l = (place : ℕ) → place < l.place → IsOfRunAt l.stats l.commands place
