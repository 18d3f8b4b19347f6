-- How long units may run alone.
--     IsShortest s span      no message travels for fewer cycles than `span`, and some message for exactly that many
--     EndsAt s now limit until      a phase that begins in cycle `now` ends before `until`
use Rattle.std.specs.Prelude.{◌≡◌, ℕ, ◌+◌, ◌*◌, ◌<◌, min}
use Rattle.sim_base.specs.declared.config.Config.{Config}
use Rattle.sim_base.specs.Config.{latency}
use Rattle.sim_base.specs.Locality.{TravelsFor}

-- no message travels for fewer than `span` cycles, and on some link a message travels for exactly that many
pub record IsShortest (s : Config) (span : ℕ) : Type 0 where
  pub meets : TravelsFor s span
  pub link : ℕ
  pub exists : link < 3 * s.cores * s.channels
  pub attained : latency s link ≡ span

-- a phase that begins in `now` takes as many cycles as the shortest latency, or those that are left before the limit
pub record EndsAt (s : Config) (now limit until : ℕ) : Type 0 where
  pub span : ℕ
  pub shortest : IsShortest s span
  pub until_is : until ≡ min (now + span) limit
