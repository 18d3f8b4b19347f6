-- What the requests that a channel served add up to.
--     AreCounted arrivals history      its reads, its writes and its hits are those of its statistics
use Rattle.std.specs.Prelude.{◌≡◌, ℕ, List, count_by}
use Rattle.sim_base.specs.Access.{is_access}
use Rattle.sim_base.specs.Counts.{issued_of_kind, hits}
use Rattle.sim_base.specs.declared.message.Access.TheVariants as access
use Rattle.sim_base.specs.declared.command.IssuedCommand.{IssuedCommand}
use Rattle.sim_base.specs.declared.command.Kind.TheVariants as kind
use Rattle.sim_base.specs.declared.command.Source.{Source}
use Rattle.request_table.specs.Served.{served_requests}

-- there are as many reads, writes and hits among them as the statistics of the channel say
pub record AreCounted (arrivals : Source → ℕ) (history : List IssuedCommand) : Type 0 where
  pub reads : count_by (λ r. is_access access.Read r.access) (served_requests arrivals history)
      ≡ issued_of_kind kind.Rd history
  pub writes : count_by (λ r. is_access access.Write r.access) (served_requests arrivals history)
      ≡ issued_of_kind kind.Wr history
  pub hits : count_by (λ r. r.hit) (served_requests arrivals history) ≡ hits history
