use Rattle.std.proofs.Common.{◌≡◌, true, List}
use Rattle.std.specs.List.{AllWithin}
use Rattle.sim_base.specs.declared.config.Config.{Config}
use Rattle.sim_base.specs.declared.command.IssuedCommand.{IssuedCommand}
use Rattle.bank_ready.specs.Stands.{StandsFor as BanksStandFor}
use Rattle.queue.specs.Log.{all_requests}
use Rattle.channel_step.specs.FrFcfs.Arrivals.{ComesAfter}
use Rattle.channel_step.specs.FrFcfs.Offers.{is_of}
use Rattle.channel_step.specs.FrFcfs.Requests.{KnowsRows}
use Rattle.channel_step.proofs.fr_fcfs.arrivals.none_goes_before.Given as goal

-- the requests so far come after
abbrev pub invariant-loop-place : goal.invariant-loop-place
invariant-loop-place l =
    (s : Config) (history : List IssuedCommand) → BanksStandFor l.banks s history → KnowsRows l.bank_candidates history → AllWithin (λ r. is_of l.fn.before.accesses r ≡ true → ComesAfter s history l.cycle l.hit r) (all_requests l.log) l.fn.before.places l.place
