-- The request is that of the first offer, and needs a column command where that is a row hit.
use Rattle.std.proofs.Common.{◌≡◌, Bool, true, false, Some, refl, sym, ap, ◌∙◌}
use Rattle.std.specs.Prelude.{ℕ, List, is_some, option_and_then, option_map, slice_get}
use Rattle.sim_base.specs.Scheduling.{needed}
use Rattle.sim_base.specs.declared.config.Config.{Config}
use Rattle.sim_base.specs.declared.command.IssuedCommand.{IssuedCommand}
use Rattle.queue.specs.Log.{all_requests}
use Rattle.queue.specs.declared.request_log.Arrived.{Arrived}
use Rattle.channel_step.specs.FrFcfs.Choices.{command_of, need_of, needed_if}
use Rattle.channel_step.specs.Queued.{request_at}
use Rattle.channel_step.proofs.FrFcfs.Legal.{needed_so}
use Rattle.channel_step.proofs.Foreseen.{request-some}
use Rattle.channel_step.proofs.fr_fcfs.choice.next_of_requests.Goals as goal

asked : (s : Config) (history : List IssuedCommand) (log : List Arrived) (hit : Bool) (place : ℕ)
    → command_of s history log (need_of hit place) ≡ option_and_then (needed_if hit history) (slice_get (all_requests log) place)
asked s history log true place = refl
asked s history log false place = refl

pub need_of-requires : goal.need_of-requires
need_of-requires c = c.in-Some.ensures.short

pub returns-in-Some-clause-next : goal.returns-in-Some-clause-next
returns-in-Some-clause-next c s history banks bank_candidates high =
    let offer = c.in-Some.offer in
    let log = c.args.queue.now.log in
    let r = request_at log offer.place in
    let first = c.in-Some.ensures.first s history banks bank_candidates high in
    let there = request-some offer.place log c.in-Some.ensures.within in
    let is : command_of s history log c.need_of.result ≡ Some (needed history r) =
    ap (command_of s history log) c.need_of.ensures
    ∙ asked s history log offer.hit offer.place
    ∙ ap (option_and_then (needed_if offer.hit history)) there
    ∙ needed_so offer.hit history r (first.hit_is r there) in
    record {
      from_now = first.from_now;
      then_is = first.then_is ∙ ap (option_map (needed history)) there ∙ sym is;
      there_is = ap is_some is;
      none_before = first.none_before;
    }
