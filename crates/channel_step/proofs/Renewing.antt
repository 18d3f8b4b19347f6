-- A channel whose log has been renumbered.
use Rattle.std.proofs.Common.{◌≡◌, List, length, map, sym, ap, ◌∙◌, arith}
use Rattle.queue.specs.declared.request_log.Arrived.{Arrived}
use Rattle.queue.specs.Log.{waiting, waiting_requests}
use Rattle.queue.proofs.Renumbered.{waiting_twice}
use Rattle.queue.specs.declared.bank_candidates.all_banks.BankCandidates.{BankCandidates}
use Rattle.queue.specs.Stands.{bank_count}
use Rattle.channel_step.specs.FrFcfs.Requests.{IsInBanks}
use Rattle.channel_step.specs.Past.{Past, commands_after}
use Rattle.channel_step.specs.Stands.{activated_of}
use Rattle.channel_step.specs.Channels.{CandidatesStand, HasPast}
use Rattle.channel_step.specs.declared.next_command.NextCommand.TheVariants.{Unknown}
use Rattle.channel_step.specs.declared.channel.Channel.{Channel}
use Rattle.channel_step.proofs.Foreseen.{foreseen-unknown}
use Rattle.channel_step.proofs.Leaving.{waits-all}

-- the same requests wait in a log that has been renumbered
pub waiting-same : (log : List Arrived) → waiting_requests (waiting log) ≡ waiting_requests log
waiting-same log = ap (map (λ (a : Arrived). a.request)) (waiting_twice log)

-- a channel whose log has been renumbered stands for the same past
pub renewed-stands : (c : Channel) (past : Past) (bank_candidates : BankCandidates) → HasPast c past
    → bank_count bank_candidates ≡ bank_count c.bank_candidates → CandidatesStand bank_candidates (waiting c.queue.log) (commands_after past)
    → HasPast (record c { queue = record c.queue { log = waiting c.queue.log }; bank_candidates = bank_candidates; next_command = Unknown }) past
renewed-stands c past bank_candidates h count stands =
    let history = commands_after past in
    let same = waiting-same c.queue.log in
    let few = h.made_for.within in
    record {
      made_for = record {
        config_is = h.made_for.config_is;
        number_is = h.made_for.number_is;
        high_is = h.made_for.high_is;
        low_is = h.made_for.low_is;
        latencies_are = h.made_for.latencies_are;
        room_is = h.made_for.room_is;
        banks_are = count ∙ h.made_for.banks_are;
        in_banks = waits-all (IsInBanks past.config.ranks) c.queue.log h.made_for.in_banks;
        within = omega (arith, ap length same);
        longest = h.made_for.longest;
      };
      cycle_is = h.cycle_is;
      recalls = record {
        past = h.recalls.past;
        queue_is = same ∙ h.recalls.queue_is;
        drained_is = h.recalls.drained_is;
        activated_are = ap (map (λ (a : Arrived). a.activated)) (waiting_twice c.queue.log) ∙ h.recalls.activated_are ∙ ap (activated_of history) (sym same);
        stats_are = h.recalls.stats_are;
      };
      candidates_stand = stands;
      banks_stand = h.banks_stand;
      refreshes_stand = h.refreshes_stand;
      foresees = foreseen-unknown past.config history (record c.queue { log = waiting c.queue.log }) c.cycle;
      keeps_served = h.keeps_served;
    }
