use Rattle.std.proofs.Common.{◌≡◌, ℕ, Option, sym, ap, subst, ◌∙◌}
use Rattle.sim_base.specs.History.{issued_commands}
use Rattle.sim_base.specs.Rules.{open_row}
use Rattle.queue.specs.Log.{waiting, LogView}
use Rattle.queue.specs.declared.bank_candidates.all_banks.BankCandidates.{BankCandidates}
use Rattle.sim_base.specs.Places.{bank_at}
use Rattle.queue.specs.Stands.{bank_count, StandsFor as CandidatesStandFor}
use Rattle.channel_step.specs.Past.{past_of}
use Rattle.channel_step.specs.Channels.{StandsFor}
use Rattle.channel_step.specs.declared.channel.Channel.{Channel}
use Rattle.channel_step.specs.declared.next_command.NextCommand.TheVariants.{Unknown}
use Rattle.channel_step.proofs.Renewing.{renewed-stands}
use Rattle.channel_step.proofs.channel.Channel.renew.Goals as goal

pub returns-clause-stands : goal.returns-clause-stands
returns-clause-stands c d e s channel steps mail h =
    let rows : ℕ → Option ℕ = λ n. open_row (bank_at n) (issued_commands channel steps) in
    let log : c.log.result.now.log ≡ waiting d.queue.log = ap (λ (v : LogView). v.log) c.log.ensures ∙ ap (λ (y : Channel). y.queue.log) e in
    let old = subst (λ (b : BankCandidates). CandidatesStandFor b d.queue.log rows) (sym (ap (λ (y : Channel). y.bank_candidates) e)) h.candidates_stand in
    let stands = subst (λ l. CandidatesStandFor c.renew.new.self l rows) log (c.renew.ensures.stands d.queue.log rows log old) in
    subst (λ (y : Channel). StandsFor (record y { bank_candidates = c.renew.new.self; next_command = Unknown }) s channel steps mail) (sym e)
    (renewed-stands d (past_of s channel steps mail) c.renew.new.self h (c.renew.ensures.banks ∙ ap (λ (y : Channel). bank_count y.bank_candidates) e) stands)
