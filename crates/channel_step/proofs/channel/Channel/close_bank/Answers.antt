use Rattle.std.proofs.Common.{◌≡◌, ◌<◌, ℕ, false, get_or, Option, Some, None, sym, ap, subst, ◌∙◌}
use Rattle.sim_base.specs.Places.{bank_in, bank_at, number_of_bank}
use Rattle.sim_base.specs.Rules.{open_row}
use Rattle.sim_base.specs.Scheduling.{source_of}
use Rattle.sim_base.specs.declared.place.BankId.{BankId}
use Rattle.sim_base.specs.declared.command.Command.{Command}
use Rattle.sim_base.specs.declared.command.Command.TheVariants.{Pre}
use Rattle.queue.specs.declared.request_log.Arrived.{Arrived}
use Rattle.queue.specs.Log.{absent, LogView}
use Rattle.queue.specs.Stands.{bank_count, with_row, StandsFor as CandidatesStandFor}
use Rattle.channel_step.specs.Past.{commands_after}
use Rattle.channel_step.specs.Queued.{request_at}
use Rattle.bank_ready.specs.Stands.{rank_count, StandsFor as BanksStandFor}
use Rattle.channel_step.specs.Readied.{commands_with, IsReadied}
use Rattle.channel_step.proofs.Readying.{placed-among, placed-rank, noted-at, noted-later, closed-readied}
use Rattle.channel_step.proofs.channel.Channel.close_bank.Goals as goal

pub closed-requires : goal.closed-requires
closed-requires c =
    let p = c.requires.doing in
    let x = c.args.self.now in
    let read : get_or c.log-2.result.now c.args.place absent ≡ get_or x.queue.log c.args.place absent =
    ap (λ l. get_or l c.args.place absent) (c.log-2.ensures.log ∙ ap (λ (v : LogView). v.log) c.log.ensures) in
    subst (λ (b : BankId). number_of_bank b < bank_count x.bank_candidates) (sym (c.bank_id-bank.ensures ∙ ap (λ (a : Arrived). bank_in a.request.place) read))
    (placed-among x p.past c.args.place p.is_in p.within).number

pub returns-clause-readied : goal.returns-clause-readied
returns-clause-readied c past h chosen =
    let x = c.args.self.now in
    let place = c.args.place in
    let r = request_at x.queue.log place in
    let rows : ℕ → Option ℕ = λ n. open_row (bank_at n) (commands_after past) in
    let read : get_or c.log-2.result.now place absent ≡ get_or x.queue.log place absent =
    ap (λ l. get_or l place absent) (c.log-2.ensures.log ∙ ap (λ (v : LogView). v.log) c.log.ensures) in
    let bank : c.bank_id-bank.result ≡ bank_in r.place = c.bank_id-bank.ensures ∙ ap (λ (a : Arrived). bank_in a.request.place) read in
    let source : c.source.result ≡ source_of r = c.source.ensures ∙ ap (λ (a : Arrived). source_of a.request) read in
    let command : Pre c.bank_id-bank.result c.source.result ≡ Pre (bank_in r.place) (source_of r) = λ i. Pre (bank i) (source i) in
    let stands =
    subst (λ (b : BankId). CandidatesStandFor c.closed.new.self x.queue.log (with_row (number_of_bank b) None rows)) bank
    (c.closed.ensures.stands x.queue.log rows h.is_in.candidates_stand) in
    subst (λ (issued : Command). IsReadied (record x { banks = c.note_pre.new.self; bank_candidates = c.closed.new.self }) past issued false) (sym command)
    (closed-readied x past place c.closed.new.self c.note_pre.new.self h c.requires.doing.within (ap Some (sym command) ∙ chosen) c.closed.ensures.banks stands
    (subst (λ z. BanksStandFor c.note_pre.new.self past.config (commands_with past z)) command (noted-at x past _ c.note_pre.new.self h
    (c.note_pre.ensures.stands past.config (commands_after past) past.channel c.source.result h.is_in.banks_stand (noted-later x past h)))))

pub note_pre-requires-clause-rank : goal.note_pre-requires-clause-rank
note_pre-requires-clause-rank c =
    let p = c.requires.doing in
    let x = c.args.self.now in
    let read : get_or c.log-2.result.now c.args.place absent ≡ get_or x.queue.log c.args.place absent =
    ap (λ l. get_or l c.args.place absent) (c.log-2.ensures.log ∙ ap (λ (v : LogView). v.log) c.log.ensures) in
    subst (λ (b : BankId). b.rank < rank_count x.banks) (sym (c.bank_id-bank.ensures ∙ ap (λ (a : Arrived). bank_in a.request.place) read)) (placed-rank x p.past c.args.place p.is_in p.within)
