use Rattle.std.proofs.Common.{◌≡◌, ◌<◌, ℕ, false, get_or, Option, Some, None, sym, ap, subst, ◌∙◌}
use Rattle.sim_base.specs.Places.{bank_in, bank_at, number_of_bank}
use Rattle.sim_base.specs.Rules.{open_row}
use Rattle.sim_base.specs.Scheduling.{source_of, needed_at}
use Rattle.sim_base.specs.declared.place.BankId.{BankId}
use Rattle.sim_base.specs.declared.command.Command.{Command}
use Rattle.sim_base.specs.declared.command.Command.TheVariants.{Act}
use Rattle.queue.specs.declared.request_log.Arrived.{Arrived}
use Rattle.queue.specs.Log.{absent, activated_at, LogView}
use Rattle.queue.specs.View.{QueueView}
use Rattle.queue.specs.Stands.{bank_count, with_row, StandsFor as CandidatesStandFor}
use Rattle.queue.proofs.Stood.{activated_stand}
use Rattle.channel_step.specs.Past.{commands_after}
use Rattle.channel_step.specs.Queued.{request_at}
use Rattle.bank_ready.specs.Stands.{rank_count, StandsFor as BanksStandFor}
use Rattle.channel_step.specs.Readied.{commands_with, IsReadied}
use Rattle.channel_step.proofs.Readying.{placed-among, placed-rank, noted-at, noted-later, opened-readied}
use Rattle.channel_step.proofs.channel.Channel.open_bank.Goals as goal

pub opened-requires : goal.opened-requires
opened-requires c =
    let p = c.requires.doing in
    let x = c.args.self.now in
    let read : get_or c.log-2.result.now c.args.place absent ≡ get_or x.queue.log c.args.place absent =
    ap (λ l. get_or l c.args.place absent) (c.log-2.ensures.log ∙ ap (λ (v : LogView). v.log) c.log.ensures) in
    subst (λ (b : BankId). number_of_bank b < bank_count x.bank_candidates) (sym (c.bank_id-bank.ensures ∙ ap (λ (a : Arrived). bank_in a.request.place) read))
    (placed-among x p.past c.args.place p.is_in p.within).number

pub returns-clause-readied : goal.returns-clause-readied
returns-clause-readied c past h chosen =
    let x = c.args.self.now in
    let place = c.args.place in
    let r = request_at x.queue.log place in
    let rows : ℕ → Option ℕ = λ n. open_row (bank_at n) (commands_after past) in
    let read : get_or c.log-2.result.now place absent ≡ get_or x.queue.log place absent =
    ap (λ l. get_or l place absent) (c.log-2.ensures.log ∙ ap (λ (v : LogView). v.log) c.log.ensures) in
    let bank : c.bank_id-bank.result ≡ bank_in r.place = c.bank_id-bank.ensures ∙ ap (λ (a : Arrived). bank_in a.request.place) read in
    let log : c.log-3.result.now.log ≡ activated_at x.queue.log place = ap (λ (v : LogView). v.log) c.log-3.ensures ∙ ap (λ (q : QueueView). q.log) c.activate.ensures in
    let before = subst (λ l. CandidatesStandFor x.bank_candidates l rows) (sym log) (activated_stand x.bank_candidates x.queue.log place rows h.is_in.candidates_stand) in
    let row : (get_or c.log-2.result.now place absent).request.place.row ≡ r.place.row = ap (λ (a : Arrived). a.request.place.row) read in
    let source : c.source.result ≡ source_of r = c.source.ensures ∙ ap (λ (a : Arrived). source_of a.request) read in
    let command : Act c.bank_id-bank.result (get_or c.log-2.result.now place absent).request.place.row c.source.result ≡ needed_at None r = λ i. Act (bank i) (row i) (source i) in
    let stands = subst (λ l. CandidatesStandFor c.opened.new.self l (with_row (number_of_bank c.bank_id-bank.result) (Some (get_or c.log-2.result.now place absent).request.place.row) rows)) log (c.opened.ensures.stands rows before) in
    let placed =
    subst (λ k. CandidatesStandFor c.opened.new.self (activated_at x.queue.log place) (with_row (number_of_bank (bank_in r.place)) (Some k) rows)) row
    (subst (λ (b : BankId). CandidatesStandFor c.opened.new.self (activated_at x.queue.log place) (with_row (number_of_bank b) (Some (get_or c.log-2.result.now place absent).request.place.row) rows)) bank stands) in
    subst (λ (issued : Command). IsReadied (record x { queue = c.activate.new.self; banks = c.note_act.new.self; bank_candidates = c.opened.new.self }) past issued false) (sym command)
    (subst (λ (q : QueueView). IsReadied (record x { queue = q; banks = c.note_act.new.self; bank_candidates = c.opened.new.self }) past (needed_at None r) false) (sym c.activate.ensures)
    (opened-readied x past place c.opened.new.self c.note_act.new.self h c.requires.doing.within c.requires.doing.waits (ap Some (sym command) ∙ chosen) c.opened.ensures.banks placed
    (subst (λ z. BanksStandFor c.note_act.new.self past.config (commands_with past z)) command (noted-at x past _ c.note_act.new.self h
    (c.note_act.ensures.stands past.config (commands_after past) past.channel _ c.source.result h.is_in.banks_stand (noted-later x past h))))))

pub note_act-requires-clause-rank : goal.note_act-requires-clause-rank
note_act-requires-clause-rank c =
    let p = c.requires.doing in
    let x = c.args.self.now in
    let read : get_or c.log-2.result.now c.args.place absent ≡ get_or x.queue.log c.args.place absent =
    ap (λ l. get_or l c.args.place absent) (c.log-2.ensures.log ∙ ap (λ (v : LogView). v.log) c.log.ensures) in
    subst (λ (b : BankId). b.rank < rank_count x.banks) (sym (c.bank_id-bank.ensures ∙ ap (λ (a : Arrived). bank_in a.request.place) read)) (placed-rank x p.past c.args.place p.is_in p.within)
