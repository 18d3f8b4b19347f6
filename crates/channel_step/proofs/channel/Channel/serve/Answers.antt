use Rattle.std.proofs.Common.{◌≡◌, ◌<◌, ℕ, false, [], ◌∷◌, length, get_or, not, Option, sym, ap, subst, ◌∙◌}
use Rattle.std.specs.List.{All}
use Rattle.std.specs.Option.{IfSome}
use Rattle.std.proofs.lemmas.List.{get_or-set_same}
use Rattle.sim_base.specs.Rules.{open_row}
use Rattle.sim_base.specs.Scheduling.{column_command}
use Rattle.sim_base.specs.declared.message.Request.{Request}
use Rattle.queue.specs.declared.request_log.Arrived.{Arrived}
use Rattle.queue.specs.Log.{absent, served_at, eligible_column, LogView}
use Rattle.queue.specs.Columns.{bank_number}
use Rattle.queue.proofs.Places.{all_served}
use Rattle.queue.specs.View.{QueueView}
use Rattle.sim_base.specs.Places.{bank_at}
use Rattle.queue.specs.Stands.{bank_count, StandsFor as CandidatesStandFor}
use Rattle.channel_step.specs.FrFcfs.Requests.{IsInBanks}
use Rattle.channel_step.specs.Past.{commands_after}
use Rattle.channel_step.specs.Queued.{request_at, served_now, kept_rows}
use Rattle.channel_step.specs.Runs.{with_more}
use Rattle.bank_ready.specs.Stands.{rank_count, StandsFor as BanksStandFor}
use Rattle.channel_step.specs.Readied.{commands_with, IsReadied}
use Rattle.channel_step.proofs.Places.{banks-below}
use Rattle.channel_step.proofs.Readying.{placed-rank, noted-at, noted-later, served-readied}
use Rattle.channel_step.proofs.channel.Channel.serve.Goals as goal

pub on_service-requires-clause-banks : goal.on_service-requires-clause-banks
on_service-requires-clause-banks c =
    let p = c.requires.doing in
    let x = c.args.self.now in
    let log : c.log.result.now.log ≡ served_at x.queue.log c.args.place = ap (λ (v : LogView). v.log) c.log.ensures ∙ ap (λ (q : QueueView). q.log) c.serve-unblocked.ensures.log in
    subst (All (λ (a : Arrived). bank_number a.request.place < bank_count x.bank_candidates)) (sym log)
    (banks-below p.past.config.ranks (bank_count x.bank_candidates) (served_at x.queue.log c.args.place) p.is_in.is_in.made_for.banks_are
    (subst (All (IsInBanks p.past.config.ranks)) (sym (all_served x.queue.log c.args.place)) p.is_in.is_in.made_for.in_banks))

pub returns : goal.returns
returns c past h chosen =
    let x = c.args.self.now in
    let place = c.args.place in
    let r = request_at x.queue.log place in
    let hit = not (get_or x.queue.log place absent).activated in
    let rows : ℕ → Option ℕ = λ n. open_row (bank_at n) (commands_after past) in
    let log : c.log.result.now.log ≡ served_at x.queue.log place = ap (λ (v : LogView). v.log) c.log.ensures ∙ ap (λ (q : QueueView). q.log) c.serve-unblocked.ensures.log in
    let marks = ap (λ (v : LogView). eligible_column v.log) c.log.ensures ∙ c.serve-unblocked.ensures.marks in
    let next : IfSome c.serve-unblocked.result (λ k. k < length c.log.result.now.log) =
    subst (λ (v : LogView). IfSome c.serve-unblocked.result (λ k. k < length v.log)) (sym c.log.ensures) c.serve-unblocked.ensures.next in
    let stands =
    subst (λ l. CandidatesStandFor c.on_service.new.self l rows) log
    (c.on_service.ensures.stands x.queue.log rows (record { within = c.requires.doing.within; waits = c.requires.doing.waits; log_is = log; marks_are = marks; next = next }) h.is_in.candidates_stand) in
    let then : c.log-3.result.now ≡ served_at x.queue.log place =
    c.log-3.ensures.log ∙ ap (λ (v : LogView). v.log) c.log-2.ensures ∙ ap (λ (q : QueueView). q.log) c.serve-unblocked.ensures.log in
    let left : get_or c.log-3.result.now place absent ≡ record (get_or x.queue.log place absent) { waits = false } =
    ap (λ l. get_or l place absent) then ∙ get_or-set_same x.queue.log place (record (get_or x.queue.log place absent) { waits = false }) absent c.requires.doing.within in
    subst (λ b. IsReadied (record x { queue = c.serve-unblocked.new.self; banks = c.note_column_command.new.banks; bank_candidates = c.on_service.new.self; served = c.note_served.new.kept }) past (column_command r) b)
    (sym (ap (λ (a : Arrived). not a.activated) left))
    (subst (λ (q : QueueView). IsReadied (record x { queue = q; banks = c.note_column_command.new.banks; bank_candidates = c.on_service.new.self; served = c.note_served.new.kept }) past (column_command r) hit) (sym c.serve-unblocked.ensures.log)
    (served-readied x past place c.on_service.new.self c.note_column_command.new.banks c.note_served.new.kept h c.requires.doing.within c.requires.doing.waits chosen c.on_service.ensures.banks stands
    (subst (λ (q : Request). BanksStandFor c.note_column_command.new.banks past.config (commands_with past (column_command q))) c.requires.request (noted-at x past _ c.note_column_command.new.banks h
    (c.note_column_command.ensures.stands past.config (commands_after past) past.channel h.is_in.banks_stand (noted-later x past h))))
    (c.in_ok-note_served.ensures ∙ ap (λ (a : Arrived). with_more (kept_rows x.served) (served_now x.number x.cycle a.request (not a.activated) ∷ [])) left)))

pub serve-unblocked-requires-clause-within : goal.serve-unblocked-requires-clause-within
serve-unblocked-requires-clause-within c = c.requires.doing.within

pub serve-unblocked-requires-clause-waits : goal.serve-unblocked-requires-clause-waits
serve-unblocked-requires-clause-waits c = c.requires.doing.waits

pub note_column_command-requires-clause-rank : goal.note_column_command-requires-clause-rank
note_column_command-requires-clause-rank c =
    let p = c.requires.doing in
    let x = c.args.self.now in
    subst (λ (r : Request). r.place.rank < rank_count x.banks) (sym c.requires.request) (placed-rank x p.past c.args.place p.is_in p.within)
