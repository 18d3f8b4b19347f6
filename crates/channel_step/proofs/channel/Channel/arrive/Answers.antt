use Rattle.std.proofs.Common.{◌≡◌, ◌<◌, ◌∙◌, ℕ, ◌++◌, Option, length, take, drop, true, sym, ap, subst, arith}
use Rattle.std.specs.List.{All}
use Rattle.std.proofs.lemmas.List.{length-take}
use Rattle.sim_base.specs.History.{issued_commands}
use Rattle.sim_base.specs.Rules.{open_row}
use Rattle.bank_ready.specs.Stands.{rank_count}
use Rattle.queue.specs.declared.request_log.Arrived.{Arrived}
use Rattle.queue.specs.Log.{all_requests, LogView}
use Rattle.queue.specs.Columns.{bank_number}
use Rattle.queue.specs.View.{QueueView}
use Rattle.sim_base.specs.Places.{bank_at}
use Rattle.queue.specs.Stands.{bank_count, StandsFor as CandidatesStandFor}
use Rattle.channel_step.specs.FrFcfs.Requests.{IsInBanks}
use Rattle.channel_step.specs.Past.{carried_requests, past_of}
use Rattle.channel_step.specs.Queued.{with_arrivals}
use Rattle.channel_step.specs.Channels.{IsInCycle}
use Rattle.channel_step.specs.declared.channel.Channel.{Channel}
use Rattle.channel_step.proofs.Fits.{due_count}
use Rattle.channel_step.proofs.Foreseen.{next_command-from}
use Rattle.channel_step.proofs.Stepping.{due_count-is, admit-room, arrived-stands, arrived-in_banks, arrived-places, log-before, log-after, next_command-for}
use Rattle.channel_step.proofs.channel.Channel.arrive.Goals as goal

pub make_room-requires : goal.make_room-requires
make_room-requires c =
    let p = c.requires.can_run in
    let inbox = c.args.inbox.now in
    admit-room c.args.self.now (past_of p.s p.channel p.steps p.mail) inbox c.args.now c.requires.until c.due_count-due.result p.stands p.at c.requires.before_end p.fit
    (c.due_count-due.ensures ∙ due_count-is inbox c.args.now)

pub on_arrival-requires-clause-banks : goal.on_arrival-requires-clause-banks
on_arrival-requires-clause-banks c =
    let inbox = c.args.inbox.now in
    let y = c.make_room.new.self in
    let q = c.admit.new.queue in
    let due = c.due_count-due.ensures ∙ due_count-is inbox c.args.now in
    let p = c.requires.can_run in
    let h = c.make_room.ensures.stands p.s p.channel p.steps p.mail p.stands in
    let joined = c.admit.ensures ∙ ap (λ k. with_arrivals y.queue (carried_requests (take k inbox))) due in
    subst (All (λ (a : Arrived). bank_number a.request.place < bank_count y.bank_candidates)) (sym (ap (λ (v : LogView). v.log) c.log-2.ensures))
    (arrived-in_banks y (past_of p.s p.channel p.steps p.mail) inbox c.args.now c.requires.until q h p.at p.fit joined)

pub on_arrival-requires-clause-waits : goal.on_arrival-requires-clause-waits
on_arrival-requires-clause-waits c =
    let inbox = c.args.inbox.now in
    let y = c.make_room.new.self in
    let q = c.admit.new.queue in
    let older = c.len.ensures.value ∙ ap (λ (v : LogView). length v.log) c.log.ensures in
    subst (λ l. All (λ (a : Arrived). a.waits ≡ true) (drop c.len.result l)) (sym (ap (λ (v : LogView). v.log) c.log-2.ensures))
    (log-after y (carried_requests (take c.due_count-due.result inbox)) c.len.result q older c.admit.ensures)

pub reconsider-requires-clause-places : goal.reconsider-requires-clause-places
reconsider-requires-clause-places c =
    let inbox = c.args.inbox.now in
    let y = c.make_room.new.self in
    let q = c.admit.new.queue in
    let due = c.due_count-due.ensures ∙ due_count-is inbox c.args.now in
    let p = c.requires.can_run in
    let h = c.make_room.ensures.stands p.s p.channel p.steps p.mail p.stands in
    let joined = c.admit.ensures ∙ ap (λ k. with_arrivals y.queue (carried_requests (take k inbox))) due in
    subst (λ n. All (IsInBanks n) (all_requests q.log)) (sym h.banks_stand.ranks)
    (arrived-places y (past_of p.s p.channel p.steps p.mail) inbox c.args.now c.requires.until q h p.at p.fit joined)

pub reconsider-requires-clause-next_command : goal.reconsider-requires-clause-next_command
reconsider-requires-clause-next_command c =
    let inbox = c.args.inbox.now in
    let y = c.make_room.new.self in
    let q = c.admit.new.queue in
    let p = c.requires.can_run in
    let h = c.make_room.ensures.stands p.s p.channel p.steps p.mail p.stands in
    let older = c.len.ensures.value ∙ ap (λ (v : LogView). length v.log) c.log.ensures in
    next_command-for p.s (issued_commands p.channel p.steps) c.len.result (rank_count y.banks) y.queue q y.cycle y.next_command h.banks_stand.ranks
    (log-before y (carried_requests (take c.due_count-due.result inbox)) c.len.result q older c.admit.ensures) (next_command-from _ _ _ _ _ h.foresees)

pub returns-clause-in_cycle : goal.returns-clause-in_cycle
returns-clause-in_cycle c s channel steps mail stands until at l f =
    let inbox = c.args.inbox.now in
    let y = c.make_room.new.self in
    let q = c.admit.new.queue in
    let due = c.due_count-due.ensures ∙ due_count-is inbox c.args.now in
    let history = issued_commands channel steps in
    let rows : ℕ → Option ℕ = λ n. open_row (bank_at n) history in
    let h = c.make_room.ensures.stands s channel steps mail stands in
    let joined = c.admit.ensures ∙ ap (λ k. with_arrivals y.queue (carried_requests (take k inbox))) due in
    let older = c.len.ensures.value ∙ ap (λ (v : LogView). length v.log) c.log.ensures in
    let shown : c.log-2.result.now.log ≡ q.log = ap (λ (v : LogView). v.log) c.log-2.ensures in
    let before = log-before y (carried_requests (take c.due_count-due.result inbox)) c.len.result q older c.admit.ensures in
    let old =
    subst (λ l. CandidatesStandFor y.bank_candidates (take c.len.result l) rows) (sym shown)
    (subst (λ l. CandidatesStandFor y.bank_candidates l rows) before h.candidates_stand) in
    let new = subst (λ l. CandidatesStandFor c.on_arrival.new.self l rows) shown (c.on_arrival.ensures.stands rows old) in
    let high = sym (ap (λ (v : QueueView). v.high) c.admit.ensures ∙ h.made_for.high_is) in
    let went = c.accesses_that_go.ensures s rows (sym h.made_for.high_is) h.candidates_stand in
    let known = c.reconsider.ensures.next_command s history y.queue (record { banks_stand = h.banks_stand; candidates_stand = new; high_is = high; earlier_is = before; went = went }) (next_command-from _ _ _ _ _ h.foresees) in
    subst (λ k. IsInCycle c.reconsider.new.self (past_of s channel steps (mail ++ take k inbox))) (sym due)
    (subst (λ (z : Channel). IsInCycle z (past_of s channel steps (mail ++ take (due_count inbox c.args.now) inbox))) (sym c.reconsider.ensures.rest)
    (arrived-stands y (past_of s channel steps mail) inbox c.args.now until q c.on_arrival.new.self c.reconsider.new.self.next_command h at l f joined c.on_arrival.ensures.banks new known))

pub admit-requires-clause-room : goal.admit-requires-clause-room
admit-requires-clause-room c = omega (arith, c.make_room.ensures.room, length-take c.due_count-due.result c.args.inbox.now)

pub admit-requires-clause-places : goal.admit-requires-clause-places
admit-requires-clause-places c = omega (arith, c.make_room.ensures.places, length-take c.due_count-due.result c.args.inbox.now)

pub reconsider-requires-clause-banks : goal.reconsider-requires-clause-banks
reconsider-requires-clause-banks c =
    let p = c.requires.can_run in
    let h = c.make_room.ensures.stands p.s p.channel p.steps p.mail p.stands in
    omega (arith, h.made_for.banks_are, h.banks_stand.ranks, c.on_arrival.ensures.banks)

pub returns-clause-some : goal.returns-clause-some
returns-clause-some c = c.due_count-due.ensures
