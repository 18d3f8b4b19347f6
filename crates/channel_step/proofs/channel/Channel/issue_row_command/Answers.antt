-- No row of the bank is open, or another one than the request asks for.
use Rattle.std.proofs.Common.{◌≡◌, ◌<◌, ◌++◌, false, length, get_or, Some, None, sym, ap, subst, ◌∙◌, arith}
use Rattle.std.proofs.lemmas.Result.{on_ok_weaker}
use Rattle.sim_base.specs.History.{messages_of}
use Rattle.sim_base.specs.Places.{bank_in}
use Rattle.sim_base.specs.Rules.{open_row}
use Rattle.sim_base.specs.Scheduling.{source_of, needed, needed_at}
use Rattle.sim_base.specs.declared.command.Command.TheVariants.{Pre}
use Rattle.sim_base.specs.declared.place.BankId.{BankId}
use Rattle.queue.specs.Log.{absent, LogView}
use Rattle.channel_step.specs.Past.{commands_after}
use Rattle.channel_step.specs.Queued.{request_at}
use Rattle.channel_step.specs.Readied.{IsDoing}
use Rattle.channel_step.proofs.Foreseen.{request-needs}
use Rattle.channel_step.proofs.Issuing.{has-issued, silent-act, silent-pre}
use Rattle.channel_step.proofs.Readying.{needed-with, needed-closing, chosen-needs, doing, row-differs}
use Rattle.channel_step.proofs.channel.Channel.issue_row_command.Goals as goal

pub open_bank-command-requires-clause-early : goal.open_bank-command-requires-clause-early
open_bank-command-requires-clause-early c = c.requires.early

pub open_bank-command-requires-clause-doing : goal.open_bank-command-requires-clause-doing
open_bank-command-requires-clause-doing c =
    let x = c.args.self.now in
    let place = c.args.place in
    let r = request_at x.queue.log place in
    let p = c.requires.acts in
    let history = commands_after p.past in
    let place_is : (get_or c.log-2.result.now place absent).request.place ≡ r.place = ap (λ l. (get_or l place absent).request.place) (c.log-2.ensures.log ∙ ap (λ (v : LogView). v.log) c.log.ensures) in
    let opens : c.open_row.result ≡ open_row (bank_in r.place) history =
    c.open_row.ensures x.queue.log history p.is_in.is_in.candidates_stand ∙ ap (λ (b : BankId). open_row b history) (c.bank_id-bank.ensures ∙ ap bank_in place_is) in
    let is : needed history r ≡ needed_at None r = needed-with history r None (sym c.in-None.is ∙ opens) in
    subst (IsDoing x place) is (doing x place false p.past p.command p.is_in p.place p.needed p.is_chosen)

pub issue-requires-clause-ready : goal.issue-requires-clause-ready
issue-requires-clause-ready c =
    let x = c.args.self.now in
    let place = c.args.place in
    let r = request_at x.queue.log place in
    let p = c.requires.acts in
    let history = commands_after p.past in
    let place_is : (get_or c.log-2.result.now place absent).request.place ≡ r.place = ap (λ l. (get_or l place absent).request.place) (c.log-2.ensures.log ∙ ap (λ (v : LogView). v.log) c.log.ensures) in
    let opens : c.open_row.result ≡ open_row (bank_in r.place) history =
    c.open_row.ensures x.queue.log history p.is_in.is_in.candidates_stand ∙ ap (λ (b : BankId). open_row b history) (c.bank_id-bank.ensures ∙ ap bank_in place_is) in
    let is : needed history r ≡ needed_at None r = needed-with history r None (sym c.in-None.is ∙ opens) in
    record {
      past = p.past;
      is_readied = c.open_bank-command.ensures.readied p.past p.is_in (ap Some (c.open_bank-command.ensures.command ∙ sym is) ∙ chosen-needs p.past x.queue.log place false p.command p.place.0 p.needed p.is_chosen);
    }

pub issue-requires-clause-early : goal.issue-requires-clause-early
issue-requires-clause-early c =
    let x = c.args.self.now in
    let place = c.args.place in
    let r = request_at x.queue.log place in
    let p = c.requires.acts in
    let history = commands_after p.past in
    let place_is : (get_or c.log-2.result.now place absent).request.place ≡ r.place = ap (λ l. (get_or l place absent).request.place) (c.log-2.ensures.log ∙ ap (λ (v : LogView). v.log) c.log.ensures) in
    let opens : c.open_row.result ≡ open_row (bank_in r.place) history =
    c.open_row.ensures x.queue.log history p.is_in.is_in.candidates_stand ∙ ap (λ (b : BankId). open_row b history) (c.bank_id-bank.ensures ∙ ap bank_in place_is) in
    let is : needed history r ≡ needed_at None r = needed-with history r None (sym c.in-None.is ∙ opens) in
    let ready = c.open_bank-command.ensures.readied p.past p.is_in (ap Some (c.open_bank-command.ensures.command ∙ sym is) ∙ chosen-needs p.past x.queue.log place false p.command p.place.0 p.needed p.is_chosen) in
    omega (arith, ready.cycle_is, p.is_in.is_in.cycle_is, c.requires.early)

pub close_bank-command-requires-clause-early : goal.close_bank-command-requires-clause-early
close_bank-command-requires-clause-early c = c.requires.early

pub close_bank-command-requires-clause-doing : goal.close_bank-command-requires-clause-doing
close_bank-command-requires-clause-doing c =
    let x = c.args.self.now in
    let place = c.args.place in
    let r = request_at x.queue.log place in
    let p = c.requires.acts in
    let history = commands_after p.past in
    let place_is : (get_or c.log-2.result.now place absent).request.place ≡ r.place = ap (λ l. (get_or l place absent).request.place) (c.log-2.ensures.log ∙ ap (λ (v : LogView). v.log) c.log.ensures) in
    let opens : c.open_row.result ≡ open_row (bank_in r.place) history =
    c.open_row.ensures x.queue.log history p.is_in.is_in.candidates_stand ∙ ap (λ (b : BankId). open_row b history) (c.bank_id-bank.ensures ∙ ap bank_in place_is) in
    let class = (request-needs history x.queue.log place false p.command p.place.0 p.needed).1 in
    let row_is = sym c.in-Some.is ∙ opens in
    let is : needed history r ≡ Pre (bank_in r.place) (source_of r) = needed-closing history r c.in-Some.field-0 row_is (row-differs history r c.in-Some.field-0 row_is class) in
    subst (IsDoing x place) is (doing x place false p.past p.command p.is_in p.place p.needed p.is_chosen)

pub issue-requires-in-Some-clause-ready : goal.issue-requires-in-Some-clause-ready
issue-requires-in-Some-clause-ready c =
    let x = c.args.self.now in
    let place = c.args.place in
    let r = request_at x.queue.log place in
    let p = c.requires.acts in
    let history = commands_after p.past in
    let place_is : (get_or c.log-2.result.now place absent).request.place ≡ r.place = ap (λ l. (get_or l place absent).request.place) (c.log-2.ensures.log ∙ ap (λ (v : LogView). v.log) c.log.ensures) in
    let opens : c.open_row.result ≡ open_row (bank_in r.place) history =
    c.open_row.ensures x.queue.log history p.is_in.is_in.candidates_stand ∙ ap (λ (b : BankId). open_row b history) (c.bank_id-bank.ensures ∙ ap bank_in place_is) in
    let class = (request-needs history x.queue.log place false p.command p.place.0 p.needed).1 in
    let row_is = sym c.in-Some.is ∙ opens in
    let is : needed history r ≡ Pre (bank_in r.place) (source_of r) = needed-closing history r c.in-Some.field-0 row_is (row-differs history r c.in-Some.field-0 row_is class) in
    record {
      past = p.past;
      is_readied = c.close_bank-command.ensures.readied p.past p.is_in (ap Some (c.close_bank-command.ensures.command ∙ sym is) ∙ chosen-needs p.past x.queue.log place false p.command p.place.0 p.needed p.is_chosen);
    }

pub issue-requires-in-Some-clause-early : goal.issue-requires-in-Some-clause-early
issue-requires-in-Some-clause-early c =
    let x = c.args.self.now in
    let place = c.args.place in
    let r = request_at x.queue.log place in
    let p = c.requires.acts in
    let history = commands_after p.past in
    let place_is : (get_or c.log-2.result.now place absent).request.place ≡ r.place = ap (λ l. (get_or l place absent).request.place) (c.log-2.ensures.log ∙ ap (λ (v : LogView). v.log) c.log.ensures) in
    let opens : c.open_row.result ≡ open_row (bank_in r.place) history =
    c.open_row.ensures x.queue.log history p.is_in.is_in.candidates_stand ∙ ap (λ (b : BankId). open_row b history) (c.bank_id-bank.ensures ∙ ap bank_in place_is) in
    let class = (request-needs history x.queue.log place false p.command p.place.0 p.needed).1 in
    let row_is = sym c.in-Some.is ∙ opens in
    let is : needed history r ≡ Pre (bank_in r.place) (source_of r) = needed-closing history r c.in-Some.field-0 row_is (row-differs history r c.in-Some.field-0 row_is class) in
    let ready = c.close_bank-command.ensures.readied p.past p.is_in (ap Some (c.close_bank-command.ensures.command ∙ sym is) ∙ chosen-needs p.past x.queue.log place false p.command p.place.0 p.needed p.is_chosen) in
    omega (arith, ready.cycle_is, p.is_in.is_in.cycle_is, c.requires.early)

pub returns-in-None : goal.returns-in-None
returns-in-None c past h command messages needs chosen =
    let x = c.args.self.now in
    let place = c.args.place in
    let log = x.queue.log in
    let r = request_at log place in
    let history = commands_after past in
    let place_is : (get_or c.log-2.result.now place absent).request.place ≡ r.place = ap (λ l. (get_or l place absent).request.place) (c.log-2.ensures.log ∙ ap (λ (v : LogView). v.log) c.log.ensures) in
    let opens : c.open_row.result ≡ open_row (bank_in r.place) history =
    c.open_row.ensures log history h.is_in.candidates_stand ∙ ap (λ (b : BankId). open_row b history) (c.bank_id-bank.ensures ∙ ap bank_in place_is) in
    let asked = request-needs history log place false command c.requires.acts.place.0 needs in
    let is : command ≡ needed_at None r = sym asked.0 ∙ needed-with history r None (sym c.in-None.is ∙ opens) in
    let ready = c.open_bank-command.ensures.readied past h (ap Some (c.open_bank-command.ensures.command ∙ sym is) ∙ chosen) in
    on_ok_weaker c.issue.result
    (λ told. has-issued c.open_bank-command.new.self c.issue.new.self past command c.open_bank-command.result false c.args.commands.now c.issue.new.commands messages messages ready
    (c.open_bank-command.ensures.command ∙ sym is) (c.issue.ensures.stands past ready) told
    (silent-act past.config past.channel (length past.steps) (bank_in r.place) r.place.row (source_of r) messages ∙ ap (λ z. messages ++ messages_of past.config past.channel (length past.steps) z) (sym is)))
    c.issue.ensures.commands

pub returns-in-Some : goal.returns-in-Some
returns-in-Some c past h command messages needs chosen =
    let x = c.args.self.now in
    let place = c.args.place in
    let log = x.queue.log in
    let r = request_at log place in
    let history = commands_after past in
    let place_is : (get_or c.log-2.result.now place absent).request.place ≡ r.place = ap (λ l. (get_or l place absent).request.place) (c.log-2.ensures.log ∙ ap (λ (v : LogView). v.log) c.log.ensures) in
    let opens : c.open_row.result ≡ open_row (bank_in r.place) history =
    c.open_row.ensures log history h.is_in.candidates_stand ∙ ap (λ (b : BankId). open_row b history) (c.bank_id-bank.ensures ∙ ap bank_in place_is) in
    let asked = request-needs history log place false command c.requires.acts.place.0 needs in
    let row = c.in-Some.field-0 in
    let row_is = sym c.in-Some.is ∙ opens in
    let is : command ≡ Pre (bank_in r.place) (source_of r) = sym asked.0 ∙ needed-closing history r row row_is (row-differs history r row row_is asked.1) in
    let ready = c.close_bank-command.ensures.readied past h (ap Some (c.close_bank-command.ensures.command ∙ sym is) ∙ chosen) in
    on_ok_weaker c.issue-in-Some.result
    (λ told. has-issued c.close_bank-command.new.self c.issue-in-Some.new.self past command c.close_bank-command.result false c.args.commands.now c.issue-in-Some.new.commands messages messages ready
    (c.close_bank-command.ensures.command ∙ sym is) (c.issue-in-Some.ensures.stands past ready) told
    (silent-pre past.config past.channel (length past.steps) (bank_in r.place) (source_of r) messages ∙ ap (λ z. messages ++ messages_of past.config past.channel (length past.steps) z) (sym is)))
    c.issue-in-Some.ensures.commands

pub bounds-log-place : goal.bounds-log-place
bounds-log-place c =
    subst (λ l. c.args.place < length l) (sym (c.log-2.ensures.log ∙ ap (λ (v : LogView). v.log) c.log.ensures)) c.requires.acts.place.0
