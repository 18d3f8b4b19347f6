use Rattle.std.proofs.Common.{◌≡◌, ◌<◌, ℕ, false, Option, Some, sym, ap, subst, ◌∙◌, arith}
use Rattle.sim_base.specs.Rules.{open_row, rank_of}
use Rattle.sim_base.specs.Places.{bank_at}
use Rattle.sim_base.specs.declared.command.Command.{Command}
use Rattle.bank_ready.specs.Stands.{rank_count, StandsFor as BanksStandFor}
use Rattle.channel_step.specs.Past.{commands_after}
use Rattle.channel_step.specs.Readied.{commands_with, IsReadied}
use Rattle.channel_step.proofs.Chosen.{refresh-cases}
use Rattle.channel_step.proofs.Readying.{knows-rows, groups-are, noted-at, noted-later, rank-readied, refresh-readied}
use Rattle.channel_step.proofs.channel.Channel.ready_rank.Goals as goal

pub note-requires-clause-rank : goal.note-requires-clause-rank
note-requires-clause-rank c =
    let x = c.args.self.now in
    let p = c.requires.acts in
    let below : c.args.rank < rank_count x.banks = omega (arith, p.place, p.is_in.is_in.banks_stand.ranks) in
    subst (λ (z : Command). rank_of z < rank_count x.banks)
    (sym (c.refresh_command-command.ensures p.past.config (commands_after p.past) (knows-rows x p.past p.is_in) (groups-are x p.past p.is_in)))
    (refresh-cases (λ (z : Command). rank_of z < rank_count x.banks) p.past.config (commands_after p.past) c.args.rank below below)

pub returns-in-Prea-clause-readied : goal.returns-in-Prea-clause-readied
returns-in-Prea-clause-readied c past h chosen =
    let x = c.args.self.now in
    let rows : ℕ → Option ℕ = λ n. open_row (bank_at n) (commands_after past) in
    let noted = noted-at x past c.refresh_command-command.result c.note.new.self h (c.note.ensures.stands past.config (commands_after past) past.channel h.is_in.banks_stand (noted-later x past h)) in
    rank-readied x past c.in-Prea.rank c.closed_rank.new.self c.note.new.self h chosen c.closed_rank.ensures.banks
    (c.closed_rank.ensures.stands x.queue.log rows h.is_in.candidates_stand)
    (subst (λ z. BanksStandFor c.note.new.self past.config (commands_with past z)) c.in-Prea.is noted)

pub returns-in_default : goal.returns-in_default
returns-in_default c =
    let x = c.args.self.now in
    let command = c.refresh_command-command.result in
    record {
      command = λ past h. c.refresh_command-command.ensures past.config (commands_after past) (knows-rows x past h) (groups-are x past h);
      readied = λ past h chosen.
          let noted = noted-at x past command c.note.new.self h (c.note.ensures.stands past.config (commands_after past) past.channel h.is_in.banks_stand (noted-later x past h)) in
          refresh-cases (λ z. command ≡ z → IsReadied (record x { banks = c.note.new.self }) past command false) past.config (commands_after past) c.args.rank
          (λ e. absurd (c.in_default.not-Prea c.args.rank e))
          (λ e. subst (λ z. IsReadied (record x { banks = c.note.new.self }) past z false) (sym e)
          (refresh-readied x past c.args.rank c.note.new.self h (ap Some (sym e) ∙ chosen)
          (subst (λ z. BanksStandFor c.note.new.self past.config (commands_with past z)) e noted)))
          (c.refresh_command-command.ensures past.config (commands_after past) (knows-rows x past h) (groups-are x past h));
    }
