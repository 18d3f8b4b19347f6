use Rattle.std.proofs.Common.{◌++◌, ◌∙◌, drop, sym, ap}
use Rattle.std.specs.Prelude.{option_to_list}
use Rattle.circular_buffer.specs.Buffer.{Buffer}
use Rattle.sim_base.specs.declared.message.Message.{Message}
use Rattle.sessions.proofs.Lists.{drop-front}
use Rattle.sessions.proofs.channel_session.held.HeldReplies.take_next.Goals as goal

pub returns-clause-front : goal.returns-clause-front
returns-clause-front c =
    let items = c.args.self.now.all.items in
    drop-front 0 items ∙ ap (λ o. option_to_list o ++ drop 1 items) (sym c.pop_front.ensures.value)
    ∙ ap (λ (b : Buffer Message). option_to_list c.pop_front.result ++ b.items) (sym c.pop_front.ensures.items)
