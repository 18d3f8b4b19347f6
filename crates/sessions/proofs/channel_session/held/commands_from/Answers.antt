use Rattle.std.proofs.Common.{◌+◌, ◌++◌, ◌∙◌, drop, sym, ap}
use Rattle.std.specs.Prelude.{option_to_list}
use Rattle.std.proofs.lemmas.List.{append_assoc}
use Rattle.sessions.proofs.Lists.{drop-front}
use Rattle.sessions.proofs.channel_session.held.commands_from.Goals as goal

pub loop-place-preserved : goal.loop-place-preserved
loop-place-preserved c =
    let list = c.args.list.now in
    let place = c.loop-place.place in
    let before = c.loop-place.rest in
    let after = drop (place + 1) list in
    ap (λ x. x ++ after) (c.in_ok-put_command.ensures {u = tt}) ∙ append_assoc before (option_to_list c.get.result) after
    ∙ ap (λ x. before ++ x) (ap (λ o. option_to_list o ++ after) c.get.ensures ∙ sym (drop-front place list)) ∙ c.loop-place.invariant
