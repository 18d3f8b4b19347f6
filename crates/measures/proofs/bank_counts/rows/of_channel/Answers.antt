use Rattle.std.proofs.Common.{rules, ◌≡◌, [], ◌∷◌, ◌+◌, ◌++◌, take, ap, sym, ◌∙◌, arith}
use Rattle.std.proofs.lemmas.List.{take_all}
use Rattle.std.specs.Prelude.{filter}
use Rattle.measures.specs.Banks.{is_of_channel, of_channel}
use Rattle.measures.proofs.Kept.{filter_kept, filter_left, filter_done}
use Rattle.measures.proofs.bank_counts.rows.of_channel.Goals as goal
use Rattle.measures.proofs.bank_counts.rows.of_channel.Goals.{in-Some+then-is_of_channel+in_ok-push, in_default, in_default-via-in-None-1, in_default-via-in-Some+else-is_of_channel}

pub loop-place-init : goal.loop-place-init
loop-place-init c = c.new-rows.ensures.items

pub loop-place-preserved : goal.loop-place-preserved
loop-place-preserved c =
    let mine = is_of_channel c.args.channel in
    let commands = c.args.commands.now in
    let place = c.loop-place.place in
    elim c.match-get.branch [
      | in-Some+then-is_of_channel+in_ok-push w ↦
          ap (λ rows. rows.items) w.rows-is
          ∙ w.in_ok-push.ensures.items
          ∙ ap (λ rows. rows ++ w.in-Some.row ∷ []) c.loop-place.invariant
          ∙ sym (filter_kept mine commands place w.in-Some.row (sym c.get.ensures ∙ w.in-Some.is) (sym w.is_of_channel.ensures ∙ w.if-is_of_channel.true))
      | in_default w ↦
          let same : filter mine (take (place + 1) commands) ≡ filter mine (take place commands) = elim w.in_default.branch [
            | in_default-via-in-None-1 v ↦ filter_done mine commands place (sym c.get.ensures ∙ search rules)
            | in_default-via-in-Some+else-is_of_channel v ↦ filter_left mine commands place v.in-Some.row (sym c.get.ensures ∙ v.in-Some.is) (sym v.is_of_channel.ensures ∙ v.if-is_of_channel.false)
          ] in
          ap (λ rows. rows.items) w.rows-is ∙ c.loop-place.invariant ∙ sym same
    ]

pub returns : goal.returns
unfolding of_channel
returns c = c.loop-place.invariant ∙ ap (filter (is_of_channel c.args.channel)) (take_all c.loop-place.place c.args.commands.now (omega arith))
