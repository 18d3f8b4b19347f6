use Rattle.std.proofs.Common.{◌≤◌, subst, arith}
use Rattle.std.specs.Prelude.{All}
use Rattle.std.proofs.lemmas.List.Elements.{All-append}
use Rattle.in_place.specs.Turns.{all_units, all_words}
use Rattle.in_place.proofs.Turning.{turns-later}
use Rattle.in_place.proofs.taking_turns.later.Goals as goal

pub returns-clause-turns : goal.returns-clause-turns
returns-clause-turns c machine links h =
    let kinds = c.args.kinds.now in
    let begin = c.next_wake-begin.result in
    let before = c.next_wake-core_wake in
    let cores : All (λ word. begin ≤ word) kinds.cores.words.items =
    subst (All (λ word. begin ≤ word)) c.as_slice-core_words.ensures.value
    (λ k d l. let sleep = before.ensures.sleep k d l in omega (arith, sleep, c.next_wake-begin.ensures.within)) in
    let channels : All (λ word. begin ≤ word) kinds.channels.words.items =
    subst (All (λ word. begin ≤ word)) c.as_slice-channel_words.ensures.value c.next_wake-begin.ensures.sleep in
    let since : c.args.at.cores_at ≤ begin =
    c.next_wake-begin.ensures.since c.args.at.cores_at (omega (arith, c.if-core_wake-at.false)) (c.wakes_before.ensures c.if-wakes_before.false) in
    (h.0, turns-later machine c.args.at.cores_at c.args.at.channels_at begin (all_units kinds) (all_words kinds) links h.1 since (omega (arith, since, c.requires.order)) (All-append (λ word. begin ≤ word) _ _ cores channels))

pub returns-clause-since : goal.returns-clause-since
returns-clause-since c =
    let since : c.args.at.cores_at ≤ c.next_wake-begin.result =
    c.next_wake-begin.ensures.since c.args.at.cores_at (omega (arith, c.if-core_wake-at.false)) (c.wakes_before.ensures c.if-wakes_before.false) in
    omega (arith, since, c.requires.order)
