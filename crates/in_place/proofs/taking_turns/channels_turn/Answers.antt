use Rattle.std.proofs.Common.{◌≡◌, ◌++◌, length, take, drop, sym, ap, ap₂, subst, ◌∙◌, arith}
use Rattle.std.specs.Prelude.{fold}
use Rattle.std.specs.Vec.{with_items}
use Rattle.std.proofs.lemmas.List.{drop_at, take_at, with_items_is}
use Rattle.sim_base.specs.History.{insert_by_age}
use Rattle.links.specs.InFlight.{InFlight}
use Rattle.units.specs.Flight.{sent_by}
use Rattle.in_place.specs.Turns.{AreInTurns, all_units, all_words}
use Rattle.units.specs.Wakes.{WaitAll, HoldInboxes, AreEarly, AreLowered, links_after}
use Rattle.units.proofs.Early.{all-early, left-early}
use Rattle.in_place.proofs.Turning.{cores-holds_inbox, cores-wait_all, channels-holds_inbox, channels-wait_all, channels-turned, channels-many, channel-words_many}
use Rattle.in_place.proofs.taking_turns.channels_turn.Goals as goal

pub go_on-requires-clause-within : goal.go_on-requires-clause-within
go_on-requires-clause-within c =
    let turns = c.requires.turns in
    omega (arith, turns.0.channels_first, channels-many c.args.machine.now c.args.at.cores_at c.args.at.channels_at c.args.kinds.now c.args.traffic.now.links turns.0 turns.1)

pub go_on-requires-clause-words : goal.go_on-requires-clause-words
go_on-requires-clause-words c =
    let turns = c.requires.turns in
    channel-words_many c.args.machine.now c.args.at.cores_at c.args.at.channels_at c.args.kinds.now c.args.traffic.now.links turns.0 turns.1 ∙ sym (channels-many c.args.machine.now c.args.at.cores_at c.args.at.channels_at c.args.kinds.now c.args.traffic.now.links turns.0 turns.1)

pub go_on-requires-clause-wait : goal.go_on-requires-clause-wait
go_on-requires-clause-wait c =
    let machine = c.args.machine.now in
    let n = machine.config.cores in
    let at = c.args.at in
    let kinds = c.args.kinds.now in
    let turns = c.requires.turns in
    let units = kinds.channels.units.items in
    let words = kinds.channels.words.items in
    subst (λ i. WaitAll machine i at.channels_at at.cores_at units words) (sym turns.0.channels_first)
    (subst (λ ws. WaitAll machine n at.channels_at at.cores_at units ws) (drop_at kinds.cores.words.items words n turns.0.core_words)
    (subst (λ xs. WaitAll machine n at.channels_at at.cores_at xs (drop n (all_words kinds))) (drop_at kinds.cores.units.items units n turns.0.cores_count)
    (channels-wait_all machine at.cores_at at.channels_at (all_units kinds) (all_words kinds) c.args.traffic.now.links turns.1)))

pub go_on-requires-clause-holds_inbox : goal.go_on-requires-clause-holds_inbox
go_on-requires-clause-holds_inbox c =
    let machine = c.args.machine.now in
    let at = c.args.at in
    let kinds = c.args.kinds.now in
    let links = c.args.traffic.now.links in
    let turns = c.requires.turns in
    let many = channels-many machine at.cores_at at.channels_at kinds links turns.0 turns.1 in
    subst (λ i. HoldInboxes machine i (length kinds.channels.units.items) at.channels_at at.cores_at c.args.until links) (sym turns.0.channels_first)
    (subst (λ m. HoldInboxes machine machine.config.cores m at.channels_at at.cores_at c.args.until links) (sym many)
    (channels-holds_inbox machine at.cores_at at.channels_at c.args.until (all_units kinds) (all_words kinds) links turns.1 c.requires.travels))

pub take_up-requires-clause-within : goal.take_up-requires-clause-within
take_up-requires-clause-within c =
    let by_kind = c.requires.turns.0 in
    let count = ap length c.deref_mut.ensures.value ∙ by_kind.core_words in
    omega (arith, by_kind.cores_first, count)

pub take_up-requires-clause-channels : goal.take_up-requires-clause-channels
take_up-requires-clause-channels c =
    ap (λ (x : InFlight). x.channels) c.in_ok-go_on.ensures.links ∙ ap (λ (x : InFlight). x.channels) c.requires.turns.1.flight

pub returns-clause-turns : goal.returns-clause-turns
returns-clause-turns c =
    let machine = c.args.machine.now in
    let s = machine.config in
    let n = s.cores in
    let at = c.args.at in
    let until = c.args.until in
    let kinds = c.args.kinds.now in
    let links = c.args.traffic.now.links in
    let r = c.requires in
    let by_kind = r.turns.0 in
    let core_units = kinds.cores.units.items in
    let core_words = kinds.cores.words.items in
    let units = kinds.channels.units.items in
    let words = kinds.channels.words.items in
    let has_run = c.in_ok-go_on.ensures in
    let moved = c.go_on.new.range in
    let sent = c.go_on.new.traffic.sent.items in
    let up = c.in_ok-take_up.ensures in
    let lowered = c.take_up.new.words in
    let many = channels-many machine at.cores_at at.channels_at kinds links by_kind r.turns.1 in
    let waiting : AreEarly s 0 (take n (all_words kinds)) links =
    all-early machine 0 at.cores_at at.channels_at (take n (all_units kinds)) (take n (all_words kinds)) links
    (ap length (take_at core_words words n by_kind.core_words) ∙ by_kind.core_words ∙ sym by_kind.cores_count ∙ sym (ap length (take_at core_units units n by_kind.cores_count)))
    (subst (λ m. HoldInboxes machine 0 m at.cores_at at.channels_at at.cores_at links) (sym (ap length (take_at core_units units n by_kind.cores_count) ∙ by_kind.cores_count))
    (cores-holds_inbox machine at.cores_at at.channels_at at.cores_at (all_units kinds) (all_words kinds) links r.turns.1 r.turns.1.cores_near))
    (cores-wait_all machine at.cores_at at.channels_at (all_units kinds) (all_words kinds) links r.turns.1) in
    let early : AreEarly s kinds.cores.first c.deref_mut.result.now c.go_on.new.traffic.links =
    subst (AreEarly s kinds.cores.first c.deref_mut.result.now) (sym has_run.links)
    (subst (λ i. AreEarly s i c.deref_mut.result.now (links_after s at.channels_at until kinds.channels.first (length units) links)) (sym by_kind.cores_first)
    (subst (λ ws. AreEarly s 0 ws (links_after s at.channels_at until kinds.channels.first (length units) links)) (sym (c.deref_mut.ensures.value ∙ sym (take_at core_words words n by_kind.core_words)))
    (left-early s 0 (take n (all_words kinds)) at.channels_at until kinds.channels.first (length units) links waiting))) in
    let count : length lowered ≡ kinds.cores.words.len = (up.lowered early).count ∙ ap length c.deref_mut.ensures.value ∙ sym kinds.cores.words.ok.0 in
    let is_lowered : (with_items kinds.cores.words lowered).items ≡ lowered = with_items_is kinds.cores.words lowered count in (
      record {
        cores_first = by_kind.cores_first;
        channels_first = has_run.first ∙ by_kind.channels_first;
        cores_count = by_kind.cores_count;
        core_words = ap length is_lowered ∙ count ∙ kinds.cores.words.ok.0 ∙ by_kind.core_words;
      },
      subst (λ ws. AreInTurns machine at.cores_at until (core_units ++ moved.units.items) (ws ++ moved.words.items) c.take_up.new.links) (sym is_lowered)
          (subst (λ xs. AreInTurns machine at.cores_at until (xs ++ moved.units.items) (lowered ++ moved.words.items) c.take_up.new.links) (take_at core_units units n by_kind.cores_count)
          (channels-turned machine at.cores_at at.channels_at until (all_units kinds) moved.units.items (all_words kinds) lowered moved.words.items links c.take_up.new.links sent r.turns.1 r.order r.travels
          (has_run.count ∙ ap length (sym (drop_at core_units units n by_kind.cores_count)))
          (has_run.words ∙ ap length (sym (drop_at core_words words n by_kind.core_words)))
          (subst (λ i. WaitAll machine i until at.cores_at moved.units.items moved.words.items) (has_run.first ∙ by_kind.channels_first) has_run.wait)
          (has_run.sent ∙ ap₂ (λ i m. sent_by machine at.channels_at until i m) by_kind.channels_first many)
          (subst (λ ms. AreLowered s 0 ms (take n (all_words kinds)) lowered) c.deref_mut-2.ensures.value
          (subst (λ ws. AreLowered s 0 c.deref_mut-2.result.now ws lowered) (c.deref_mut.ensures.value ∙ sym (take_at core_words words n by_kind.core_words))
          (subst (λ i. AreLowered s i c.deref_mut-2.result.now c.deref_mut.result.now lowered) by_kind.cores_first (up.lowered early))))
          (up.links
          ∙ ap₂ {C = InFlight} (λ (x : InFlight) ms. record x { messages = fold insert_by_age x.messages ms })
          (has_run.links ∙ ap₂ {C = InFlight} (λ i m. links_after s at.channels_at until i m links) by_kind.channels_first many) c.deref_mut-2.ensures.value))),
    )
