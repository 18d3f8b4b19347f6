use Rattle.std.proofs.Common.{◌≡◌, ◌++◌, length, take, drop, sym, ap, ap₂, subst, ◌∙◌, arith}
use Rattle.std.specs.Prelude.{fold}
use Rattle.std.specs.Vec.{with_items}
use Rattle.std.proofs.lemmas.List.{drop_at, take_at, with_items_is}
use Rattle.sim_base.specs.History.{insert_by_age}
use Rattle.links.specs.InFlight.{InFlight}
use Rattle.units.specs.Flight.{sent_by}
use Rattle.in_place.specs.Turns.{AreInTurns, all_units, all_words}
use Rattle.units.specs.Wakes.{WaitAll, HoldInboxes, AreEarly, AreLowered, links_after}
use Rattle.units.proofs.Early.{all-early, left-early}
use Rattle.in_place.proofs.Turning.{cores-holds_inbox, cores-wait_all, channels-holds_inbox, channels-wait_all, cores-turned, channels-many, channel-words_many}
use Rattle.in_place.proofs.taking_turns.cores_turn.Goals as goal

pub go_on-requires-clause-within : goal.go_on-requires-clause-within
go_on-requires-clause-within c =
    let by_kind = c.requires.turns.0 in
    omega (arith, by_kind.cores_first, by_kind.cores_count)

pub go_on-requires-clause-words : goal.go_on-requires-clause-words
go_on-requires-clause-words c =
    let by_kind = c.requires.turns.0 in
    by_kind.core_words ∙ sym by_kind.cores_count

pub go_on-requires-clause-wait : goal.go_on-requires-clause-wait
go_on-requires-clause-wait c =
    let machine = c.args.machine.now in
    let n = machine.config.cores in
    let at = c.args.at in
    let kinds = c.args.kinds.now in
    let turns = c.requires.turns in
    let units = kinds.cores.units.items in
    let words = kinds.cores.words.items in
    subst (λ i. WaitAll machine i at.cores_at at.channels_at units words) (sym turns.0.cores_first)
    (subst (λ ws. WaitAll machine 0 at.cores_at at.channels_at units ws) (take_at words kinds.channels.words.items n turns.0.core_words)
    (subst (λ xs. WaitAll machine 0 at.cores_at at.channels_at xs (take n (all_words kinds))) (take_at units kinds.channels.units.items n turns.0.cores_count)
    (cores-wait_all machine at.cores_at at.channels_at (all_units kinds) (all_words kinds) c.args.traffic.now.links turns.1)))

pub go_on-requires-clause-holds_inbox : goal.go_on-requires-clause-holds_inbox
go_on-requires-clause-holds_inbox c =
    let machine = c.args.machine.now in
    let at = c.args.at in
    let kinds = c.args.kinds.now in
    let links = c.args.traffic.now.links in
    let turns = c.requires.turns in
    subst (λ i. HoldInboxes machine i (length kinds.cores.units.items) at.cores_at at.channels_at c.args.until links) (sym turns.0.cores_first)
    (subst (λ m. HoldInboxes machine 0 m at.cores_at at.channels_at c.args.until links) (sym turns.0.cores_count)
    (cores-holds_inbox machine at.cores_at at.channels_at c.args.until (all_units kinds) (all_words kinds) links turns.1 c.requires.takes))

pub take_up-requires-clause-within : goal.take_up-requires-clause-within
take_up-requires-clause-within c =
    let turns = c.requires.turns in
    let count = ap length c.deref_mut.ensures.value ∙ channel-words_many c.args.machine.now c.args.at.cores_at c.args.at.channels_at c.args.kinds.now c.args.traffic.now.links turns.0 turns.1 in
    omega (arith, turns.0.channels_first, count)

pub take_up-requires-clause-channels : goal.take_up-requires-clause-channels
take_up-requires-clause-channels c =
    ap (λ (x : InFlight). x.channels) c.in_ok-go_on.ensures.links ∙ ap (λ (x : InFlight). x.channels) c.requires.turns.1.flight

pub returns-clause-turns : goal.returns-clause-turns
returns-clause-turns c =
    let machine = c.args.machine.now in
    let s = machine.config in
    let n = s.cores in
    let at = c.args.at in
    let until = c.args.until in
    let kinds = c.args.kinds.now in
    let links = c.args.traffic.now.links in
    let r = c.requires in
    let by_kind = r.turns.0 in
    let units = kinds.cores.units.items in
    let words = kinds.cores.words.items in
    let channel_units = kinds.channels.units.items in
    let channel_words = kinds.channels.words.items in
    let has_run = c.in_ok-go_on.ensures in
    let moved = c.go_on.new.range in
    let sent = c.go_on.new.traffic.sent.items in
    let up = c.in_ok-take_up.ensures in
    let lowered = c.take_up.new.words in
    let many = by_kind.cores_count in
    let wide : length channel_units ≡ s.channels = channels-many machine at.cores_at at.channels_at kinds links by_kind r.turns.1 in
    let waiting : AreEarly s n (drop n (all_words kinds)) links =
    all-early machine n at.channels_at at.cores_at (drop n (all_units kinds)) (drop n (all_words kinds)) links
    (ap length (drop_at words channel_words n by_kind.core_words) ∙ channel-words_many machine at.cores_at at.channels_at kinds links by_kind r.turns.1 ∙ sym wide ∙ sym (ap length (drop_at units channel_units n by_kind.cores_count)))
    (subst (λ m. HoldInboxes machine n m at.channels_at at.cores_at at.channels_at links) (sym (ap length (drop_at units channel_units n by_kind.cores_count) ∙ wide))
    (channels-holds_inbox machine at.cores_at at.channels_at at.channels_at (all_units kinds) (all_words kinds) links r.turns.1 r.turns.1.channels_near))
    (channels-wait_all machine at.cores_at at.channels_at (all_units kinds) (all_words kinds) links r.turns.1) in
    let early : AreEarly s kinds.channels.first c.deref_mut.result.now c.go_on.new.traffic.links =
    subst (AreEarly s kinds.channels.first c.deref_mut.result.now) (sym has_run.links)
    (subst (λ i. AreEarly s i c.deref_mut.result.now (links_after s at.cores_at until kinds.cores.first (length units) links)) (sym by_kind.channels_first)
    (subst (λ ws. AreEarly s n ws (links_after s at.cores_at until kinds.cores.first (length units) links)) (sym (c.deref_mut.ensures.value ∙ sym (drop_at words channel_words n by_kind.core_words)))
    (left-early s n (drop n (all_words kinds)) at.cores_at until kinds.cores.first (length units) links waiting))) in
    let count : length lowered ≡ kinds.channels.words.len = (up.lowered early).count ∙ ap length c.deref_mut.ensures.value ∙ sym kinds.channels.words.ok.0 in
    let is_lowered : (with_items kinds.channels.words lowered).items ≡ lowered = with_items_is kinds.channels.words lowered count in (
      record {
        cores_first = has_run.first ∙ by_kind.cores_first;
        channels_first = by_kind.channels_first;
        cores_count = has_run.count ∙ by_kind.cores_count;
        core_words = has_run.words ∙ by_kind.core_words;
      },
      subst (λ ws. AreInTurns machine until at.channels_at (moved.units.items ++ channel_units) (moved.words.items ++ ws) c.take_up.new.links) (sym is_lowered)
          (subst (λ xs. AreInTurns machine until at.channels_at (moved.units.items ++ xs) (moved.words.items ++ lowered) c.take_up.new.links) (drop_at units channel_units n by_kind.cores_count)
          (cores-turned machine at.cores_at at.channels_at until (all_units kinds) moved.units.items (all_words kinds) lowered moved.words.items links c.take_up.new.links sent r.turns.1 r.order r.takes
          (has_run.count ∙ ap length (sym (take_at units channel_units n by_kind.cores_count)))
          (has_run.words ∙ ap length (sym (take_at words channel_words n by_kind.core_words)))
          (subst (λ i. WaitAll machine i until at.channels_at moved.units.items moved.words.items) (has_run.first ∙ by_kind.cores_first) has_run.wait)
          (has_run.sent ∙ ap₂ (λ i m. sent_by machine at.cores_at until i m) by_kind.cores_first many)
          (subst (λ ms. AreLowered s n ms (drop n (all_words kinds)) lowered) c.deref_mut-2.ensures.value
          (subst (λ ws. AreLowered s n c.deref_mut-2.result.now ws lowered) (c.deref_mut.ensures.value ∙ sym (drop_at words channel_words n by_kind.core_words))
          (subst (λ i. AreLowered s i c.deref_mut-2.result.now c.deref_mut.result.now lowered) by_kind.channels_first (up.lowered early))))
          (up.links
          ∙ ap₂ {C = InFlight} (λ (x : InFlight) ms. record x { messages = fold insert_by_age x.messages ms })
          (has_run.links ∙ ap₂ {C = InFlight} (λ i m. links_after s at.cores_at until i m links) by_kind.cores_first many) c.deref_mut-2.ensures.value))),
    )
