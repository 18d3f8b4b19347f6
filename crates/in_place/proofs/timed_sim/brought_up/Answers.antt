use Rattle.std.proofs.Common.{◌≡◌, length, sym, ap, subst, ◌∙◌, length-append, arith}
use Rattle.units.specs.Parts.{StandAt}
use Rattle.units.proofs.Standing.{stand-none}
use Rattle.units.specs.Wakes.{WaitAll}
use Rattle.in_place.proofs.Turning.{cores-wait, channels-wait}
use Rattle.in_place.proofs.timed_sim.brought_up.Goals as goal

pub bring_up-requires-clause-within : goal.bring_up-requires-clause-within
bring_up-requires-clause-within c =
    let none = ap length c.in_ok-parts.ensures.items in
    omega (arith, none, c.requires.by_kind.cores_count)

pub bring_up-requires-clause-words : goal.bring_up-requires-clause-words
bring_up-requires-clause-words c = c.requires.by_kind.core_words ∙ sym c.requires.by_kind.cores_count

pub bring_up-requires-clause-wait : goal.bring_up-requires-clause-wait
bring_up-requires-clause-wait c =
    let machine = c.args.machine.now in
    let now = c.args.now in
    let cores = c.args.kinds.cores in
    subst (λ n. WaitAll machine n now now cores.units.items cores.words.items) (sym (ap length c.in_ok-parts.ensures.items))
    (cores-wait machine now c.args.kinds c.requires.by_kind c.requires.wait)

pub bring_up-requires-clause-stand : goal.bring_up-requires-clause-stand
bring_up-requires-clause-stand c =
    subst (StandAt c.args.machine.now c.args.now) (sym c.in_ok-parts.ensures.items) (stand-none c.args.machine.now c.args.now)

pub bring_up-requires-2-clause-within : goal.bring_up-requires-2-clause-within
bring_up-requires-2-clause-within c =
    let kinds = c.args.kinds in
    let none = ap length c.in_ok-parts.ensures.items in
    let first = (c.in_ok-bring_up.ensures {u = tt}).count in
    omega (arith, none, first, c.requires.count, length-append kinds.cores.units.items kinds.channels.units.items)

pub bring_up-requires-2-clause-words : goal.bring_up-requires-2-clause-words
bring_up-requires-2-clause-words c =
    let kinds = c.args.kinds in
    let units = length-append kinds.cores.units.items kinds.channels.units.items in
    let words = length-append kinds.cores.words.items kinds.channels.words.items in
    omega (arith, units, words, c.requires.words, c.requires.by_kind.cores_count, c.requires.by_kind.core_words)

pub bring_up-requires-2-clause-wait : goal.bring_up-requires-2-clause-wait
bring_up-requires-2-clause-wait c =
    let machine = c.args.machine.now in
    let now = c.args.now in
    let channels = c.args.kinds.channels in
    let none = ap length c.in_ok-parts.ensures.items in
    let first = (c.in_ok-bring_up.ensures {u = tt}).count in
    let at : machine.config.cores ≡ length c.bring_up.new.parts.items = omega (arith, none, first, c.requires.by_kind.cores_count) in
    subst (λ n. WaitAll machine n now now channels.units.items channels.words.items) at
    (channels-wait machine now c.args.kinds c.requires.by_kind c.requires.wait)

pub returns-clause-count : goal.returns-clause-count
returns-clause-count c =
    let kinds = c.args.kinds in
    let none = ap length c.in_ok-parts.ensures.items in
    let first = (c.in_ok-bring_up.ensures {u = tt}).count in
    let second = (c.in_ok-bring_up-2.ensures {u = tt}).count in
    omega (arith, none, first, second, c.requires.count, length-append kinds.cores.units.items kinds.channels.units.items)
