use Rattle.std.proofs.Common.{◌≡◌, ◌-◌, get_or, length-set, ap, sym, ◌∙◌, arith}
use Rattle.sim_base.specs.History.{is_before}
use Rattle.links.proofs.Steps.{inserts_first, inserts_step, inserts_last}
use Rattle.links.proofs.buffers.insert_from_back.Goals as goal

pub searching-init : goal.searching-init
searching-init c = inserts_first c.args.message.now _ c.args.messages.now c.requires (omega arith)

pub is_younger_before-requires : goal.is_younger_before-requires
is_younger_before-requires c = omega (arith, c.searching.invariant.within, c.searching.invariant.length_is)

pub searching-preserved : goal.searching-preserved
searching-preserved c =
    let found = c.is_younger_before.ensures.some c.searching-test.true in
    inserts_step c.args.message.now _ c.searching.place _ _ found.0 found.1 c.searching.invariant

pub returns-clause-length : goal.returns-clause-length
returns-clause-length c = length-set c.searching.messages c.searching.place c.args.message.now ∙ c.searching.invariant.length_is

pub returns-clause-inserted : goal.returns-clause-inserted
returns-clause-inserted c =
    inserts_last _ c.searching.place _ _ c.searching.invariant
    (λ q f. let p : c.searching.place - 1 ≡ q = omega (arith, f) in
    ap (λ i. is_before c.args.message.now (get_or c.searching.messages i c.args.message.now)) (sym p)
    ∙ c.is_younger_before.ensures.none c.searching-test.false (omega (arith, f)) (omega (arith, c.searching.invariant.length_is, c.searching.invariant.within)))
