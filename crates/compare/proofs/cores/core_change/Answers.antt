-- The cores of both runs, and how many entries they retired.
use Rattle.std.specs.Prelude.{Some, slice_get}
use Rattle.std.proofs.Common.{◌≡◌, ◌∙◌, ap, ap₂, sym, rules}
use Rattle.std.proofs.lemmas.Option.{slice_get-get_or}
use Rattle.compare.specs.Changes.{change_of}
use Rattle.compare.specs.Cores.{change_of_core}
use Rattle.compare.specs.Quotients.{quotient}
use Rattle.compare.proofs.cores.core_change.Goals as goal

pub returns : goal.returns
returns c =
    let before = c.in_ok-before.before.now in
    let after = c.in_ok-after.after.now in
    let base_cores : c.deref.result.now ≡ c.args.base.now.cores = search rules in
    let run_cores : c.deref-2.result.now ≡ c.args.run.now.cores = search rules in
    let first = slice_get-get_or c.deref.result.now c.args.core before c.in_ok-before.ensures.lookup.3.0 ∙ ap Some (sym c.in_ok-before.ensures.lookup.1) in
    let second = slice_get-get_or c.deref-2.result.now c.args.core after c.in_ok-after.ensures.lookup.3.0 ∙ ap Some (sym c.in_ok-after.ensures.lookup.1) in
    let base_cycles : c.base.inside.cycles ≡ c.args.base.now.cycles = search rules in
    let run_cycles : c.run.inside.cycles ≡ c.args.run.now.cycles = search rules in
    c.change_of.ensures
    ∙ ap₂ change_of (c.rate.ensures.value ∙ ap (quotient before.retired) base_cycles) (c.rate-2.ensures.value ∙ ap (quotient after.retired) run_cycles)
    ∙ sym (ap₂ (change_of_core c.args.base.now.cycles c.args.run.now.cycles) first second)
    ∙ ap₂ (λ xs ys. change_of_core c.args.base.now.cycles c.args.run.now.cycles (slice_get xs c.args.core) (slice_get ys c.args.core)) base_cores run_cores
