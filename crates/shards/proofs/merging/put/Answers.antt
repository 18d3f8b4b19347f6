use Rattle.std.proofs.Common.{◌≡◌, Some, None, [], ◌∷◌, ◌++◌, true, get_or, ap, sym, subst, ◌∙◌}
use Rattle.std.specs.Prelude.{is_some}
use Rattle.std.proofs.Math.ListN.{set}
use Rattle.sim_base.specs.declared.fault.MergeFault.TheVariants.{Stranger, Double}
use Rattle.shards.specs.Merging.{fault_at, is_among, names_of, results_at}
use Rattle.shards.proofs.Placing.{fault-stranger, fault-double, fault-none, results-put, taken-name, among-own, job-is}
use Rattle.shards.proofs.merging.put.Goals as goal

pub returns-then-not-is_of_phase-clause-err : goal.returns-then-not-is_of_phase-clause-err
returns-then-not-is_of_phase-clause-err c names e len =
    let p = c.args.phase.now in
    ap (fault_at p names) (sym c.name-name.ensures)
    ∙ fault-stranger p names c.name-name.result (sym c.is_of_phase.ensures ∙ c.if-not-is_of_phase.true)
    ∙ ap (λ n. Some (Stranger n)) len

pub returns-then-is_filled-clause-err : goal.returns-then-is_filled-clause-err
returns-then-is_filled-clause-err c names e len =
    let p = c.args.phase.now in
    let name = c.name-name.result in
    let known = sym c.is_of_phase.ensures ∙ c.if-not-is_of_phase.false in
    let own = among-own p name known in
    let taken = taken-name p names name c.args.places.now.items e known
    ∙ ap (λ z. is_some (get_or z name.shard None)) (sym c.deref.ensures.value) ∙ sym c.is_filled.ensures ∙ c.if-is_filled.true in
    ap (fault_at p names) (sym c.name-name.ensures) ∙ fault-double p names name known taken ∙ ap (λ n. Some (Double n)) len

pub returns-clause-ok : goal.returns-clause-ok
returns-clause-ok c names e len =
    let p = c.args.phase.now in
    let name = c.name-name.result in
    let known = sym c.is_of_phase.ensures ∙ c.if-not-is_of_phase.false in
    let own = among-own p name known in
    let taken = taken-name p names name c.args.places.now.items e known
    ∙ ap (λ z. is_some (get_or z name.shard None)) (sym c.deref.ensures.value) ∙ sym c.is_filled.ensures ∙ c.if-is_filled.false in
    let of = c.requires.of (subst (λ n. is_among (names_of p) n ≡ true) c.name-name.ensures known) in (
      ap (fault_at p names) (sym c.name-name.ensures) ∙ fault-none p names name known taken,
      ap (λ z. set z name.shard (Some c.args.done)) e
          ∙ ap (λ d. set (results_at p names) name.shard (Some d)) (job-is p name.shard c.args.done of.0 of.1 (own.1 ∙ c.name-name.ensures))
          ∙ results-put p names name.shard own.0
          ∙ ap (λ n. results_at p (names ++ n ∷ [])) (own.1 ∙ c.name-name.ensures),
    )
