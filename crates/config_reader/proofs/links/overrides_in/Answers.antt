-- An override is refused, or read.
use Rattle.std.proofs.Common.{◌≡◌, ◌<◌, ◌≤◌, ◌∙◌, not, if◌then◌else◌, [], ◌∷◌, ◌++◌, length, get_or, sym, ap, Err}
use Rattle.std.proofs.lemmas.List.Elements.{All-push}
use Rattle.toml.specs.Data.{as_table}
use Rattle.sim_base.specs.Keys.{LatencyInRange}
use Rattle.toml.specs.View.{view}
use Rattle.config_reader.specs.Document.Links.{override_from}
use Rattle.config_reader.proofs.Refusing.{same_fault}
use Rattle.config_reader.proofs.TableViews.{refused_override, read_override, all_overrides}
use Rattle.config_reader.proofs.links.overrides_in.Goals as goal

pub returns-in_err-link-clause-refused : goal.returns-in_err-link-clause-refused
returns-in_err-link-clause-refused c =
    let vs = c.args.array.now.items in
    let v = c.value-item.result in
    let same = c.deref-value-items.ensures.value in
    let short : c.loop-value.value-index < length vs = rw same at c.loop-value-test.true in
    let item : v ≡ get_or vs c.loop-value.value-index v = rw same at c.value-item.is in
    let refused = ap (λ w. override_from (as_table (view w))) (sym item) ∙ sym c.override_in.ensures.value ∙ c.in_err-link.was {u = tt} in
    let kept : c.from_residual.result ≡ Err c.in_err-link.field-0.0 = same_fault _ _ c.from_residual.ensures in
    rw kept (λ other. c.loop-value.invariant.value ∙ refused_override c.loop-value.overrides.items c.in_err-link.field-0.0 vs c.loop-value.value-index v short refused)

pub loop-value-preserved : goal.loop-value-preserved
loop-value-preserved c =
    let vs = c.args.array.now.items in
    let v = c.value-item.result in
    let xs = c.loop-value.overrides.items in
    let x = c.in_ok-link.link in
    let same = c.deref-value-items.ensures.value in
    let short : c.loop-value.value-index < length vs = rw same at c.loop-value-test.true in
    let item : v ≡ get_or vs c.loop-value.value-index v = rw same at c.value-item.is in
    let read = ap (λ w. override_from (as_table (view w))) (sym item) ∙ sym c.override_in.ensures.value ∙ c.in_ok-link.was {u = tt} in
    let is_put = c.is_err.ensures.negation ∙ ap not c.if-is_err.false in
    let pushed : c.push.new.self.items ≡ xs ++ x ∷ [] = c.push.ensures.items ∙ ap (λ b. if b then (xs ++ x ∷ []) else xs) is_put in
    record {
      value = rw pushed (c.loop-value.invariant.value ∙ read_override xs x vs c.loop-value.value-index v short read);
      range = rw pushed (All-push (λ o. LatencyInRange o.latency) xs x c.loop-value.invariant.range (c.in_ok-link.ensures {u = tt}).range);
    }

pub returns-clause-ok : goal.returns-clause-ok
returns-clause-ok c =
    let vs = c.args.array.now.items in
    let none : length vs ≤ c.loop-value.value-index = rw c.deref-value-items.ensures.value at c.loop-value-test.false in
    c.loop-value.invariant.value ∙ all_overrides c.loop-value.overrides.items vs c.loop-value.value-index none
