-- A field is refused, or read.
use Rattle.std.proofs.Common.{◌≡◌, ◌<◌, ◌≤◌, ◌∙◌, not, if◌then◌else◌, [], ◌∷◌, ◌++◌, length, get_or, sym, ap, Err}
use Rattle.toml.specs.Data.{as_str}
use Rattle.toml.specs.View.{view}
use Rattle.config_reader.specs.Document.Fields.{field_named}
use Rattle.config_reader.proofs.Refusing.{same_fault}
use Rattle.config_reader.proofs.TableViews.{refused_field, read_field, all_fields}
use Rattle.config_reader.proofs.fields.fields_named.Goals as goal

pub returns-in_err-field-clause-refused : goal.returns-in_err-field-clause-refused
returns-in_err-field-clause-refused c =
    let vs = c.args.array.now.items in
    let v = c.value-item.result in
    let same = c.deref-value-items.ensures.value in
    let short : c.loop-value.value-index < length vs = rw same at c.loop-value-test.true in
    let item : v ≡ get_or vs c.loop-value.value-index v = rw same at c.value-item.is in
    let refused = ap (λ w. field_named (as_str (view w))) (sym item) ∙ sym c.field_named.ensures ∙ c.in_err-field.was {u = tt} in
    let kept : c.from_residual.result ≡ Err c.in_err-field.field-0.0 = same_fault _ _ c.from_residual.ensures in
    rw kept (λ other. c.loop-value.invariant ∙ refused_field c.loop-value.fields.items c.in_err-field.field-0.0 vs c.loop-value.value-index v short refused)

pub loop-value-preserved : goal.loop-value-preserved
loop-value-preserved c =
    let vs = c.args.array.now.items in
    let v = c.value-item.result in
    let xs = c.loop-value.fields.items in
    let x = c.in_ok-field.field in
    let same = c.deref-value-items.ensures.value in
    let short : c.loop-value.value-index < length vs = rw same at c.loop-value-test.true in
    let item : v ≡ get_or vs c.loop-value.value-index v = rw same at c.value-item.is in
    let read = ap (λ w. field_named (as_str (view w))) (sym item) ∙ sym c.field_named.ensures ∙ c.in_ok-field.was {u = tt} in
    let is_put = c.is_err.ensures.negation ∙ ap not c.if-is_err.false in
    let pushed : c.push.new.self.items ≡ xs ++ x ∷ [] = c.push.ensures.items ∙ ap (λ b. if b then (xs ++ x ∷ []) else xs) is_put in
    rw pushed (c.loop-value.invariant ∙ read_field xs x vs c.loop-value.value-index v short read)

pub returns-clause-ok : goal.returns-clause-ok
returns-clause-ok c =
    let vs = c.args.array.now.items in
    let none : length vs ≤ c.loop-value.value-index = rw c.deref-value-items.ensures.value at c.loop-value-test.false in
    c.loop-value.invariant ∙ all_fields c.loop-value.fields.items vs c.loop-value.value-index none
