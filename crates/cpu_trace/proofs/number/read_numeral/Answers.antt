use Rattle.std.proofs.Common.{◌≡◌, ◌+◌, ◌*◌, ◌≤◌, length, get_or, take, option_and_then, refl, sym, ap, ◌∙◌, arith}
use Rattle.std.proofs.lemmas.Bool.{lt-ltb, eqb-true, eqb-false}
use Rattle.std.proofs.lemmas.List.{take_all}
use Rattle.std.proofs.lemmas.List.Folds.{list_all_more}
use Rattle.std.specs.Char.{digit_value, is_digit}
use Rattle.std.specs.Option.{ok_or}
use Rattle.std.specs.Str.Parse.{digits_value}
use Rattle.sim_base.specs.declared.fault.LineCause.TheVariants.{TooLarge}
use Rattle.cpu_trace.specs.Numerals.{fitting}
use Rattle.cpu_trace.proofs.Digits.{fitting-below, fitting-more, numeral_of-empty, numeral_of-other, numeral_of-digits}
use Rattle.cpu_trace.proofs.number.read_numeral.Goals as goal

pub loop-byte-init : goal.loop-byte-init
loop-byte-init c = record { all_digits = refl; value = sym (fitting-below 0 (omega arith)) }

pub returns-in_default : goal.returns-in_default
returns-in_default c =
    let over : c.args.radix ≤ digit_value c.from.result = omega (arith, c.in_default.ensures.value) in
    sym (numeral_of-other c.args.radix c.args.digits.now c.loop-byte.byte-index c.loop-byte-test.true (rw c.from.ensures at over))

pub loop-byte-preserved : goal.loop-byte-preserved
loop-byte-preserved c =
    let digits = c.args.digits.now in
    let radix = c.args.radix in
    let i = c.loop-byte.byte-index in
    let digit = c.in-Some.ensures.value in
    let next : c.in-Some.digit ≡ digit_value (get_or digits i 0) = digit.1 ∙ ap digit_value c.from.ensures in
    record {
      all_digits = rw (list_all_more (λ d. is_digit d radix) digits i 0 c.loop-byte-test.true, c.loop-byte.invariant.all_digits) (lt-ltb _ _ (rw c.from.ensures at digit.0));
      value = c.with_digit-number.ensures ∙ ap (λ d. option_and_then (λ n. fitting (n * radix + d)) c.loop-byte.number) next ∙ fitting-more radix digits i c.loop-byte.number (omega arith) c.loop-byte-test.true c.loop-byte.invariant.value;
    }

pub returns-then-is_empty : goal.returns-then-is_empty
returns-then-is_empty c = sym (numeral_of-empty c.args.radix c.args.digits.now (eqb-true _ _ (sym c.is_empty.ensures ∙ c.if-is_empty.true)))

pub returns : goal.returns
returns c =
    let digits = c.args.digits.now in
    let radix = c.args.radix in
    let all : take c.loop-byte.byte-index digits ≡ digits = take_all _ digits (omega arith) in
    let some : length digits ≡ 0 → ⊥ = eqb-false _ _ (sym c.is_empty.ensures ∙ c.if-is_empty.false) in
    c.ok_or.ensures.value
    ∙ ap (λ n. ok_or n TooLarge) (c.loop-byte.invariant.value ∙ ap (λ ds. fitting (digits_value radix ds)) all)
    ∙ numeral_of-digits radix digits (omega (arith, some)) (rw all at c.loop-byte.invariant.all_digits)
