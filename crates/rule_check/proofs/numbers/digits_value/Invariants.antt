-- The bytes so far are digits, and those that are left go on from their number.
use Rattle.std.proofs.Common.{◌≡◌, fold, drop}
use Rattle.std.specs.Char.{is_ascii_digit}
use Rattle.std.specs.List.{list_all}
use Rattle.rule_check.specs.Numbers.{capped_digit}
use Rattle.rule_check.proofs.numbers.digits_value.Given as goal

abbrev pub invariant-loop-byte : goal.invariant-loop-byte
invariant-loop-byte l = record {
  digits : list_all is_ascii_digit (drop l.byte-index l.text) ≡ list_all is_ascii_digit l.text;
  number : fold capped_digit l.number (drop l.byte-index l.text) ≡ fold capped_digit 0 l.text;
}
