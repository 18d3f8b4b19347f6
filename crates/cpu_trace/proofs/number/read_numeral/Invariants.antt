use Rattle.std.proofs.Common.{◌≡◌, take, true}
use Rattle.std.specs.Char.{is_digit}
use Rattle.std.specs.List.{list_all}
use Rattle.std.specs.Str.Parse.{digits_value}
use Rattle.cpu_trace.specs.Numerals.{fitting}
use Rattle.cpu_trace.proofs.number.read_numeral.Given as goal

abbrev pub invariant-loop-byte : goal.invariant-loop-byte
invariant-loop-byte l = record {
  all_digits : list_all (λ digit. is_digit digit l.radix) (take l.byte-index l.digits) ≡ true;
  value : l.number ≡ fitting (digits_value l.radix (take l.byte-index l.digits));
}
