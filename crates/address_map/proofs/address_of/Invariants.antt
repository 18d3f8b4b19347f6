-- The sum, with what the values that are left add to it, is the line's address; and all of it fits.
use Rattle.std.proofs.Common.{◌≡◌, ◌<◌, ◌≤◌, ◌+◌, ◌*◌, ◌^◌, drop}
use Rattle.address_map.specs.Digits.{number_of}
use Rattle.address_map.proofs.Joined.{room}
use Rattle.address_map.proofs.address_of.Given as goal

abbrev pub invariant-loop-field : goal.invariant-loop-field
invariant-loop-field l = record {
  sum : l.address + l.scale * number_of l.config l.place (drop l.field-index l.config.fields) ≡ 64 * number_of l.config l.place l.config.fields;
  below : l.address < l.scale;
  fits : l.scale * room (drop l.field-index l.config.fields) ≤ 2 ^ 44;
}
