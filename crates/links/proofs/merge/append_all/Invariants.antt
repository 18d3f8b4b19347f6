use Rattle.std.proofs.Common.{◌≡◌, ◌+◌, ◌++◌, take}
use Rattle.std.specs.Prelude.{vec_len, vec_capacity}
use Rattle.links.proofs.merge.append_all.Given as goal

abbrev pub invariant-loop-message : goal.invariant-loop-message
invariant-loop-message l = record {
  items : l.list.items ≡ l.initial.list.items ++ take l.message-index l.messages;
  len : vec_len l.list ≡ vec_len l.initial.list + l.message-index;
  capacity : vec_capacity l.list ≡ vec_capacity l.initial.list;
}
