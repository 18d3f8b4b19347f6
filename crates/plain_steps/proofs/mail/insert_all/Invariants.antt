-- The messages so far are in.
use Rattle.std.proofs.Common.{◌≡◌, take}
use Rattle.std.specs.Prelude.{fold}
use Rattle.sim_base.specs.History.{insert_by_age}
use Rattle.plain_steps.proofs.mail.insert_all.Given as goal

abbrev pub invariant-loop-m : goal.invariant-loop-m
invariant-loop-m l = l.mail.items ≡ fold insert_by_age l.initial.mail.items (take l.m-index l.more)
