-- The credits so far are taken, and no reply.
use Rattle.std.proofs.Common.{◌≡◌, length}
use Rattle.core_window.specs.Arriving.{IsByAge}
use Rattle.core_window.specs.CoreViews.{view_of}
use Rattle.core_window.specs.Stalled.{StaysBehind}
use Rattle.core_window.proofs.core_unit.Core.take_up_to_reply.Given as goal

abbrev pub invariant-credits : goal.invariant-credits
invariant-credits l = record {
  channels : length l.self.credits.items ≡ l.self.config.channels;
  by_age : IsByAge l.rest.credits.now;
  same : l.rest.replies.now ≡ l.fn.rest.replies.now;
  stays : StaysBehind l.first (view_of l.fn.self) l.fn.rest (view_of l.self) l.rest;
}

abbrev pub decreases-credits : goal.decreases-credits
decreases-credits l = length l.rest.credits.now
