-- The laws, as they are proved.
use Rattle.laws.proofs.Replying.{core_adds_up}
use Rattle.laws.proofs.Summing.{channel_adds_up}
use Rattle.laws.proofs.request_totals.totals.requests_add_up.Goals as goal

pub returns-clause-cores : goal.returns-clause-cores
returns-clause-cores c s traces n core l = core_adds_up s traces n core

pub returns-clause-channels : goal.returns-clause-channels
returns-clause-channels c s traces n channel l = channel_adds_up s traces n channel l
