use Rattle.part_tests.proofs.channels.send_all.Goals as goal

pub loop-read-preserved : goal.loop-read-preserved
loop-read-preserved g c = c.send.ensures.open c.loop-read.invariant
