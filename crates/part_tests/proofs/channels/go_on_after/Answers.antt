use Rattle.part_tests.proofs.channels.go_on_after.Goals as goal

pub send_all-requires : goal.send_all-requires
send_all-requires g c = c.send.ensures.open c.run_all.ensures
