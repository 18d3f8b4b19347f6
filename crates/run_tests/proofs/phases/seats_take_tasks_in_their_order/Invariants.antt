-- The board gets the name that it has.
use Rattle.run_tests.proofs.phases.seats_take_tasks_in_their_order.Given as goal

abbrev pub ghosts-take_in_turn : goal.ghosts-take_in_turn
ghosts-take_in_turn g a = record { table = a.blank.name }
