use Rattle.dramsim_c.proofs.CInterface.Giving.{command-given}
use Rattle.dramsim_c.proofs.c_interface.c_memory.memory.command_of.Goals as goal

pub returns-in-Some-clause-next : goal.returns-in-Some-clause-next
returns-in-Some-clause-next c pasts h =
    record { command = c.in-Some.command; is_next = (c.in-Some.ensures {u = tt}).next pasts h; row_is = c.of.ensures }

pub returns-in-Some-clause-taken : goal.returns-in-Some-clause-taken
returns-in-Some-clause-taken c pasts h =
    let next = c.in-Some.ensures {u = tt} in
    command-given c.next_command.new.self _ c.args.memory.now.cycle c.in-Some.number pasts c.in-Some.command (next.next pasts h) (next.taken pasts h)

pub returns-in-None-clause-taken : goal.returns-in-None-clause-taken
returns-in-None-clause-taken c pasts h = (c.in-None.ensures {u = tt}).taken pasts h
