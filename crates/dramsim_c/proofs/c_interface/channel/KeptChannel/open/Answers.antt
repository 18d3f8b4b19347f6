use Rattle.sessions.specs.Sessions.{IsOpen}
use Rattle.dramsim_c.proofs.CInterface.Keeping.{new-is-open, well-put}
use Rattle.dramsim_c.proofs.c_interface.channel.KeptChannel.open.Goals as goal

pub returns-clause-well : goal.returns-clause-well
returns-clause-well c =
    let session = c.in_ok-session.session.value in
    well-put IsOpen c.put.new.self.is_open c.put.new.self.handle.value session c.put.ensures.«open» c.put.ensures.session
    (new-is-open c.args.text.now c.args.number session (c.in_ok-session.ensures {u = tt}).opened)
