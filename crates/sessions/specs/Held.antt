-- The list of the commands of a session, which grows at its end and is taken from its front.
--     commands_left held      what was not taken
--     HasCommands held      no more were taken than there are
use Rattle.std.specs.Prelude.{◌≤◌, List, length, drop}
use Rattle.sim_base.specs.declared.command.IssuedCommand.{IssuedCommand}
use Rattle.sessions.specs.declared.channel_session.held.HeldCommands.{HeldCommands}

-- what was not taken
abbrev pub commands_left : HeldCommands → List IssuedCommand
commands_left held = drop held.taken held.all

-- no more were taken than there are
abbrev pub HasCommands : HeldCommands → Type 0
HasCommands held = held.taken ≤ length held.all
