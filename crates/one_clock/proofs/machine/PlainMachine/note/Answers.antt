-- Each part is taken one cycle further.
use Rattle.std.proofs.Common.{◌∙◌}
use Rattle.std.proofs.lemmas.Result.{on_ok_weaker}
use Rattle.one_clock.proofs.machine.PlainMachine.note.Goals as goal

pub returns : goal.returns
returns c = on_ok_weaker c.note_flight.result (λ flight. record {
  cores = c.in_ok-note_cores.ensures {u = tt};
  channels = c.in_ok-note_channels.ensures {u = tt};
  core_counts = c.in_ok-count_cores.ensures {u = tt};
  channel_counts = c.in_ok-count_channels.ensures {u = tt};
  commands_are = c.in_ok-note_commands.ensures {u = tt};
  flight = flight;
}) c.note_flight.ensures

pub count_cores-requires : goal.count_cores-requires
count_cores-requires c = record { cores = c.deref.ensures.value ∙ c.requires.machine.cores; steps = c.requires.all.core_stops; counts = c.requires.machine.core_counts }

pub count_channels-requires : goal.count_channels-requires
count_channels-requires c =
    record { channels = c.deref-2.ensures.value ∙ c.requires.machine.channels; steps = c.requires.all.channel_steps; counts = c.requires.machine.channel_counts }

pub note_cores-requires : goal.note_cores-requires
note_cores-requires c = record { steps = c.requires.all.core_stops; sent = c.requires.all.sent; cores = c.requires.machine.cores }

pub note_channels-requires : goal.note_channels-requires
note_channels-requires c = record { steps = c.requires.all.channel_steps; sent = c.requires.all.sent; channels = c.requires.machine.channels }

pub note_commands-requires : goal.note_commands-requires
note_commands-requires c = record { steps = c.requires.all.channel_steps; issued = c.requires.machine.commands_are }

pub note_flight-requires : goal.note_flight-requires
note_flight-requires c = record { sent = c.requires.all.sent; flight = c.requires.machine.flight }
