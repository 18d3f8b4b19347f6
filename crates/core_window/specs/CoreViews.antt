-- What contracts see of a core.
--     view_of core      what a core keeps, but for what follows from it
use Rattle.core_window.specs.Views.{CoreView}
use Rattle.core_window.specs.Waiting.{waiting}
use Rattle.core_window.specs.declared.core_unit.Core.{Core}

-- what a core keeps, but for the digits of an address, the latencies and the memory entries ahead, which follow from it
abbrev pub view_of : Core → CoreView
view_of c =
    record {
      config = c.config;
      core = c.id;
      trace = c.trace;
      now = c.cycle;
      outstanding = waiting c.outstanding;
      credits = c.credits.items;
      stats = c.stats;
    }
