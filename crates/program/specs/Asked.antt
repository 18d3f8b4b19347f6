-- What is asked, in the terms of what answers it.
--     sharing_of share      when the workers of a run share a machine out
use Rattle.command_line.specs.declared.words.Share.{Share}
use Rattle.command_line.specs.declared.words.Share.TheVariants.{Auto, Always}
use Rattle.simulation.specs.Sharing.{full_sharing, usual_sharing}
use Rattle.simulation.specs.declared.sharing.Sharing.{Sharing}

-- when the workers of a run share a machine out, by the word of `--share`
abbrev pub sharing_of : Share → Sharing
sharing_of Auto = usual_sharing
sharing_of Always = full_sharing
