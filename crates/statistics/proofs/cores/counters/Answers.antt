use Rattle.statistics.proofs.cores.counters.Goals as goal

pub returns : goal.returns
returns c = cc
