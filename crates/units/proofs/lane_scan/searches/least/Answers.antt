use Rattle.units.proofs.LeastWord.{least_whole}
use Rattle.units.proofs.lane_scan.searches.least.Goals as goal

pub returns : goal.returns
returns c =
    let scan = c.least_from-least in
    least_whole c.args.words.now scan.result.0 scan.result.1 scan.ensures.rest scan.ensures.least
