use Rattle.std.proofs.Common.{◌-◌, length}
use Rattle.scan.proofs.listing.UnmarkedDisplay.fmt.Given as goal

abbrev pub decreases-loop-lines : goal.decreases-loop-lines
decreases-loop-lines g l = length l.self.0.now - l.from
