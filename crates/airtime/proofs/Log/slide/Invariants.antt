-- `airtime::Log::slide` meets its contract: at each turn the totals of the records passed are those worked out afresh.
use Rattle.airtime.specs.Laws.{Held, Filling}
use Rattle.airtime.proofs.Log.slide.Given as goal

abbrev pub invariant-loop-i : goal.invariant-loop-i
invariant-loop-i l = Held l.self.starts.now l.self.bands.now l.self.seconds.now l.i l.tail l.held × Filling l.self.starts.now l.self.bands.now l.self.seconds.now l.initial.totals l.i l.totals
