-- `airtime::Log::move_tail` meets its contract: at each turn what lies before the tail counts no more, and what is held is the rest.
use Rattle.airtime.specs.Laws.{Held}
use Rattle.airtime.proofs.Log.move_tail.Given as goal

abbrev pub invariant-loop-at : goal.invariant-loop-at
invariant-loop-at l = Held l.self.starts.now l.self.bands.now l.self.seconds.now l.i l.at l.held
