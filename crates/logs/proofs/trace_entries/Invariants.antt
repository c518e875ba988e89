-- `trace_entries` meets its contract. The invariant: following the whole log goes on from the store reached with what is left of the log.
use Rattle.logs.proofs.Tracing.{Goes}
use Rattle.logs.proofs.trace_entries.Given as goal

abbrev pub invariant-loop-entry : goal.invariant-loop-entry
invariant-loop-entry l = Goes l.initial.s l.log l.s l.entry
