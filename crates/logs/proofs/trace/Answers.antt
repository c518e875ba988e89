-- `trace` meets its contract: a wrong length, or the entries.
use Rattle.store.proofs.Acceptance.{accepted_shaped}
use Rattle.logs.proofs.Following.{follow_entries}
use Rattle.logs.proofs.Tracing.{traced_wrong}
use Rattle.logs.proofs.trace.Goals as goal

pub returns-then-log-ne0 : goal.returns-then-log-ne0
returns-then-log-ne0 c = traced_wrong _ _ c.requires c.if-log-ne0.true

pub trace_entries-requires : goal.trace_entries-requires
trace_entries-requires c = accepted_shaped _ c.requires

pub returns : goal.returns
returns c = rw (follow_entries c.args.s.now c.args.log.now c.requires c.if-log-ne0.false) c.trace_entries.ensures
