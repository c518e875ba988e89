-- `trace_entries` meets its contract: the next entry is followed, or stops it.
use mathlib.Core.List.{List}
use mathlib.Core.Path.{ap, ◌∙◌}
use Prim.Native.Nat.{ℕ, ◌*◌}
use native.Mathlib.Omega.{arith}
use Rattle.bits.specs.Fields.{bits_of}
use Rattle.entries.specs.Entries.{entry_in}
use Rattle.logs.proofs.Runs.{slice_after}
use Rattle.logs.proofs.Tracing.{goes_through, goes_stopped, goes_on}
use Rattle.logs.proofs.trace_entries.Goals as goal

pub returns-in-Err : goal.returns-in-Err
returns-in-Err c =
    let d = c.first_entry-e.ensures ∙ ap (λ (l : List ℕ). entry_in (bits_of l)) (slice_after (3 * c.loop-entry.entry) c.args.log.now) in
    goes_stopped _ _ _ _ c.loop-entry.invariant (omega (arith, c.loop-entry-test.true)) d _ c.in-Err.ensures

pub loop-entry-preserved : goal.loop-entry-preserved
loop-entry-preserved c =
    let d = c.first_entry-e.ensures ∙ ap (λ (l : List ℕ). entry_in (bits_of l)) (slice_after (3 * c.loop-entry.entry) c.args.log.now) in
    goes_on _ _ _ _ c.loop-entry.invariant (omega (arith, c.loop-entry-test.true)) d c.in_default.ensures

pub returns : goal.returns
returns c = goes_through _ _ _ _ c.loop-entry.invariant (omega arith)
