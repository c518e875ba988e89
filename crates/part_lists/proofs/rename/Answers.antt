-- `rename` meets its contract: one more byte is renamed.
use mathlib.Core.List.{List}
use mathlib.Core.Path.{ap, ap₂, ◌∙◌}
use Prim.Native.Nat.{ℕ, ◌<◌}
use native.Mathlib.Numerals.{add-one}
use native.Mathlib.Omega.{arith}
use lib.ListN.{length, get_or, set}
use Rattle.part_lists.specs.PartLists.{renamed}
use Rattle.part_lists.proofs.Renaming.{renamed_here, renamed_more, renamed_all}
use Rattle.part_lists.proofs.rename.Goals as goal

pub loop-b-preserved : goal.loop-b-preserved
loop-b-preserved c =
    let l = c.loop-b in
    let a = c.args in
    let h : l.b-index < length a.list.now = omega arith in
    let e = c.renamed_byte.ensures ∙ ap (λ (w : List ℕ). renamed a.names (get_or w l.b-index 0)) l.invariant ∙ ap (renamed a.names) (renamed_here (renamed a.names) a.list.now l.b-index h) in
    rw add-one (ap₂ (λ (w : List ℕ) (v : ℕ). set w l.b-index v) l.invariant e ∙ renamed_more (renamed a.names) a.list.now l.b-index h)

pub returns : goal.returns
returns c = c.loop-b.invariant ∙ renamed_all (renamed c.args.names) c.args.list.now c.loop-b.b-index (omega arith)
