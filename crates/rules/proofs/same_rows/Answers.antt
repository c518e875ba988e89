-- `same_rows` meets its contract: the two stretches of the slots are compared.
use mathlib.Core.Path.{sym, ◌∙◌}
use native.Mathlib.Omega.{arith}
use Rattle.std.proofs.lemmas.Bool.Decides.{Decides-eqb}
use Rattle.std.proofs.lemmas.Slice.Eq.{slice_eq-Decides}
use Rattle.stacks.proofs.Deciding.{decides_as, decides_by}
use Rattle.rules.proofs.Places.{rows_stretch}
use Rattle.rules.proofs.same_rows.Goals as goal

pub returns : goal.returns
returns c =
    let a = c.args in
    let j = rows_stretch a.a.now a.x a.k (omega arith) in
    let k = rows_stretch a.b.now a.x a.k (omega arith) in
    let d = slice_eq-Decides Decides-eqb _ _ _ c.eq.ensures in
    decides_as (λ e. j ∙ e ∙ sym k) (λ e. sym j ∙ e ∙ k) (decides_by _ d.0 d.1)
