-- `same_frame` meets its contract: the one test and the other are the two fields of `SameFrame`.
use Rattle.std.proofs.lemmas.Bool.{eqb-true, eq-eqb}
use Rattle.std.proofs.lemmas.Bool.Decides.{Decides-eqb}
use Rattle.std.proofs.lemmas.Slice.Eq.{slice_eq-Decides}
use Rattle.stacks.proofs.Deciding.{decides_as, decides_by}
use Rattle.pairs.proofs.same_frame.Goals as goal

pub returns-then-s-t : goal.returns-then-s-t
returns-then-s-t c =
    let d = slice_eq-Decides Decides-eqb _ _ _ c.eq.ensures in
    decides_as (λ e. record { shafts = c.if-s-t.true; depths = e }) (λ f. f.depths) (decides_by _ d.0 d.1)

pub returns-else-s-t : goal.returns-else-s-t
returns-else-s-t c =
    decides_by _ (λ e. absurd (c.if-s-t.false (eqb-true _ _ e))) (λ f. eq-eqb _ _ f.shafts)
