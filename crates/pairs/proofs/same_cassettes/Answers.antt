-- `same_cassettes` meets its contract: the blanks, and then the marks.
use Rattle.std.proofs.lemmas.Bool.{eqb-true, eq-eqb}
use Rattle.stacks.proofs.Deciding.{decides_as, decides_by}
use Rattle.pairs.proofs.same_cassettes.Goals as goal

pub returns-then-j-k : goal.returns-then-j-k
returns-then-j-k c = decides_as (λ e. (e, c.if-j-k.true)) (λ e. e.0) c.same.ensures

pub returns-else-j-k : goal.returns-else-j-k
returns-else-j-k c =
    decides_by _ (λ e. absurd (c.if-j-k.false (eqb-true _ _ e))) (λ e. eq-eqb _ _ e.1)
