-- `times_in` meets its contract: the sets of the row that have the shaft are counted.
use borrow.Author.Rules.{rules}
use mathlib.Core.Path.{◌≡◌, sym, ◌∙◌}
use Rattle.std.specs.List.{count_by}
use Rattle.sets.specs.Sets.{has}
use Rattle.sets.proofs.RowLaws.{times_counted}
use Rattle.sets.proofs.times_in.Goals as goal

pub returns : goal.returns
returns c =
    let a = c.args in
    let e : c.count.result ≡ count_by (λ set. has set a.x) a.row.now = search rules in
    e ∙ sym (times_counted a.row.now a.x)
