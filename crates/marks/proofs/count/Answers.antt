-- `count` meets its contract: after some words the sum is the ones of these.
use borrow.Author.Rules.{rules}
use mathlib.Core.Path.{◌≡◌, refl}
use native.Mathlib.Numerals.{add-one}
use native.Mathlib.Omega.{arith}
use lib.ListN.{length}
use Rattle.marks.specs.Marking.{mark_words, mark_count}
use Rattle.marks.proofs.MarkLaws.{count_more}
use Rattle.marks.proofs.count.Goals as goal

pub loop-w-init : goal.loop-w-init
unfolding mark_count
loop-w-init c = (refl, omega arith)

pub loop-w-preserved : goal.loop-w-preserved
loop-w-preserved c =
    let n : length c.args.words ≡ mark_words = search rules in
    let more = count_more c.args.words c.loop-w.w-index (omega arith) in
    (rw add-one (omega (arith, more, c.ones_of-n.ensures.ones)), omega (arith, c.ones_of-n.ensures.most))
