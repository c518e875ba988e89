-- `take` meets its contract: 4, then 5, or the cassette taken.
use mathlib.Core.Bool.{Bool, true}
use mathlib.Core.Path.{◌≡◌, sym, ◌∙◌, subst}
use mathlib.Core.List.{List}
use Prim.Native.Nat.{ℕ}
use Rattle.std.specs.Prelude.{Ok}
use Rattle.marks.specs.Taking.{TakenIs}
use Rattle.marks.specs.Cassettes.{is_cassette}
use Rattle.marks.proofs.Takes.{none_is, twice_is, added_is}
use Rattle.marks.proofs.take.Goals as goal

-- past the first test the number is a cassette's
one : {r : Bool} (n : ℕ) → r ≡ is_cassette n → r ≡ true → is_cassette n ≡ true
one n e t = sym e ∙ t

pub returns-then-not-is_cassette : goal.returns-then-not-is_cassette
returns-then-not-is_cassette c = none_is c.args.words.now c.args.c (sym c.is_cassette.ensures ∙ c.if-not-is_cassette.true)

pub returns-then-has : goal.returns-then-has
returns-then-has c =
    let a = c.args in
    twice_is a.words.now a.c (one a.c c.is_cassette.ensures c.if-not-is_cassette.false) (sym c.has.ensures ∙ c.if-has.true)

pub returns : goal.returns
returns c =
    let a = c.args in
    subst (λ (w : List ℕ). TakenIs a.words.now a.c w (Ok tt)) (sym c.mark.ensures)
    (added_is a.words.now a.c (one a.c c.is_cassette.ensures c.if-not-is_cassette.false) (sym c.has.ensures ∙ c.if-has.false))
