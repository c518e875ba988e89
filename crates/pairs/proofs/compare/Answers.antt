-- `compare` meets its contract: the start, the goal, 8, then 9 by the marks and the blanks.
use mir.Syntax.{w64}
use mir.Val.{Fits}
use native.Mathlib.Omega.{arith}
use borrow.Author.Rules.{rules}
use lib.ListN.{get_or}
use Rattle.store.proofs.Acceptance.{accepted_most}
use Rattle.reach.proofs.Sets.{frames_agree}
use Rattle.pairs.proofs.Answers.{n_counted}
use Rattle.pairs.proofs.Faults.{accepted_marks, frames_differ, cassettes_differ, cassettes_agree}
use Rattle.pairs.proofs.compare.Goals as goal

pub returns-then-not-same_frame : goal.returns-then-not-same_frame
returns-then-not-same_frame c =
    let s = accepted_marks _ _ _ c.check.ensures c.in_ok-marks.ensures.cases in
    let t = accepted_marks _ _ _ c.check-2.ensures c.in_ok-goal_marks.ensures.cases in
    ((s.0, t.0), frames_differ _ _ (c.same_frame.ensures.not_so c.if-not-same_frame.true))

pub returns-then-not-same_cassettes : goal.returns-then-not-same_cassettes
returns-then-not-same_cassettes c =
    let s = accepted_marks _ _ _ c.check.ensures c.in_ok-marks.ensures.cases in
    let t = accepted_marks _ _ _ c.check-2.ensures c.in_ok-goal_marks.ensures.cases in (
      (s.0, t.0),
      (
        frames_agree _ _ (c.same_frame.ensures.so c.if-not-same_frame.false),
        cassettes_differ _ _ _ _ s t c.blanks_of-blanks.ensures c.blanks_of-goal_blanks.ensures
            (λ i. let f : Fits w64 (get_or c.in_ok-marks.marks i 0) = search rules in f.fits)
            (λ i. let f : Fits w64 (get_or c.in_ok-goal_marks.goal_marks i 0) = search rules in f.fits)
            (c.same_cassettes.ensures.not_so c.if-not-same_cassettes.true),
      ),
    )

pub overflow_add-n : goal.overflow_add-n
overflow_add-n c =
    let s = accepted_marks _ _ _ c.check.ensures c.in_ok-marks.ensures.cases in
    omega (arith, n_counted _ _ s c.count.ensures c.blanks_of-blanks.ensures, accepted_most _ s.0)

pub returns : goal.returns
returns c =
    let s = accepted_marks _ _ _ c.check.ensures c.in_ok-marks.ensures.cases in
    let t = accepted_marks _ _ _ c.check-2.ensures c.in_ok-goal_marks.ensures.cases in (
      cassettes_agree _ _ _ _ s t c.blanks_of-blanks.ensures c.blanks_of-goal_blanks.ensures (c.same_frame.ensures.so c.if-not-same_frame.false)
          (c.same_cassettes.ensures.so c.if-not-same_cassettes.false),
      n_counted _ _ s c.count.ensures c.blanks_of-blanks.ensures,
    )
