-- `make_two` meets its contract: the shift that it writes leads from start to goal.
use native.Mathlib.Omega.{arith}
use Rattle.making.proofs.Shifted.{heights_fit, made_down, made_up}
use Rattle.making.proofs.make_two.Goals as goal

pub put_shift-requires : goal.put_shift-requires
put_shift-requires c =
    let p = c.requires in
    record { k_in_bounds = omega (arith, p.start_in_bounds, heights_fit _ _ p.comparable p.m_bound.0); from_bound = omega arith }

pub returns-then-b-a : goal.returns-then-b-a
returns-then-b-a c = let p = c.requires in made_down _ _ p.comparable p.m_bound.0 _ p.m_bound.1 (omega arith) c.put_shift.ensures

pub put_shift-requires-2 : goal.put_shift-requires-2
put_shift-requires-2 c =
    let p = c.requires in
    record { k_in_bounds = omega (arith, p.start_in_bounds, heights_fit _ _ p.comparable p.m_bound.0); from_bound = omega arith }

pub returns : goal.returns
returns c = let p = c.requires in made_up _ _ p.comparable p.m_bound.0 _ p.m_bound.1 (omega arith) c.put_shift-2.ensures
