-- `make_row` meets its contract. The invariant: the lifts of the sets passed are written.
use Prim.Native.Nat.{◌<◌}
use native.Mathlib.Numerals.{add-one}
use native.Mathlib.Omega.{arith}
use lib.ListN.{length, length-drop, length-take}
use Rattle.store.proofs.Space.{list_space_most}
use Rattle.part_lists.proofs.RowLists.{none_yet, next_most, next_room, one_more, all_made}
use Rattle.part_lists.proofs.make_row.Goals as goal

pub loop-some-init : goal.loop-some-init
loop-some-init c =
    let p = c.requires in
    record { made = none_yet _ _ p.comparable _ p.disjoint _ p.start_in_bounds }

pub slice_bounds-make_part-count : goal.slice_bounds-make_part-count
slice_bounds-make_part-count c =
    let p = c.requires in
    omega (arith, next_room _ _ p.comparable _ p.disjoint _ p.start_in_bounds c.loop-some.invariant.made (omega arith))

pub slice_bounds-make_part-start : goal.slice_bounds-make_part-start
slice_bounds-make_part-start c =
    let p = c.requires in
    omega (arith, next_room _ _ p.comparable _ p.disjoint _ p.start_in_bounds c.loop-some.invariant.made (omega arith))

pub make_part-count-requires : goal.make_part-count-requires
make_part-count-requires c =
    let p = c.requires in
    let l = c.loop-some in
    let h : l.some-index < length c.args.row.now = omega arith in
    record {
      comparable = p.comparable;
      reachable = p.each_reachable.each l.some-index h;
      start_in_bounds = simp (length-take, length-drop) (omega (arith, next_room _ _ p.comparable _ p.disjoint _ p.start_in_bounds l.invariant.made h));
    }

pub overflow_add-count : goal.overflow_add-count
overflow_add-count c =
    let p = c.requires in
    let l = c.loop-some in
    omega (arith, next_most _ _ p.comparable _ p.disjoint _ p.start_in_bounds l.invariant.made (omega arith), list_space_most _ p.comparable.start, c.make_part-count.ensures.short)

pub loop-some-preserved : goal.loop-some-preserved
loop-some-preserved c =
    let p = c.requires in
    let l = c.loop-some in
    let h : l.some-index < length c.args.row.now = omega arith in
    record { made = rw add-one (one_more _ _ p.comparable _ p.disjoint _ p.start_in_bounds l.invariant.made h c.make_part-count.ensures) }

pub returns : goal.returns
returns c =
    let p = c.requires in
    let l = c.loop-some in
    all_made _ _ p.comparable _ p.disjoint _ p.start_in_bounds l.invariant.made p.each_reachable (omega arith)
