-- `make_part` meets its contract.
use mathlib.Core.List.{List, ◌++◌}
use mathlib.Core.Path.{sym, ap, ◌∙◌, subst}
use Prim.Native.Nat.{ℕ}
use lib.ListN.{drop}
use Rattle.store.specs.declared.Store.{Store}
use Rattle.store.proofs.Acceptance.{accepted_shaped}
use Rattle.part_lists.specs.PartLists.{PartMade}
use Rattle.part_lists.proofs.MakingPart.{none_made, make_ready, made_fits, part_made}
use Rattle.part_lists.proofs.make_part.Goals as goal

pub part_of-a-requires : goal.part_of-a-requires
part_of-a-requires c = (accepted_shaped _ c.requires.comparable.start).shafts

pub returns-then-a-eq0 : goal.returns-then-a-eq0
returns-then-a-eq0 c =
    none_made _ _ _ c.requires.comparable _ (sym (ap (λ (u : Store). u.m) c.part_of-a.ensures) ∙ c.if-a-eq0.true)

pub part_of-b-requires : goal.part_of-b-requires
part_of-b-requires c = (accepted_shaped _ c.requires.comparable.goal).shafts

pub numbering_of-numbering-requires : goal.numbering_of-numbering-requires
numbering_of-numbering-requires c = (accepted_shaped _ c.requires.comparable.start).shafts

pub make-count-requires : goal.make-count-requires
make-count-requires c =
    let p = c.requires in
    let r = make_ready _ _ _ p.comparable c.part_of-a.ensures c.part_of-b.ensures c.if-a-eq0.false p.reachable p.start_in_bounds in
    record { comparable = r.0; rule = r.1.0; start_in_bounds = r.1.1 }

pub slice_bounds-rename-end : goal.slice_bounds-rename-end
slice_bounds-rename-end c =
    let p = c.requires in
    made_fits _ _ _ p.comparable c.part_of-a.ensures c.part_of-b.ensures c.make-count.ensures p.start_in_bounds

pub returns : goal.returns
returns c =
    subst (λ (w : List ℕ). PartMade c.args.some c.args.start c.args.goal c.args.out.now c.make-count.result (w ++ drop c.make-count.result c.make-count.new.out)) (sym c.rename.ensures)
    (part_made _ _ _ c.requires.comparable c.part_of-a.ensures c.part_of-b.ensures c.numbering_of-numbering.result c.numbering_of-numbering.ensures c.make-count.ensures)
