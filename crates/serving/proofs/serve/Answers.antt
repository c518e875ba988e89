-- `serve` meets its contract.
use mathlib.Core.Path.{refl}
use Rattle.serving.proofs.Servings.{already, leave_ready, bring_left, served_left, bring_from, served_from}
use Rattle.serving.proofs.serve.Goals as goal

pub returns-then-from-row : goal.returns-then-from-row
returns-then-from-row c = already c.requires.on_the_way c.requires.round_for c.args.count c.args.out.now _ refl c.if-from-shaft.true c.if-from-row.true

pub leave-off-requires : goal.leave-off-requires
leave-off-requires c =
    let p = leave_ready c.requires.on_the_way c.requires.round_for c.args.count c.args.out.now c.requires.f_in_bounds _ refl c.if-from-shaft.true c.if-from-row.false in
    record { held = p.0; can_leave = p.1.0; row_in_bounds = p.1.1 }

pub bring-requires : goal.bring-requires
bring-requires c =
    let p = bring_left c.requires.on_the_way c.requires.round_for c.args.count c.args.out.now c.requires.f_in_bounds _ refl c.if-from-shaft.true c.if-from-row.false c.leave-off.ensures in
    record { ready = p.0; to_in_bounds = p.1 }

pub returns-then-from-shaft : goal.returns-then-from-shaft
returns-then-from-shaft c = served_left c.requires.on_the_way c.requires.round_for c.args.count c.args.out.now c.requires.f_in_bounds _ refl c.if-from-shaft.true c.if-from-row.false c.leave-off.ensures c.bring.ensures

pub bring-requires-2 : goal.bring-requires-2
bring-requires-2 c =
    let p = bring_from c.requires.on_the_way c.requires.round_for c.args.count c.args.out.now c.requires.f_in_bounds _ refl c.if-from-shaft.false in
    record { ready = p.0; to_in_bounds = p.1 }

pub returns : goal.returns
returns c = served_from c.requires.on_the_way c.requires.round_for c.args.count c.args.out.now c.requires.f_in_bounds _ refl c.if-from-shaft.false c.bring-2.ensures
