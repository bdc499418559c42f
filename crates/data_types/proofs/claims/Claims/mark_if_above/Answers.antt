use Rattle.std.proofs.Common.{subst, sym}
use Rattle.data_types.specs.Marks.{Holds, with_mark}
use Rattle.data_types.specs.Steps.{GoesIf}
use Rattle.data_types.proofs.Stepping.{if_above, if_self}
use Rattle.data_types.proofs.claims.Claims.mark_if_above.Goals as goal

pub returns-then-is_asked_above : goal.returns-then-is_asked_above
returns-then-is_asked_above c = λ ds. (let given = Holds ds c.args.ty c.args.arguments.now in subst (GoesIf ds given c.args.self.now) (sym c.in_ok-mark.ensures) (subst (λ bs. GoesIf ds given c.args.self.now (with_mark c.args.self.now c.args.place c.args.ty bs)) (sym c.in_ok-copy.ensures.items) (if_above ds c.args.self.now c.args.place c.args.ty c.args.arguments.now (c.is_asked_above.ensures c.if-is_asked_above.true))))

pub returns-in_ok-file : goal.returns-in_ok-file
returns-in_ok-file c = λ ds. (let given = Holds ds c.args.ty c.args.arguments.now in subst (GoesIf ds given c.args.self.now) (sym c.in_ok-file.ensures) (if_self ds given c.args.self.now))
