use Rattle.std.proofs.Common.{◌≡◌, sym, subst}
use Rattle.cell_code.specs.declared.code.Instr.{Instr}
use Rattle.code_rows.specs.Noting.{noted_all}
use Rattle.code_rows.specs.Placing.{code_of, function_of}
use Rattle.code_rows.specs.Rows.{row_kept}
use Rattle.code_rows.proofs.asked_row.row.Goals as goal

pub returns-in-Const-clause-noted : goal.returns-in-Const-clause-noted
returns-in-Const-clause-noted c =
    let p = c.args.place.now in
    let noted : Instr → Type 0 = λ x. c.row_const.new.least.first ≡ noted_all p.number p.at c.args.least.now.first (row_kept (code_of p) (function_of p) c.args.registers.now.kinds x) in
    subst noted (sym c.in-Const.is) (c.row_const.ensures.noted c.in-Const.value)

pub returns-in-Arith-clause-noted : goal.returns-in-Arith-clause-noted
returns-in-Arith-clause-noted c =
    let p = c.args.place.now in
    let noted : Instr → Type 0 = λ x. c.row_arith.new.least.first ≡ noted_all p.number p.at c.args.least.now.first (row_kept (code_of p) (function_of p) c.args.registers.now.kinds x) in
    subst noted (sym c.in-Arith.is) (c.row_arith.ensures.noted c.in-Arith.line c.in-Arith.col)

pub returns-in-Test-clause-noted : goal.returns-in-Test-clause-noted
returns-in-Test-clause-noted c =
    let p = c.args.place.now in
    let noted : Instr → Type 0 = λ x. c.row_test.new.least.first ≡ noted_all p.number p.at c.args.least.now.first (row_kept (code_of p) (function_of p) c.args.registers.now.kinds x) in
    subst noted (sym c.in-Test.is) c.row_test.ensures.noted

pub returns-in-TestInt-clause-noted : goal.returns-in-TestInt-clause-noted
returns-in-TestInt-clause-noted c =
    let p = c.args.place.now in
    let noted : Instr → Type 0 = λ x. c.row_test_int.new.least.first ≡ noted_all p.number p.at c.args.least.now.first (row_kept (code_of p) (function_of p) c.args.registers.now.kinds x) in
    subst noted (sym c.in-TestInt.is) (c.row_test_int.ensures.noted c.in-TestInt.value)
