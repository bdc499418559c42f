use Rattle.std.proofs.Common.{◌≡◌, ◌+◌, ◌∙◌, [], Some, refl, sym, ap, subst, arith, get_or}
use Rattle.std.specs.Prelude.{slice_get, slice_set}
use Rattle.std.specs.Int.{w64}
use Rattle.std.proofs.lemmas.Int.{to_z-of_z}
use mir.Val.{to_z, of_z}
use Rattle.fip_language.specs.Arithmetic.{operate}
use Rattle.machine_frames.specs.machine_semantics.Words.{int_of}
use Rattle.machine_cells.specs.Outcomes.{Reports, truth_word}
use Rattle.machine_step.specs.declared.rows.Stepped.TheVariants as S
use Rattle.machine_frames.proofs.Viewed.{frame_long}
use Rattle.machine_frames.specs.machine_semantics.Cells.{Store}
use Rattle.machine_frames.specs.machine_semantics.States.{State}
use Rattle.machine_cells.specs.Small.{store_of}
use Rattle.machine_step.specs.View.{words_of, state_of}
use Rattle.machine_step.proofs.RowNexts.{value_next, trap_next}
use Rattle.cell_code.specs.Plain.{plain}
use Rattle.machine_step.proofs.Goings.{alone, with_more, written_there}
use Rattle.machine_step.proofs.Helps.{signed_is, no_loop, reports_int, reports_int_not, reports_flag, reports_flag_not, reports_trap, reports_trap_not}
use Rattle.machine_step.proofs.rows.calculate.Goals as goal

pub returns-in-Int-clause-next : goal.returns-in-Int-clause-next
returns-in-Int-clause-next g c kinds ks s given lent =
    let v = c.args.verified.now in
    let b = c.args.bounds in
    let ws = c.args.words.now in
    let cursor = c.args.cursor.now in
    let room = c.requires.placed.room in
    let o = c.args.operation in
    let x = get_or ws (cursor.base + o.left) 0 in
    let y = get_or ws (cursor.base + o.right) 0 in
    let reported : Reports (operate o.operator (int_of x) (int_of y)) c.outcome_of.result = subst (λ j. Reports (operate o.operator (int_of x) j) c.outcome_of.result) (to_z-of_z w64 c.cast_signed-right.result (record { sfits = c.cast_signed-right.type_inv }) ∙ c.cast_signed-right.ensures ∙ signed_is y) (subst (λ i. Reports (operate o.operator i (to_z w64 (of_z w64 c.cast_signed-right.result))) c.outcome_of.result) (to_z-of_z w64 c.cast_signed-left.result (record { sfits = c.cast_signed-left.type_inv }) ∙ c.cast_signed-left.ensures ∙ signed_is x) c.outcome_of.ensures) in
    let op = operate o.operator (int_of x) (int_of y) in
    alone kinds (plain v.code) _ _ _ _ _ given (value_next v b ks lent s ws cursor c.write.result (state_of v b lent s c.write.new.words c.write.new.cursor) given c.args.register o.operator o.left o.right o.line o.col c.in-Int.word c.requires.register c.requires.left c.requires.right room (reports_int op c.outcome_of.result c.in-Int.word reported c.in-Int.is) (reports_int_not op c.outcome_of.result c.in-Int.word reported c.in-Int.is) c.write.ensures.went (c.write.ensures.state lent s))

pub returns-then-this-ne0-clause-next : goal.returns-then-this-ne0-clause-next
returns-then-this-ne0-clause-next g c kinds ks s given lent =
    let v = c.args.verified.now in
    let b = c.args.bounds in
    let ws = c.args.words.now in
    let cursor = c.args.cursor.now in
    let room = c.requires.placed.room in
    let o = c.args.operation in
    let x = get_or ws (cursor.base + o.left) 0 in
    let y = get_or ws (cursor.base + o.right) 0 in
    let reported : Reports (operate o.operator (int_of x) (int_of y)) c.outcome_of.result = subst (λ j. Reports (operate o.operator (int_of x) j) c.outcome_of.result) (to_z-of_z w64 c.cast_signed-right.result (record { sfits = c.cast_signed-right.type_inv }) ∙ c.cast_signed-right.ensures ∙ signed_is y) (subst (λ i. Reports (operate o.operator i (to_z w64 (of_z w64 c.cast_signed-right.result))) c.outcome_of.result) (to_z-of_z w64 c.cast_signed-left.result (record { sfits = c.cast_signed-left.type_inv }) ∙ c.cast_signed-left.ensures ∙ signed_is x) c.outcome_of.ensures) in
    let op = operate o.operator (int_of x) (int_of y) in
    let holds = c.in-Flag.holds in
    let word : c.bool_word.result ≡ truth_word holds = c.bool_word.ensures in
    let mid = state_of v b lent s c.write-in-Flag.new.words c.write-in-Flag.new.cursor in
    let new = state_of v b lent s c.write-in-Flag.new.words c.test_flag.new.cursor in
    with_more kinds (plain v.code) _ _ _ mid new given (λ once. no_loop _ once c.if-this-ne0.true) (value_next v b ks lent s ws cursor S.Went mid given c.args.register o.operator o.left o.right o.line o.col c.bool_word.result c.requires.register c.requires.left c.requires.right room (λ u e. reports_flag op c.outcome_of.result holds reported c.in-Flag.is u e ∙ sym word) (reports_flag_not op c.outcome_of.result holds reported c.in-Flag.is) refl (c.write-in-Flag.ensures.state lent s)) (c.test_flag.ensures.gone kinds s lent)

pub returns-else-this-ne0-clause-next : goal.returns-else-this-ne0-clause-next
returns-else-this-ne0-clause-next g c kinds ks s given lent =
    let v = c.args.verified.now in
    let b = c.args.bounds in
    let ws = c.args.words.now in
    let cursor = c.args.cursor.now in
    let room = c.requires.placed.room in
    let o = c.args.operation in
    let x = get_or ws (cursor.base + o.left) 0 in
    let y = get_or ws (cursor.base + o.right) 0 in
    let reported : Reports (operate o.operator (int_of x) (int_of y)) c.outcome_of.result = subst (λ j. Reports (operate o.operator (int_of x) j) c.outcome_of.result) (to_z-of_z w64 c.cast_signed-right.result (record { sfits = c.cast_signed-right.type_inv }) ∙ c.cast_signed-right.ensures ∙ signed_is y) (subst (λ i. Reports (operate o.operator i (to_z w64 (of_z w64 c.cast_signed-right.result))) c.outcome_of.result) (to_z-of_z w64 c.cast_signed-left.result (record { sfits = c.cast_signed-left.type_inv }) ∙ c.cast_signed-left.ensures ∙ signed_is x) c.outcome_of.ensures) in
    let op = operate o.operator (int_of x) (int_of y) in
    let holds = c.in-Flag.holds in
    let word : c.bool_word.result ≡ truth_word holds = c.bool_word.ensures in
    alone kinds (plain v.code) _ _ _ _ _ given (value_next v b ks lent s ws cursor S.Went (state_of v b lent s c.write-in-Flag.new.words c.write-in-Flag.new.cursor) given c.args.register o.operator o.left o.right o.line o.col c.bool_word.result c.requires.register c.requires.left c.requires.right room (λ u e. reports_flag op c.outcome_of.result holds reported c.in-Flag.is u e ∙ sym word) (reports_flag_not op c.outcome_of.result holds reported c.in-Flag.is) refl (c.write-in-Flag.ensures.state lent s))

pub returns-in-Trap-clause-next : goal.returns-in-Trap-clause-next
returns-in-Trap-clause-next g c kinds ks s given lent =
    let v = c.args.verified.now in
    let b = c.args.bounds in
    let ws = c.args.words.now in
    let cursor = c.args.cursor.now in
    let room = c.requires.placed.room in
    let o = c.args.operation in
    let x = get_or ws (cursor.base + o.left) 0 in
    let y = get_or ws (cursor.base + o.right) 0 in
    let reported : Reports (operate o.operator (int_of x) (int_of y)) c.outcome_of.result = subst (λ j. Reports (operate o.operator (int_of x) j) c.outcome_of.result) (to_z-of_z w64 c.cast_signed-right.result (record { sfits = c.cast_signed-right.type_inv }) ∙ c.cast_signed-right.ensures ∙ signed_is y) (subst (λ i. Reports (operate o.operator i (to_z w64 (of_z w64 c.cast_signed-right.result))) c.outcome_of.result) (to_z-of_z w64 c.cast_signed-left.result (record { sfits = c.cast_signed-left.type_inv }) ∙ c.cast_signed-left.ensures ∙ signed_is x) c.outcome_of.ensures) in
    let op = operate o.operator (int_of x) (int_of y) in
    alone kinds (plain v.code) _ _ _ _ _ given (trap_next v b ks lent s ws cursor (S.Trap c.in-Trap.kind o.line o.col) (state_of v b lent s ws cursor) given c.args.register o.operator o.left o.right o.line o.col c.in-Trap.kind c.requires.left c.requires.right room (reports_trap_not op c.outcome_of.result c.in-Trap.kind reported c.in-Trap.is) (reports_trap op c.outcome_of.result c.in-Trap.kind reported c.in-Trap.is) refl refl)

-- the register that was written has the bool's word
pub test_flag-requires-clause-word : goal.test_flag-requires-clause-word
test_flag-requires-clause-word g c =
    let v = c.args.verified.now in
    let b = c.args.bounds in
    let ws = c.args.words.now in
    let cursor = c.args.cursor.now in
    let register = c.args.register in
    let room = c.requires.placed.room in
    let s : Store = store_of [] [] in
    let same : words_of c.write-in-Flag.new.words c.write-in-Flag.new.cursor ≡ slice_set (words_of ws cursor) register c.bool_word.result = ap (λ (t : State). t.running.words) (c.write-in-Flag.ensures.state [] s) in
    let long = frame_long cursor.base cursor.registers ws room in
    ap (λ xs. slice_get xs register) same
    ∙ written_there (words_of ws cursor) register c.bool_word.result (omega (arith, long, c.requires.register))
    ∙ ap Some c.bool_word.ensures
