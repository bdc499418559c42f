use Rattle.std.proofs.Common.{◌≡◌, ◌∙◌, ℕ, [], length, map, refl, sym, ap, subst}
use Rattle.std.specs.Prelude.{IfSome}
use Rattle.session_lines.specs.Said.{AreGiven, names_of}
use Rattle.session_lines.specs.session_semantics.Talk.{AreFree, IsTakenName}
use Rattle.session_correctness.specs.Lodging.{holding_of}
use Rattle.value_text.specs.Loaded.{types_of}
use Rattle.fip_session.specs.Planned.{AreHeldTo, CanTakeAll, TakesAll, IsBadAt, names_given, names_used}
use Rattle.fip_session.proofs.Deciding.{no_entry, wrong_number, bad_argument, bad_result, planned, beyond, given_many, can_take_all, is_right, none_of}
use Rattle.fip_session.proofs.Resulting.{as_many}
use Rattle.fip_session.proofs.plan.plan_of.Goals as goal

pub returns-in_default-clause-refused : goal.returns-in_default-clause-refused
returns-in_default-clause-refused c = λ o s ls book held line gs given some.
    no_entry o s c.args.book.now ls book held (names_of c.args.line.now.results.items) c.args.line.now.entry.now gs some (c.in_default.ensures.none c.args.book.now.verified.now.code.functions.items book.entries refl)

pub returns-in_default-function-clause-refused : goal.returns-in_default-function-clause-refused
returns-in_default-function-clause-refused c = λ o s ls book held line gs given some.
    let fs = c.args.book.now.verified.now.code.functions.items in
    let has = c.in-Some.ensures.same fs book.entries in
    absurd (beyond fs c.in-Some.entry has.function (c.in_default-function.ensures.none refl) has.there)

pub returns-then-not-has_right_numbers-clause-refused : goal.returns-then-not-has_right_numbers-clause-refused
returns-then-not-has_right_numbers-clause-refused c = λ o s ls book held line gs given some.
    let fs = c.args.book.now.verified.now.code.functions.items in
    let has = c.in-Some.ensures.same fs book.entries in
    let ns = c.args.line.now.results.items in
    wrong_number o s c.args.book.now ls book held (names_of ns) c.args.line.now.entry.now gs c.in-Some.entry c.in-Some-function.function.now c.in-Some-function.ensures.is has
    (λ p. let t = c.has_right_numbers.ensures.1 (sym (given_many c.args.bytes.now c.args.line.now.arguments.items gs given) ∙ p.0, sym (as_many ns) ∙ p.1) in let f = c.if-not-has_right_numbers.true in cc)

pub returns-in-Some-bad-clause-refused : goal.returns-in-Some-bad-clause-refused
returns-in-Some-bad-clause-refused c = λ o s ls book held line gs given some.
    let b = c.args.book.now in
    let fs = b.verified.now.code.functions.items in
    let has = c.in-Some.ensures.same fs book.entries in
    let f = c.in-Some-function.function.now in
    let there = c.in-Some-function.ensures.is in
    let ns = c.args.line.now.results.items in
    let bytes = c.args.bytes.now in
    let hs = map holding_of ls in
    let P = c.as_slice-params.ensures.same in
    let right = is_right c.has_right_numbers.result c.has_right_numbers.ensures c.if-not-has_right_numbers.false in
    let many = given_many bytes c.args.line.now.arguments.items gs given ∙ right.0 in
    let can = subst (λ xs. CanTakeAll b.table.now (types_of xs) bytes) (sym P) (can_take_all o b ls c.in-Some.entry f bytes book there line) in
    let given' = subst (λ xs. AreGiven bytes xs gs) (sym c.as_slice.ensures.value) given in
    let wrong = c.in_ok-bad.ensures.wrong can ls book.finds gs given' (many ∙ sym (ap length P)) in
    let bad = subst (λ o. IfSome o (IsBadAt b.table.now hs (names_given c.none-arguments.result.given.items) c.as_slice-params.result.now gs)) c.in-Some-bad.is wrong in
    bad_argument o s b ls book held (names_of ns) c.args.line.now.entry.now gs c.in-Some.entry f there has many (as_many ns ∙ right.1) c.in-Some-bad.number
    (subst (λ xs. IsBadAt b.table.now hs (names_given xs) f.params gs c.in-Some-bad.number) c.none-arguments.ensures.given (subst (λ xs. IsBadAt b.table.now hs (names_given c.none-arguments.result.given.items) xs gs c.in-Some-bad.number) P bad))

pub returns-in-Some-bad_result-clause-refused : goal.returns-in-Some-bad_result-clause-refused
returns-in-Some-bad_result-clause-refused c = λ o s ls book held line gs given some.
    let b = c.args.book.now in
    let fs = b.verified.now.code.functions.items in
    let has = c.in-Some.ensures.same fs book.entries in
    let f = c.in-Some-function.function.now in
    let there = c.in-Some-function.ensures.is in
    let ns = c.args.line.now.results.items in
    let bytes = c.args.bytes.now in
    let hs = map holding_of ls in
    let P = c.as_slice-params.ensures.same in
    let right = is_right c.has_right_numbers.result c.has_right_numbers.ensures c.if-not-has_right_numbers.false in
    let many = given_many bytes c.args.line.now.arguments.items gs given ∙ right.0 in
    let can = subst (λ xs. CanTakeAll b.table.now (types_of xs) bytes) (sym P) (can_take_all o b ls c.in-Some.entry f bytes book there line) in
    let given' = subst (λ xs. AreGiven bytes xs gs) (sym c.as_slice.ensures.value) given in
    let all = c.in_ok-bad.ensures.takes can ls book.finds gs given' (many ∙ sym (ap length P)) (none_of c.in_ok-bad.bad c.in_default-bad.not-Some) in
    let all' = subst (λ xs. TakesAll b.table.now hs xs gs c.none-arguments.result c.accept_all.new.self) P all in
    let bad = c.in-Some-bad_result.ensures.bad ls book.finds in
    bad_result o s b ls book held (names_of ns) c.args.line.now.entry.now gs c.in-Some.entry f there has many (as_many ns ∙ right.1) c.none-arguments.result c.accept_all.new.self c.none-arguments.ensures.given all' c.in-Some-bad_result.name.now
    (subst (λ xs. IsTakenName hs (names_used c.accept_all.new.self.given.items) [] (names_of xs) c.in-Some-bad_result.name.now) c.as_slice-2.ensures.value bad)

pub returns-clause-planned : goal.returns-clause-planned
returns-clause-planned c = λ o s ls book held line gs given.
    let b = c.args.book.now in
    let fs = b.verified.now.code.functions.items in
    let has = c.in-Some.ensures.same fs book.entries in
    let f = c.in-Some-function.function.now in
    let there = c.in-Some-function.ensures.is in
    let ns = c.args.line.now.results.items in
    let bytes = c.args.bytes.now in
    let hs = map holding_of ls in
    let P = c.as_slice-params.ensures.same in
    let right = is_right c.has_right_numbers.result c.has_right_numbers.ensures c.if-not-has_right_numbers.false in
    let many = given_many bytes c.args.line.now.arguments.items gs given ∙ right.0 in
    let can = subst (λ xs. CanTakeAll b.table.now (types_of xs) bytes) (sym P) (can_take_all o b ls c.in-Some.entry f bytes book there line) in
    let given' = subst (λ xs. AreGiven bytes xs gs) (sym c.as_slice.ensures.value) given in
    let all = c.in_ok-bad.ensures.takes can ls book.finds gs given' (many ∙ sym (ap length P)) (none_of c.in_ok-bad.bad c.in_default-bad.not-Some) in
    let all' = subst (λ xs. TakesAll b.table.now hs xs gs c.none-arguments.result c.accept_all.new.self) P all in
    let free = c.in_default-bad_result.ensures.none ls book.finds refl in
    planned o s b ls book held (names_of ns) c.args.line.now.entry.now gs c.in-Some.entry f there has many (as_many ns ∙ right.1) c.none-arguments.result c.accept_all.new.self c.none-arguments.ensures.given all'
    (record { entry = c.in-Some.entry; function = c.in-Some-function.function; arguments = c.accept_all.new.self }) refl refl refl c.none-arguments.ensures.fresh
    (subst (λ xs. AreFree hs (names_used c.accept_all.new.self.given.items) [] (names_of xs)) c.as_slice-2.ensures.value free)

pub returns-clause-held : goal.returns-clause-held
returns-clause-held c =
    let right = is_right c.has_right_numbers.result c.has_right_numbers.ensures c.if-not-has_right_numbers.false in
    let many = right.0 ∙ sym (ap length c.as_slice-params.ensures.same) in
    let held = c.in_ok-bad.ensures.held (none_of c.in_ok-bad.bad c.in_default-bad.not-Some) in
    subst (λ n. AreHeldTo n c.args.book.now.held c.args.line.now.arguments.items) (sym many) (subst (AreHeldTo (length c.as_slice-params.result.now) c.args.book.now.held) c.as_slice.ensures.value held)
