use Rattle.std.proofs.Common.{◌∙◌, ℕ, refl, ap, subst}
use Rattle.std.specs.Prelude.{Ok, IfSome}
use Rattle.std.specs.declared.alloc.Global.{Global}
use Rattle.std.specs.declared.vec.Vec.{Vec}
use Rattle.value_text.specs.Loaded.{types_of}
use Rattle.session_lines.specs.Scanned.{left}
use Rattle.session_values.specs.Readable.{AreParams}
use Rattle.task_lines.proofs.Next.{moved}
use Rattle.task_lines.proofs.Calling.{IsReadCall, starts, whole_left, is_call, no_entry, no_values, within, never_past}
use Rattle.task_lines.proofs.task_line.task_of.Goals as goal

pub returns-in_default-find-clause-none : goal.returns-in_default-find-clause-none
returns-in_default-find-clause-none c = λ ok entries line same x call.
    let bytes = c.args.bytes.now in
    let first = c.new-scanner.result in
    let whole = whole_left bytes first c.new-scanner.ensures.start c.new-scanner.ensures.bytes in
    no_entry c.args.code.now bytes (left first) (left c.name.new.self) c.in-Some.name.now whole c.in-Some.ensures.read (λ n has. c.in_default-find.ensures.none c.args.code.now.functions.items entries refl n has) x call

pub returns-in_default-function_at-clause-none : goal.returns-in_default-function_at-clause-none
returns-in_default-function_at-clause-none c = λ ok entries line same x call.
    never_past c.args.code.now.functions.items c.in-Some.name.now c.in-Some-find.entry (c.in-Some-find.ensures.there c.args.code.now.functions.items entries) (c.in_default-function_at.ensures.none refl)

pub returns-in-Some-2-clause-there : goal.returns-in-Some-2-clause-there
returns-in-Some-2-clause-there c = within c.args.code.now.functions.items c.in-Some-find.entry c.in-Some-function_at.function.now c.in-Some-function_at.ensures.there

pub returns-in-Some-2-clause-read : goal.returns-in-Some-2-clause-read
returns-in-Some-2-clause-read c = λ ok entries line.
    let code = c.args.code.now in
    let bytes = c.args.bytes.now in
    let first = c.new-scanner.result in
    let next = c.name.new.self in
    let n = c.in-Some-find.entry in
    let f = c.in-Some-function_at.function.now in
    let there = c.in-Some-function_at.ensures.there in
    let at = moved bytes first next c.name.ensures.bytes c.name.ensures.within (starts bytes first c.new-scanner.ensures.start c.new-scanner.ensures.bytes) in
    let whole = whole_left bytes first c.new-scanner.ensures.start c.new-scanner.ensures.bytes in
    let params : AreParams code.types (types_of f.params) = record { table = ok.table; known = ok.known n f there } in
    let r = subst (λ o. IfSome o (λ (ps : Vec ℕ Global). IsReadCall code (left next) f bytes c.args.counts.now c.called.new.counts ps.items)) c.in-Some-2.is (c.in_ok-values.ensures.read at line params (ok.credits n f there)) in
    (record { entry = n; function = f; values = r.0 }, is_call code bytes first next c.in-Some.name.now n f r.0 whole c.in-Some.ensures.read (c.in-Some-find.ensures.there code.functions.items entries) there r.1, record { entry = refl; there = there; line = line; at = r.2 }, r.3)

pub returns-in-None-clause-none : goal.returns-in-None-clause-none
returns-in-None-clause-none c = λ ok entries line same x call.
    let code = c.args.code.now in
    let bytes = c.args.bytes.now in
    let first = c.new-scanner.result in
    let next = c.name.new.self in
    let n = c.in-Some-find.entry in
    let f = c.in-Some-function_at.function.now in
    let there = c.in-Some-function_at.ensures.there in
    let at = moved bytes first next c.name.ensures.bytes c.name.ensures.within (starts bytes first c.new-scanner.ensures.start c.new-scanner.ensures.bytes) in
    let whole = whole_left bytes first c.new-scanner.ensures.start c.new-scanner.ensures.bytes in
    let params : AreParams code.types (types_of f.params) = record { table = ok.table; known = ok.known n f there } in
    no_values code bytes (left first) (left next) c.in-Some.name.now n f ok whole c.in-Some.ensures.read (c.in-Some-find.ensures.there code.functions.items entries) there (λ vs called. c.called.ensures.none at line params (ok.credits n f there) (c.in_ok-values.was ∙ ap (λ o. Ok o) c.in-None.is) vs called) x call
