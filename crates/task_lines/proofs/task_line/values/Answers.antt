use Rattle.std.proofs.Common.{◌≡◌, ◌∙◌, ◌<◌, ◌≤◌, ◌∷◌, ℕ, length, get_or, sym, ap, subst, arith}
use Rattle.std.specs.Prelude.{Ok, IfSome, false}
use Rattle.fip_base.specs.declared.plain.Param.{Param}
use Rattle.session_lines.specs.session_semantics.Lines.{Close}
use Rattle.value_text.specs.Loaded.{types_of}
use Rattle.session_lines.proofs.Tokens.{sign_close}
use Rattle.task_lines.proofs.Arguments.{IsReadTo, reading_starts, reading_on, reading_ends, never_closed, never_next}
use Rattle.task_lines.proofs.Next.{left_is}
use Rattle.task_lines.specs.Reading.{After}
use Rattle.task_lines.proofs.Values.{IsReadNext, moved_to, one_param, as_many, type_at, closes_here, never_ends, never_signed, given_left, given_here}
use Rattle.task_lines.proofs.task_line.values.Goals.{else-sign-via-then-sign+else-is_at_end, else-sign-via-else-sign}
use Rattle.task_lines.proofs.task_line.values.Goals as goal

pub loop-i-init : goal.loop-i-init
loop-i-init c = record {
  at = λ at. at;
  read = λ at line params. subst (λ ps. IsReadTo c.args.table.now c.args.bytes.now (types_of c.args.params.now) c.args.scanner.now.at 0 c.args.scanner.now.at ps c.args.counts.now c.args.counts.now) (sym c.new-places.ensures.items) (reading_starts c.args.table.now c.args.bytes.now (types_of c.args.params.now) c.args.scanner.now.at c.args.counts.now);
}

abbrev no_param : Param
no_param = record { ty = 0; lent = false }

pub returns-in-None-clause-none : goal.returns-in-None-clause-none
returns-in-None-clause-none c = λ at line params same vs h.
    let tb = c.args.table.now in
    let bytes = c.args.bytes.now in
    let types = types_of c.args.params.now in
    let old = c.args.scanner.now in
    let here = c.loop-i.invariant.at at in
    let r = c.loop-i.invariant.read at line params in
    let n = as_many c.args.params.now in
    let lt = c.loop-i-test.true in
    let less : c.loop-i.i < length types = omega (arith, lt, n) in
    let ty : ℕ = (get_or c.args.params.now c.loop-i.i no_param).ty in
    let is : get_or types c.loop-i.i 0 ≡ ty = type_at c.args.params.now c.loop-i.i no_param (omega (arith, lt)) in
    let none = c.next_value.ensures.none here line (one_param tb types c.loop-i.i ty less is params) (c.in_ok-place.was ∙ ap (λ o. Ok o) c.in-None.is) in
    never_next tb bytes types old.at c.loop-i.i c.loop-i.scanner.at ty c.loop-i.places.items c.args.counts.now c.loop-i.counts less is r (λ ks us b. none ks us (subst (λ cs. After c.loop-i.i tb (ty ∷ ks) cs us) (sym (left_is bytes c.loop-i.scanner here)) b)) vs (given_here tb types bytes old vs at h)

pub loop-i-preserved : goal.loop-i-preserved
loop-i-preserved c = record {
  at = λ at. moved_to c.args.bytes.now c.loop-i.scanner c.next_value.new.scanner c.next_value.ensures.bytes c.next_value.ensures.within (c.loop-i.invariant.at at);
  read = λ at line params.
      let tb = c.args.table.now in
      let bytes = c.args.bytes.now in
      let types = types_of c.args.params.now in
      let old = c.args.scanner.now in
      let here = c.loop-i.invariant.at at in
      let r = c.loop-i.invariant.read at line params in
      let n = as_many c.args.params.now in
      let lt = c.loop-i-test.true in
      let less : c.loop-i.i < length types = omega (arith, lt, n) in
      let ty : ℕ = (get_or c.args.params.now c.loop-i.i no_param).ty in
      let is : get_or types c.loop-i.i 0 ≡ ty = type_at c.args.params.now c.loop-i.i no_param (omega (arith, lt)) in
      let v = subst (λ o. IfSome o (λ p. IsReadNext tb c.loop-i.i ty bytes c.loop-i.scanner.at p c.next_value.new.scanner.at c.loop-i.counts c.next_value.new.counts)) c.in-Some.is (c.in_ok-place.ensures.read here line (one_param tb types c.loop-i.i ty less is params)) in
      reading_on tb bytes types old.at c.loop-i.i c.loop-i.scanner.at c.in-Some.place c.next_value.new.scanner.at ty v.0 c.loop-i.places.items c.push.new.self.items c.args.counts.now c.loop-i.counts c.next_value.new.counts (params.table) (line.one) less is v.1 v.2 c.in_ok-push-in-Some.ensures.items r;
}

pub returns-then-is_at_end-clause-read : goal.returns-then-is_at_end-clause-read
returns-then-is_at_end-clause-read c = λ at line params.
    let tb = c.args.table.now in
    let bytes = c.args.bytes.now in
    let types = types_of c.args.params.now in
    let old = c.args.scanner.now in
    let here = c.loop-i.invariant.at at in
    let r = c.loop-i.invariant.read at line params in
    let n = as_many c.args.params.now in
    let all : length types ≤ c.loop-i.i = (let f = c.loop-i-test.false in omega (arith, f, n)) in
    let closes = closes_here bytes c.loop-i.scanner c.sign.new.self here (c.sign.ensures.read c.if-sign.true Close sign_close) (c.is_at_end.ensures.end c.if-is_at_end.true) in
    let e = reading_ends tb bytes types old.at c.loop-i.i c.loop-i.scanner.at c.loop-i.places.items c.args.counts.now c.loop-i.counts all r closes in
    (r.done, given_left tb types bytes old r.done at e.0, e.1, r.counts)

pub returns-else-sign-clause-none : goal.returns-else-sign-clause-none
returns-else-sign-clause-none c = λ at line params same vs h.
    let tb = c.args.table.now in
    let bytes = c.args.bytes.now in
    let types = types_of c.args.params.now in
    let old = c.args.scanner.now in
    let here = c.loop-i.invariant.at at in
    let r = c.loop-i.invariant.read at line params in
    let n = as_many c.args.params.now in
    let all : length types ≤ c.loop-i.i = (let f = c.loop-i-test.false in omega (arith, f, n)) in
    let given = given_here tb types bytes old vs at h in
    elim c.else-sign.branch [
      | else-sign-via-then-sign+else-is_at_end w ↦ never_closed tb bytes types old.at c.loop-i.i c.loop-i.scanner.at c.loop-i.places.items c.args.counts.now c.loop-i.counts all r (never_ends bytes c.loop-i.scanner c.sign.new.self here (c.sign.ensures.read w.if-sign.true Close sign_close) (w.is_at_end.ensures.more w.if-is_at_end.false)) vs given
      | else-sign-via-else-sign w ↦ never_closed tb bytes types old.at c.loop-i.i c.loop-i.scanner.at c.loop-i.places.items c.args.counts.now c.loop-i.counts all r (never_signed bytes c.loop-i.scanner here (λ rest. c.sign.ensures.none w.if-sign.false Close rest sign_close)) vs given
    ]
