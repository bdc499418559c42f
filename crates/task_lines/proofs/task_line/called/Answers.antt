use Rattle.std.proofs.Common.{◌≡◌, List, sym, subst}
use Rattle.std.specs.Prelude.{IfSome}
use Rattle.std.specs.declared.alloc.Global.{Global}
use Rattle.std.specs.declared.vec.Vec.{Vec}
use Rattle.std.proofs.Common.{ℕ}
use Rattle.fip_base.specs.declared.plain.Param.{Param}
use Rattle.fip_language.specs.Store.{count}
use Rattle.session_lines.specs.session_semantics.Lines.{Open}
use Rattle.value_text.specs.Loaded.{types_of, AreCredits}
use Rattle.session_lines.specs.Scanned.{left}
use Rattle.session_lines.proofs.Tokens.{sign_open}
use Rattle.session_values.specs.Read.{Adds}
use Rattle.session_values.specs.Readable.{AreParams}
use Rattle.task_lines.proofs.Next.{moved}
use Rattle.task_lines.proofs.Values.{IsReadAll, adds_wanted}
use Rattle.task_lines.proofs.task_line.called.Goals as goal

pub returns-in-Some-clause-read : goal.returns-in-Some-clause-read
returns-in-Some-clause-read c = λ at line params credits.
    let bytes = c.args.bytes.now in
    let old = c.args.scanner.now in
    let mid = c.sign.new.self in
    let tb = c.args.code.now.types in
    let f = c.args.function.now in
    let first = c.args.counts.now in
    let now = c.values.new.counts in
    let sign = c.sign.ensures.read c.if-not-sign.false Open sign_open in
    let there = moved bytes old mid c.sign.ensures.bytes c.sign.ensures.within at in
    let same : c.as_slice-params.result.now ≡ f.params = c.as_slice-params.ensures.same in
    let asked = subst (λ (ps : List Param). AreParams tb (types_of ps)) (sym same) params in
    let r = subst (λ o. IfSome o (λ (ps : Vec ℕ Global). IsReadAll tb (types_of c.as_slice-params.result.now) (left mid) bytes first now ps.items)) c.in-Some.is (c.in_ok-values.ensures.read there line asked) in
    let all : IsReadAll tb (types_of f.params) (left mid) bytes first now c.in-Some.values.items = subst (λ (ps : List Param). IsReadAll tb (types_of ps) (left mid) bytes first now c.in-Some.values.items) same r in
    let sizes : c.as_slice.result.now ≡ f.credits.items = c.as_slice.ensures.value in
    let more = subst (λ ks. Adds now c.add_credits.new.counts (λ k. count k ks)) sizes (c.add_credits.ensures (subst AreCredits (sym sizes) credits)) in
    (all.0, (left mid, sign, all.1), all.2, adds_wanted first now c.add_credits.new.counts all.0 f.credits.items all.3 more)
