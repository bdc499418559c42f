use Rattle.std.proofs.Common.{rules, ◌≡◌, ◌≤◌, ◌+◌, ◌∙◌, List, ℕ, [], ◌∷◌, map, drop, length, sym, ap, subst, Err, true, false, arith}
use Rattle.std.proofs.lemmas.Result.{err_from_is_err_and}
use Rattle.fip_trees.specs.TreeView as V
use Rattle.fip_trees.specs.declared.program.Instance as A
use Rattle.derivation_walk.specs.fip_rules.World.{is_ruled}
use Rattle.derivation_walk.proofs.credit_check.Steps.{drop_item}
use Rattle.derivation_text.specs.Limited.{Limited}
use Rattle.fip_proof.specs.Ready.{IsReady}
use Rattle.fip_proof.proofs.Texts.{Written, nothing_written, line_more, plain_more, all_written, none_left, long_text, keeps_limits, text_read, text_derived, one_error}
use Rattle.fip_proof.proofs.files.derivation_text.Goals.{then-is_ruled+in_ok-add_line, else-is_ruled}
use Rattle.fip_proof.proofs.files.derivation_text.Goals as goal

pub loop-number-init : goal.loop-number-init
loop-number-init c =
    let P = V.program c.args.typed.now.program in
    let items = c.deref-instance-items.result.now in
    let e = c.new-text.ensures in
    let none : c.new-text.result.bytes ≡ [] = ap (λ (t : Limited). t.bytes) e in
    record {
      limit = ap (λ (t : Limited). t.limit) e;
      within = subst (λ (bs : List ℕ). length bs ≤ c.args.limit) (sym none) (omega arith);
      written = λ h. nothing_written P c.args.needs.now (map V.instance_of items) c.new-text.result.bytes (ap (λ (xs : List A.Instance). map V.instance_of xs) c.deref-instance-items.ensures.value) none h;
    }

pub loop-number-preserved : goal.loop-number-preserved
loop-number-preserved c =
    let P = V.program c.args.typed.now.program in
    let nss = c.args.needs.now in
    let n = c.loop-number.number in
    let items = c.deref-instance-items.result.now in
    let d = V.instance_of c.instance-item.result in
    let ds = map V.instance_of (drop (n + 1) items) in
    let old = c.loop-number.text in
    let new = c.if-is_ruled.text in
    let D = drop_item items n c.instance-item.result c.loop-number-test.true c.instance-item.is in
    let before : IsReady P nss → Written P n (map V.instance_of (c.instance-item.result ∷ drop (n + 1) items)) old.bytes = λ h. subst (λ (xs : List A.Instance). Written P n (map V.instance_of xs) old.bytes) D (c.loop-number.invariant.written h) in
    let limit = c.loop-number.invariant.limit in
    elim c.if-is_ruled.branch [
      | then-is_ruled+in_ok-add_line w ↦
          let r : is_ruled c.instance-item.result.kind ≡ true = sym c.is_ruled.ensures.ruled ∙ w.if-is_ruled.true in
          let e : new ≡ w.add_line.new.text = search rules in
          let l = w.in_ok-add_line.ensures.line in
          let k = w.in_ok-add_line.ensures.within in
          let same : w.add_line.new.text.limit ≡ c.args.limit = l.limit ∙ limit in
          subst (λ (t : Limited). record { limit : t.limit ≡ c.args.limit; within : length t.bytes ≤ c.args.limit; written : IsReady P nss → Written P (n + 1) ds t.bytes }) (sym e)
          record {
            limit = same;
            within = omega (arith, k, same);
            written = λ h. line_more P nss n d ds w.of-then-is_ruled.result.now old w.add_line.new.text h r w.of-then-is_ruled.ensures.held l (before h);
          }
      | else-is_ruled w ↦
          let r : is_ruled c.instance-item.result.kind ≡ false = sym c.is_ruled.ensures.ruled ∙ w.if-is_ruled.false in
          record {
            limit = ap (λ (t : Limited). t.limit) w.text-is ∙ limit;
            within = subst (λ (t : Limited). length t.bytes ≤ c.args.limit) (sym w.text-is) c.loop-number.invariant.within;
            written = λ h. plain_more P n d ds old.bytes new.bytes r (ap (λ (t : Limited). t.bytes) w.text-is) (before h);
          }
    ]

pub returns-in_err-add_line-clause-long : goal.returns-in_err-add_line-clause-long
returns-in_err-add_line-clause-long c =
    let P = V.program c.args.typed.now.program in
    let nss = c.args.needs.now in
    let n = c.loop-number.number in
    let items = c.deref-instance-items.result.now in
    let d = V.instance_of c.instance-item.result in
    let ds = map V.instance_of (drop (n + 1) items) in
    let old = c.loop-number.text in
    let D = drop_item items n c.instance-item.result c.loop-number-test.true c.instance-item.is in
    let r : is_ruled c.instance-item.result.kind ≡ true = sym c.is_ruled.ensures.ruled ∙ c.if-is_ruled.true in
    let p = err_from_is_err_and c.from_residual-in_err-add_line.result c.from_residual-in_err-add_line.ensures.1 in
    λ k h.
    let z = c.in_err-add_line.ensures.long (ap Err (one_error c.from_residual-in_err-add_line.result p.0 c.in_err-add_line.field-0.0 p.1 p.2 k)) in
    long_text P nss n d ds c.of-then-is_ruled.result.now old z.0 c.args.limit h r c.of-then-is_ruled.ensures.held z.1 c.loop-number.invariant.limit z.2
    (subst (λ (xs : List A.Instance). Written P n (map V.instance_of xs) old.bytes) D (c.loop-number.invariant.written h))

pub returns-clause-read : goal.returns-clause-read
returns-clause-read c =
    let P = V.program c.args.typed.now.program in
    let n = c.loop-number.number in
    let items = c.deref-instance-items.result.now in
    λ h l. text_read P c.args.needs.now c.into_bytes.result.items h (keeps_limits P c.args.typed.now.sound l)
    (c.into_bytes.ensures ∙ all_written P n (map V.instance_of (drop n items)) c.loop-number.text.bytes (none_left items n c.loop-number-test.false) (c.loop-number.invariant.written h))

pub returns-clause-derived : goal.returns-clause-derived
returns-clause-derived c =
    let P = V.program c.args.typed.now.program in
    let n = c.loop-number.number in
    let items = c.deref-instance-items.result.now in
    λ h l es k. text_derived P c.args.needs.now c.into_bytes.result.items es h (keeps_limits P c.args.typed.now.sound l)
    (c.into_bytes.ensures ∙ all_written P n (map V.instance_of (drop n items)) c.loop-number.text.bytes (none_left items n c.loop-number-test.false) (c.loop-number.invariant.written h)) k
