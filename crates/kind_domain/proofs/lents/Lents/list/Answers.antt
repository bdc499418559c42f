use Rattle.std.proofs.Common.{ap, length, ◌∙◌, sym, inl, inr, ◌<◌, arith}
use Rattle.std.proofs.lemmas.Bool.Decides.{eqb_tells}
use Rattle.code_rules.specs.Kinds.{has}
use Rattle.kind_domain.specs.Leading.{kept_at}
use Rattle.kind_domain.proofs.Heirs.{kept_here, kept_long, kept_other}
use Rattle.kind_domain.proofs.lents.Lents.list.Goals as goal

pub returns-clause-only : goal.returns-clause-only
returns-clause-only c =
    let h = c.if-register-len.false in
    let g = c.len.ensures in
    let r = ap (λ v. v.room) c.self.view_is in
    let there : c.args.register < c.args.self.now.room = (omega arith) in
    let l = ap length c.reach.ensures.is in
    let m = c.reach.ensures.long in
    let n = c.reach.ensures.room in
    let o = c.add.ensures.room in
    let p = kept_long c.add.new.self.reached c.args.register c.args.heir in
    let kept : c.args.register < length c.add.new.self.reached = (omega arith) in
    λ q e. elim (c.add.ensures.only q (ap (λ xs. has xs q) (sym c.reach.ensures.held) ∙ e)) [
      | inl h ↦ elim (eqb_tells c.args.register q) [
        | inl g ↦ absurd (let u = c.is_listed.ensures.unlisted c.if-is_listed.false there in
            let v = ap (has c.args.self.now.held) g.1 in cc)
        | inr g ↦ inl (
          h,
          ap (λ os. kept_at os q) c.reach.ensures.is
              ∙ kept_other c.add.new.self.reached c.args.register q c.args.heir g.1
              ∙ ap (λ os. kept_at os q) c.add.ensures.reached,
        )
      ]
      | inr h ↦ inr (
        h,
        ap (has c.args.self.now.held) (sym h) ∙ c.is_listed.ensures.unlisted c.if-is_listed.false there,
        ap (kept_at c.reach.new.self.reached) (sym h) ∙ ap (λ os. kept_at os c.args.register) c.reach.ensures.is
            ∙ kept_here c.add.new.self.reached c.args.register c.args.heir kept,
      )
    ]
