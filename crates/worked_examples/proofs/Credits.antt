-- What the functions of the examples need, and what their headers break.
use Rattle.std.proofs.Common.{◌≡◌, [], ◌∷◌, refl, inl, inr, arith}
use Rattle.source_report.specs.fip_language.declared.rule.Rule.TheVariants.{E56, E62}
use Rattle.source_report.specs.fip_language.Example.{here}
use Rattle.source_report.specs.fip_trees.Least.{violation}
use Rattle.source_report.specs.credit_check.Credits.{Violates}
use Rattle.source_report.specs.credit_check.Needs.{need_block}
use Rattle.worked_examples.specs.Programs.{push, top, pushing}

pub push_needs_one : need_block (pushing []) 2 (push []).body ≡ 1
push_needs_one = refl

pub top_needs_none : need_block (pushing (2 ∷ [])) 2 top.body ≡ 0
top_needs_none = refl

pub a_mark_is_missing : Violates (pushing []) (violation E56 here 0 2 [])
a_mark_is_missing = inl (inr (inl (2, omega arith, omega arith, omega arith, refl)))

pub a_mark_is_too_much : Violates (pushing (2 ∷ 2 ∷ [])) (violation E62 here 0 2 [])
a_mark_is_too_much = inl (inr (inr (2, omega arith, omega arith, omega arith, refl)))

pub ruleset computed = (push_needs_one, top_needs_none, a_mark_is_missing, a_mark_is_too_much)
