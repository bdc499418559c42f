use Rattle.std.proofs.Common.{rules, refl, sym, ap, subst, ◌∙◌, ◌+◌, arith, length}
use Rattle.match_knowledge.specs.Known.{Is}
use Rattle.match_knowledge.specs.Left.{all_known}
use Rattle.match_knowledge.specs.View.{rows, parts}
use Rattle.match_cover.specs.declared.missing.Frame.{Frame}
use Rattle.match_cover.specs.Missing.{fields_at, open_fields, placed}
use Rattle.match_cover.specs.MissingView.{lent_rows, levels}
use Rattle.match_cover.specs.MissingSearch.{FindsMissing, FindsHead}
use Rattle.match_cover.proofs.MissingSteps.{fewer_below, row_test}
use Rattle.match_cover.proofs.MissingWalk.{row_any, nothing_stands, stands, field_found, fields_found, popped, count_more, lent_count}
use Rattle.match_cover.proofs.missing.Search.+missing.Goals as goal

pub missing_fields-missing_at-requires : goal.missing_fields-missing_at-requires
missing_fields-missing_at-requires t c =
    let less = fewer_below c.args.head c.loop-j.j (lent_rows c.args.here.now) (lent_rows c.in_ok-below.below.items) c.requires c.in_ok-below.ensures in
    search (rules, less)

pub missing_at-returns-in-None-clause-missing : goal.missing_at-returns-in-None-clause-missing
missing_at-returns-in-None-clause-missing t c =
    let tb = c.args.self.now.types.now in
    let ps = rows c.args.self.now.rows.now in
    let end = length c.args.here.now + 1 in
    let at = placed (levels c.args.at.now.items) in
    let found = subst (λ z. FindsHead tb ps (placed (levels z)) c.args.ty end c.in_ok-least_head.field-0) c.deref.ensures.value c.in_ok-least_head.ensures in
    subst (FindsMissing tb ps at c.args.ty (lent_rows c.args.here.now)) (sym row_any) (nothing_stands tb ps at c.args.ty (lent_rows c.args.here.now) end c.in_ok-least_head.field-0 c.in-None.is (let n = lent_count c.args.here.now in omega (arith, n)) (search rules) found)

pub missing_at-returns-in_ok-parts-in-Some-clause-missing : goal.missing_at-returns-in_ok-parts-in-Some-clause-missing
missing_at-returns-in_ok-parts-in-Some-clause-missing t c =
    let tb = c.args.self.now.types.now in
    let ps = rows c.args.self.now.rows.now in
    let end = length c.args.here.now + 1 in
    let at = placed (levels c.args.at.now.items) in
    let found = subst (λ z. FindsHead tb ps (placed (levels z)) c.args.ty end c.in_ok-least_head.field-0) c.deref.ensures.value c.in_ok-least_head.ensures in
    subst (FindsMissing tb ps at c.args.ty (lent_rows c.args.here.now)) (sym (row_test c.args.ty c.in-Some.head c.in_ok-parts-in-Some.parts)) (stands tb ps at c.args.ty (lent_rows c.args.here.now) end c.in_ok-least_head.field-0 c.in-Some.head c.fields_of.result.now (parts c.in_ok-parts-in-Some.parts.items) c.in-Some.is (search rules) found (sym c.is_tested.ensures ∙ c.if-not-is_tested.false) c.fields_of.ensures c.in_ok-parts-in-Some.ensures.missing)

pub missing_fields-loop-j-preserved : goal.missing_fields-loop-j-preserved
missing_fields-loop-j-preserved t c =
    let frame : Frame = record { head = c.args.head; before = c.in_ok-before.before; following = c.in_ok-following.following } in
    let kept = c.loop-j.invariant.kept in
    let before = c.in_ok-before.ensures ∙ ap (λ z. all_known (parts z)) c.deref.ensures.value in
    record {
      kept = popped c.args.at.now.items c.loop-j.at.items c.push.new.self.items c.missing_at.new.at.items c.pop.new.self.items c.missing_at.new.at.len frame kept c.in_ok-push.ensures.items c.in_ok-part.ensures.kept (let k = c.missing_at.new.at.ok in omega (arith, k)) c.pop.ensures.rest;
      count = ap length c.in_ok-push-2.ensures.items ∙ count_more c.loop-j.parts.items c.in_ok-part.part ∙ ap (λ z. z + 1) c.loop-j.invariant.count;
      found = field_found c.args.self.now.types.now (rows c.args.self.now.rows.now) c.args.at.now.items c.loop-j.at.items c.push.new.self.items frame c.args.head c.args.fields.now (lent_rows c.args.here.now) c.in_ok-below.below.items c.deref-in-loop-j.result.now c.loop-j.parts.items c.push-in-loop-j.new.self.items c.in_ok-part.part c.loop-j.j _ kept c.in_ok-push.ensures.items c.in_ok-push-2.ensures.items c.loop-j.invariant.count (search rules) (search rules) refl before (c.in_ok-following.ensures ∙ ap open_fields c.following.ensures) c.in_ok-below.ensures c.deref-in-loop-j.ensures.value c.in_ok-part.ensures.missing c.loop-j.invariant.found;
    }

pub missing_fields-returns-clause-missing : goal.missing_fields-returns-clause-missing
missing_fields-returns-clause-missing t c = fields_found c.args.self.now.types.now (rows c.args.self.now.rows.now) (λ ks. placed (levels c.args.at.now.items) (Is c.args.head ks)) c.args.fields.now (fields_at c.args.head (lent_rows c.args.here.now)) c.loop-j.parts.items c.loop-j.j (search rules) c.loop-j.invariant.found
