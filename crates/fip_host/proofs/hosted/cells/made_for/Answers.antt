use Rattle.std.proofs.Common.{◌<◌, ◌≤◌, ℕ, List, length, get_or, subst, take, arith}
use Rattle.std.specs.Prelude.{replicate}
use Rattle.std.proofs.lemmas.Result.{err_from_is_err_and}
use Rattle.fip_host.specs.Making.{IsMade}
use Rattle.fip_host.proofs.Unmade.{sized, unmade, zeros_long}
use Rattle.fip_host.proofs.Growing.{made_none, made_one, made_all, zeros}
use Rattle.fip_host.proofs.hosted.cells.made_for.Goals as goal

pub loop-size-init : goal.loop-size-init
loop-size-init c = made_none c.args.words.now.items c.args.loader.now

pub loop-size-preserved : goal.loop-size-preserved
loop-size-preserved c =
    let lt : c.loop-size.size-index < length c.args.credits.now = let h = c.loop-size-test.true in omega (arith, h) in
    let size = get_or c.args.credits.now c.loop-size.size-index 0 in
    let few : size ≤ 16 = let h = c.if-size-gt-MOST_FIELDS.false in omega (arith, h) in
    let made = subst (λ (xs : List ℕ). IsMade c.loop-size.loader c.made.new.loader 0 xs c.in_ok-made.field-0) (zeros 16 size few) c.in_ok-made.ensures.made in
    made_one c.args.credits.now _ _ _ c.loop-size.size-index 0 _ _ _ _ lt c.loop-size.invariant made c.in_ok-push.ensures.items

pub returns-clause-made : goal.returns-clause-made
returns-clause-made c = made_all c.args.credits.now _ _ c.loop-size.size-index _ _ (let h = c.loop-size-test.false in omega (arith, h)) c.loop-size.invariant

pub returns-then-size-gt-MOST_FIELDS-clause-refused : goal.returns-then-size-gt-MOST_FIELDS-clause-refused
returns-then-size-gt-MOST_FIELDS-clause-refused c =
    let lt : c.loop-size.size-index < length c.args.credits.now = let h = c.loop-size-test.true in omega (arith, h) in
    let s = (sized c.args.credits.now c.loop-size.size-index c.requires.sizes lt).1 in
    let h = c.if-size-gt-MOST_FIELDS.true in
    absurd (omega (arith, s, h))

pub returns-in_err-made-clause-refused : goal.returns-in_err-made-clause-refused
returns-in_err-made-clause-refused c =
    let p = err_from_is_err_and c.from_residual.result c.from_residual.ensures.1 in
    let i = c.loop-size.size-index in
    let lt : i < length c.args.credits.now = let h = c.loop-size-test.true in omega (arith, h) in
    let size = get_or c.args.credits.now i 0 in
    let few : size ≤ 16 = let h = c.if-size-gt-MOST_FIELDS.false in omega (arith, h) in
    rw (p.1, p.2) (unmade c.args.credits.now c.args.words.now.items c.loop-size.words.items (take size (replicate 16 0)) c.args.loader.now c.loop-size.loader i c.in_err-made.field-0.0 c.requires.sizes lt (zeros_long 16 size few) c.loop-size.invariant c.in_err-made.ensures.refused)
