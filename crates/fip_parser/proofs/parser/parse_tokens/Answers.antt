use Rattle.std.proofs.Common.{map, sym, ap, subst}
use Rattle.fip_language.specs.declared.rule.Rule.TheVariants as R
use Rattle.fip_base.specs.SurfaceView as surface
use Rattle.fip_grammar.specs.WordView.{tokens}
use Rattle.fip_grammar.specs.Machine as machine
use Rattle.fip_grammar.proofs.Least.{reads_ended, reads_unended}
use Rattle.parser_state.specs.StateView as view
use Rattle.fip_parser.specs.Parsed.{reading_of, IsMisspeltBy, refusal_of}
use Rattle.fip_parser.proofs.Reading.{state_negates, unended, fails_least, goes_on, at_token, at_end, place_of_end}
use Rattle.fip_parser.proofs.parser.parse_tokens.Goals as goal

pub returns-in-Err-clause-misspelt : goal.returns-in-Err-clause-misspelt
returns-in-Err-clause-misspelt c =
    let r = c.loop-token.reading in
    let xs = c.args.tokens.now.tokens.items in
    let ys = c.as_slice-token-items.result.now in
    let i = c.loop-token.token-index in
    fails_least (tokens xs) c.args.tokens.now.end i (reading_of r) _ (view.negated r.state) c.in-Err.error c.loop-token.invariant.reads (state_negates r.state)
    (at_token xs ys i _ c.as_slice-token-items.ensures.value c.loop-token-test.true) c.in-Err.ensures.fails

pub loop-token-preserved : goal.loop-token-preserved
loop-token-preserved c =
    let r = c.loop-token.reading in
    let xs = c.args.tokens.now.tokens.items in
    let ys = c.as_slice-token-items.result.now in
    let i = c.loop-token.token-index in
    record {
      reads =
          goes_on (tokens xs) i (reading_of r) (reading_of c.in-Ok.next) _ c.loop-token.invariant.reads
          (at_token xs ys i _ c.as_slice-token-items.ensures.value c.loop-token-test.true) c.in-Ok.ensures.goes;
      well = c.in-Ok.ensures.well;
    }

pub returns-then-is_ended-clause-spelt : goal.returns-then-is_ended-clause-spelt
returns-then-is_ended-clause-spelt c =
    let r = c.loop-token.reading in
    let xs = c.args.tokens.now.tokens.items in
    let ys = c.as_slice-token-items.result.now in
    let i = c.loop-token.token-index in
    let ds = map surface.declaration r.declarations.items in
    let h = c.loop-token.invariant.reads in
    reads_ended (tokens xs) i (reading_of r).machine (reading_of r).seen ds h (at_end xs ys i c.as_slice-token-items.ensures.value c.loop-token-test.false h.within)
    (ap (λ s. machine.ended_in ds (view.state s)) (c.is_top-is_ended.ensures.top c.if-is_ended.true))

pub returns : goal.returns
returns c =
    let r = c.loop-token.reading in
    let end = c.args.tokens.now.end in
    let xs = c.args.tokens.now.tokens.items in
    let ys = c.as_slice-token-items.result.now in
    let i = c.loop-token.token-index in
    let ds = map surface.declaration r.declarations.items in
    let h = c.loop-token.invariant.reads in
    let e = at_end xs ys i c.as_slice-token-items.ensures.value c.loop-token-test.false h.within in
    record {
      spelt = tt;
      misspelt =
          subst (IsMisspeltBy (tokens xs) end) (sym c.refused.ensures)
          (R.E02, i, reads_unended (tokens xs) i (reading_of r).machine (reading_of r).seen h e (unended r.state ds (c.is_top-is_ended.ensures.open c.if-is_ended.false)), ap (refusal_of R.E02) (place_of_end (tokens xs) end i e));
    }
