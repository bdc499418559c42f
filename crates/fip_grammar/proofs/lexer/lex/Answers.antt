use Rattle.std.proofs.Common.{rules, ◌≡◌, ◌++◌, [], ◌∷◌, length, ◌-◌, ◌<◌, ◌≤◌, take, drop, sym, ap, subst, ◌∙◌}
use Rattle.std.proofs.lemmas.List.{map-append}
use Rattle.fip_grammar.specs.Cut.{Cut, tokens_at}
use Rattle.fip_grammar.specs.Claims.{IsRead}
use Rattle.fip_grammar.specs.WordView as V
use Rattle.fip_grammar.specs.declared.token.Token.{Token}
use Rattle.fip_grammar.proofs.Fronts.{next_line_bound, next_col_bound, within_on_next, read_on, no_more, read_all, bad_at}
use Rattle.fip_grammar.proofs.Unique.{cut_once, cut_or_bad}
use Rattle.fip_grammar.proofs.lexer.lex.Goals as goal

pub loop-place-preserved-in-Gap : goal.loop-place-preserved-in-Gap
loop-place-preserved-in-Gap c =
    let source = c.args.source.now in
    let p = c.loop-place.place in
    let next = c.in-Gap.next in
    let i = c.loop-place.invariant in
    let e = c.in-Gap.ensures in
    let ts = V.tokens c.loop-place.tokens.items in
    let text = take (length source - p.at) (drop p.at source) in
    record {
      line = next_line_bound text p next e.0 i.line e.1;
      col = next_col_bound text p next e.0 i.col e.1;
      within = within_on_next source p next e.0 i.within e.1;
      read = subst (λ l. IsRead source (drop next.at source) next l) (no_more ts (tokens_at p e.0) e.2) (read_on source p next ts e.0 i.within e.1 i.read);
    }

pub loop-place-preserved : goal.loop-place-preserved
loop-place-preserved c =
    let source = c.args.source.now in
    let p = c.loop-place.place in
    let next = c.in-Token.next in
    let i = c.loop-place.invariant in
    let e = c.in-Token.ensures in
    let ts = V.tokens c.loop-place.tokens.items in
    let text = take (length source - p.at) (drop p.at source) in
    let x = Cut e.0 (V.word c.in-Token.word) in
    let t : Token = record { word = c.in-Token.word; place = p } in
    let same : V.tokens c.push.new.self.items ≡ ts ++ tokens_at p x = ap V.tokens c.in_ok-push-in-Token.ensures.items ∙ map-append V.token c.loop-place.tokens.items (t ∷ []) in
    record {
      line = next_line_bound text p next x i.line e.1;
      col = next_col_bound text p next x i.col e.1;
      within = within_on_next source p next x i.within e.1;
      read = subst (λ l. IsRead source (drop next.at source) next l) (sym same) (read_on source p next ts x i.within e.1 i.read);
    }

pub returns-in-Nothing-clause-only : goal.returns-in-Nothing-clause-only
returns-in-Nothing-clause-only c = λ ts end k.
    let source = c.args.source.now in
    let p = c.loop-place.place in
    let l : p.at < length source = c.loop-place-test.true in
    let e = c.in-Nothing.ensures in
    cut_or_bad source ts end p k (bad_at source p (V.tokens c.loop-place.tokens.items) l e.0 e.1 c.loop-place.invariant.read)

pub returns-clause-only : goal.returns-clause-only
returns-clause-only c = λ ts end k.
    let source = c.args.source.now in
    let p = c.loop-place.place in
    let l : length source ≤ p.at = search rules in
    cut_once source (V.tokens c.loop-place.tokens.items) ts p end (read_all source p (V.tokens c.loop-place.tokens.items) l c.loop-place.invariant.read) k
