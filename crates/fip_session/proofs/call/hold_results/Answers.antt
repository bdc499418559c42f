use Rattle.std.proofs.Common.{◌≡◌, ◌∙◌, ◌++◌, ap, sym}
use Rattle.session_correctness.specs.Lodging.{lodge_all}
use Rattle.session_lines.specs.Said.{names_of}
use Rattle.fip_session.specs.declared.book.Book.{Book}
use Rattle.fip_session.proofs.Forgetting.{naming_at, name_of}
use Rattle.fip_session.proofs.call.hold_results.Goals as goal

pub loop-i-preserved : goal.loop-i-preserved
loop-i-preserved c = record {
  same = c.in_ok-hold.ensures.others ∙ ap (λ (b : Book). record b { held = c.hold.new.self.held }) c.loop-i.invariant.same;
  named = λ ls xs finds words many as_many distinct.
      let i = c.loop-i.i in
      naming_at c.loop-i.book.held c.hold.new.self.held (ls ++ lodge_all (names_of c.args.names.now) c.args.types.now xs) (names_of c.args.names.now) c.args.types.now c.args.words.now i c.in-Some.name.now c.in-Some-held_at.held distinct (name_of c.args.names.now i c.in-Some.name (sym c.in-Some.ensures)) (c.in-Some-held_at.ensures.some).0 (c.in-Some-held_at.ensures.some).1 c.in_ok-hold.ensures.holds (c.loop-i.invariant.named ls xs finds words many as_many distinct);
}
