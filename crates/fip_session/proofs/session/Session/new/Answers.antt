use Rattle.std.proofs.Common.{◌∙◌, ap, sym, subst}
use Rattle.code_verify.specs.Checked.{Checked}
use Rattle.fip_room.specs.declared.room.Room.{Room}
use Rattle.session_lines.specs.Named.{AreEntries}
use Rattle.session_code.specs.Served.{IsServed}
use Rattle.fip_session.proofs.Holding.{opens_first}
use Rattle.fip_session.proofs.session.Session.new.Goals as goal

pub returns : goal.returns
returns c = record {
  opens = λ o served types words calls frames.
      let b = c.in_ok-new.field-0 in
      opens_first o (record { book = b; store = record { cells = c.seal.result; left = c.args.room.words } })
      (subst (λ (v : Checked). IsServed o v.code) (sym c.in_ok-new.ensures.verified) served)
      (c.in_ok-new.ensures.table ∙ types)
      (subst (λ (v : Checked). AreEntries v.code.functions.items b.entries.numbers) (sym c.in_ok-new.ensures.verified) c.in_ok-new.ensures.entries)
      (ap (λ (r : Room). r.calls) c.in_ok-new.ensures.room ∙ calls)
      (ap (λ (r : Room). r.frames) c.in_ok-new.ensures.room ∙ frames)
      c.in_ok-new.ensures.empty
      (c.seal.ensures.cells ∙ c.new-2.ensures.cells)
      (c.seal.ensures.released ∙ c.new-2.ensures.released)
      words;
}
