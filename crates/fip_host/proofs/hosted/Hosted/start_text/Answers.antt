use Rattle.std.proofs.Common.{◌≡◌, ◌∙◌, ◌≤◌, true, Some, Err, length, refl, sym, ap, subst}
use Rattle.std.specs.Prelude.{option_map}
use Rattle.std.proofs.lemmas.Option.{same_Some, slice_get_within}
use Rattle.cell_code.specs.declared.code.Function.{Function}
use Rattle.fip_machine.specs.cell_store.Made.{Stored}
use Rattle.fip_machine.specs.machine_cells.machine_semantics.Cells.{Store}
use Rattle.fip_machine.specs.machine_cells.Small.{store_of}
use Rattle.fip_machine.specs.Pausing.{stand_of}
use Rattle.run_safety.specs.Safe.{IsSafeTask}
use Rattle.fip_host.specs.Hosting.{Seen, IsAtStart, loading_of}
use Rattle.fip_host.proofs.Loading.{joined, begins_safe, text_started, bad_text, large_text}
use Rattle.fip_host.proofs.Stepping.{same_store}
use Rattle.fip_host.proofs.hosted.Hosted.start_text.Goals as goal

pub loaded-requires : goal.loaded-requires
loaded-requires c = record { table = c.self.invariant.table; function = (c.args.number, c.in-Some.ensures.some); short = c.requires.short }

pub begun-requires : goal.begun-requires
begun-requires c =
    let v = c.self.inside.verified in
    let n = c.args.number in
    let f = c.in-Some.function.now in
    let at = c.in-Some.ensures.some in
    record {
      there = slice_get_within v.code.functions.items n f at;
      few = λ g here. subst (λ (x : Function). length c.in-Ok.words.items ≤ x.registers) (same_Some f g (sym at ∙ here)) c.in-Ok.ensures.few;
    }

pub invariant_of-self-in-Ok : goal.invariant_of-self-in-Ok
invariant_of-self-in-Ok c =
    let v = c.self.inside.verified in
    let n = c.args.number in
    let f = c.in-Some.function.now in
    let k = c.in-Ok.loader in
    let q = c.in-Ok-begun.task in
    let starts = c.in-Ok-begun.ensures.starts (store_of k.cells k.released) in
    let safe = begins_safe v n c.args.frames f c.args.text.now c.in-Ok.words.items c.reopen-loader.result k (stand_of v q) c.in-Some.ensures.sound c.in-Some.ensures.literals c.in-Some.ensures.some c.in-Ok.ensures.store c.in-Ok.ensures.loads starts in
    record {
      table = c.self.invariant.table;
      resumes = c.in-Ok-begun.ensures.can;
      empty = c.sealed.ensures.pushed;
      small = c.sealed.ensures.small;
      safe = subst (λ (x : Store). IsSafeTask (stand_of v q) x) (same_store _ _ _ _ (sym c.sealed.ensures.cells) (sym c.sealed.ensures.released)) safe;
    }

pub returns-in-Ok-clause-starts : goal.returns-in-Ok-clause-starts
returns-in-Ok-clause-starts c =
    let i = c.self.inside in
    let v = i.verified in
    let n = c.args.number in
    let old = c.args.self.now in
    let f = c.in-Some.function.now in
    let first = c.reopen-loader.result in
    let l = c.in-Ok.loader in
    let r = c.sealed.result in
    let q = c.in-Ok-begun.task in
    let words = c.in-Ok.words.items in
    let g = c.new-self-inside in
    let new : Seen = record { code = v; task = Some (stand_of v q); store = store_of r.cells r.released; left = r.left; gauge = g.result; entry = n; is_open = true; kept = i.kept.items } in
    let before : first ≡ loading_of old = joined first i.cells.cells i.cells.released i.cells.left
    (sym (c.reopen-loader.ensures.cells ∙ ap (λ (x : Stored). x.cells) c.replace.ensures.value))
    (sym (c.reopen-loader.ensures.released ∙ ap (λ (x : Stored). x.released) c.replace.ensures.value))
    (sym (c.reopen-loader.ensures.left ∙ ap (λ (x : Stored). x.left) c.replace.ensures.value))
    ∙ ap loading_of c.self.view_is in
    let after : l ≡ loading_of new = joined l r.cells r.released r.left c.sealed.ensures.cells c.sealed.ensures.released c.sealed.ensures.left in
    let start : IsAtStart n words c.args.frames new = record {
      stand = stand_of v q;
      is = refl;
      entry = refl;
      unseen = record { seen = g.ensures.unseen; highest = g.ensures.highest; frames = g.ensures.frames; words = g.ensures.words };
      can_be_read = refl;
      start = c.in-Ok-begun.ensures.starts (store_of r.cells r.released);
    } in
    text_started v n c.args.frames f c.args.text.now words old new first l c.in-Some.ensures.some (ap (λ (x : Seen). x.code) c.self.view_is) before after c.in-Ok.ensures.loads c.in-Ok.ensures.order start

pub returns-in-Err-BadValue-clause-keeps : goal.returns-in-Err-BadValue-clause-keeps
returns-in-Err-BadValue-clause-keeps c =
    let i = c.self.inside in
    let old = c.args.self.now in
    let first = c.reopen-loader.result in
    let l = c.in-Err-BadValue.loader in
    let r = c.sealed-in-Err-BadValue.result in
    let new : Seen = record { code = i.verified; task = option_map (stand_of i.verified) c.take.new.self; store = store_of r.cells r.released; left = r.left; gauge = i.gauge; entry = i.entry; is_open = i.is_open; kept = i.kept.items } in
    let before : first ≡ loading_of old = joined first i.cells.cells i.cells.released i.cells.left
    (sym (c.reopen-loader.ensures.cells ∙ ap (λ (x : Stored). x.cells) c.replace.ensures.value))
    (sym (c.reopen-loader.ensures.released ∙ ap (λ (x : Stored). x.released) c.replace.ensures.value))
    (sym (c.reopen-loader.ensures.left ∙ ap (λ (x : Stored). x.left) c.replace.ensures.value))
    ∙ ap loading_of c.self.view_is in
    let after : l ≡ loading_of new = joined l r.cells r.released r.left c.sealed-in-Err-BadValue.ensures.cells c.sealed-in-Err-BadValue.ensures.released c.sealed-in-Err-BadValue.ensures.left in
    bad_text i.verified c.args.number c.in-Some.function.now c.args.text.now c.in-Err-BadValue.at old new first l c.in-Some.ensures.some (ap (λ (x : Seen). x.code) c.self.view_is) before after (c.in-Err-BadValue.ensures.place c.in-Err-BadValue.at l (ap Err c.in-Err-BadValue.field-0-is))

pub returns-in-Err-Full-clause-keeps : goal.returns-in-Err-Full-clause-keeps
returns-in-Err-Full-clause-keeps c =
    let i = c.self.inside in
    let old = c.args.self.now in
    let first = c.reopen-loader.result in
    let l = c.in-Err-Full.loader in
    let r = c.sealed-in-Err-Full.result in
    let new : Seen = record { code = i.verified; task = option_map (stand_of i.verified) c.take.new.self; store = store_of r.cells r.released; left = r.left; gauge = i.gauge; entry = i.entry; is_open = i.is_open; kept = i.kept.items } in
    let before : first ≡ loading_of old = joined first i.cells.cells i.cells.released i.cells.left
    (sym (c.reopen-loader.ensures.cells ∙ ap (λ (x : Stored). x.cells) c.replace.ensures.value))
    (sym (c.reopen-loader.ensures.released ∙ ap (λ (x : Stored). x.released) c.replace.ensures.value))
    (sym (c.reopen-loader.ensures.left ∙ ap (λ (x : Stored). x.left) c.replace.ensures.value))
    ∙ ap loading_of c.self.view_is in
    let after : l ≡ loading_of new = joined l r.cells r.released r.left c.sealed-in-Err-Full.ensures.cells c.sealed-in-Err-Full.ensures.released c.sealed-in-Err-Full.ensures.left in
    large_text i.verified c.args.number c.in-Some.function.now c.args.text.now c.in-Err-Full.needed c.in-Err-Full.given old new first l c.in-Some.ensures.some (ap (λ (x : Seen). x.code) c.self.view_is) before after (c.in-Err-Full.ensures.full c.in-Err-Full.needed c.in-Err-Full.given l (ap Err c.in-Err-Full.field-0-is))
