use Rattle.std.proofs.Common.{◌≡◌, ◌∙◌, length, map, ap, sym, subst}
use Rattle.trace_files.specs.Plain.{plain_cell, plain_event}
use Rattle.trace_files.specs.Reading.{Reads, IsLive}
use Rattle.trace_files.proofs.Events.{release_read, write_read}
use Rattle.trace_files.proofs.Live.{live_released, live_there, get_below}
use Rattle.trace_files.proofs.read.read_event.Goals as goal

pub returns-then-op-eq-RELEASE-clause-reads : goal.returns-then-op-eq-RELEASE-clause-reads
returns-then-op-eq-RELEASE-clause-reads c =
    let live = subst (λ rs. IsLive (map plain_cell c.args.cells.now) rs c.in_ok-place.place c.in-Some.number) c.as_slice.ensures.value c.in-Some.ensures.live in
    release_read (map plain_cell c.args.cells.now) c.args.released.now.items c.args.least c.in-Some.number c.args.reader.now c.u64.new.self c.u8.new.self c.u32.new.self c.in_ok-step.step c.in_ok-op.op c.in_ok-place.place c.requires.rising c.in_ok-step.ensures.reads c.if-step-least.false c.in_ok-op.ensures.reads c.in_ok-place.ensures.reads live c.if-op-eq-RELEASE.true

pub returns-then-op-eq-RELEASE-clause-left : goal.returns-then-op-eq-RELEASE-clause-left
returns-then-op-eq-RELEASE-clause-left c =
    let live = subst (λ rs. IsLive (map plain_cell c.args.cells.now) rs c.in_ok-place.place c.in-Some.number) c.as_slice.ensures.value c.in-Some.ensures.live in
    live_released (map plain_cell c.args.cells.now) c.args.released.now.items c.in_ok-place.place c.in-Some.number c.requires.rising live

pub size_of-requires : goal.size_of-requires
size_of-requires c = record { within = (let there = live_there c.args.cells.now c.as_slice.result.now c.in_ok-place.place c.in-Some.number c.in-Some.ensures.live in get_below c.args.cells.now c.in-Some.number there.0 there.1) }

pub returns-else-op-eq-RELEASE-clause-reads : goal.returns-else-op-eq-RELEASE-clause-reads
returns-else-op-eq-RELEASE-clause-reads c =
    let live = subst (λ rs. IsLive (map plain_cell c.args.cells.now) rs c.in_ok-place.place c.in-Some.number) c.as_slice.ensures.value c.in-Some.ensures.live in
    let there = live_there c.args.cells.now c.args.released.now.items c.in_ok-place.place c.in-Some.number live in
    let size : c.size_of.result ≡ length live.cell.fields = c.size_of.ensures.is there.0 there.1 ∙ ap (λ x. length x.fields) there.2 in
    subst (λ r. Reads plain_event c.put_event.result c.put_event.new.reader r) (sym (write_read (map plain_cell c.args.cells.now) c.args.released.now.items c.args.least c.in-Some.number c.args.reader.now c.u64.new.self c.u8.new.self c.u32.new.self c.in_ok-step.step c.in_ok-op.op c.in_ok-place.place c.requires.rising c.in_ok-step.ensures.reads c.if-step-least.false c.in_ok-op.ensures.reads c.in_ok-place.ensures.reads live c.if-op-gt-RELEASE.false c.if-op-eq-RELEASE.false c.size_of.result size)) c.put_event.ensures.reads
