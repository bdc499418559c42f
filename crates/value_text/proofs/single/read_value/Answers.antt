use Rattle.std.proofs.Common.{◌≡◌, ◌+◌, ℕ, drop, subst}
use Rattle.fip_language.specs.Prefix.{IsPlace}
use Rattle.std.specs.Prelude.{Err}
use Rattle.value_text.specs.Alone.{AloneRead}
use Rattle.value_text.specs.Single.{BeginsWith}
use Rattle.value_text.specs.declared.read.Refused.{Refused}
use Rattle.value_text.proofs.OneValue.{never_stops, stops_at, begins_there}
use Rattle.value_text.proofs.single.read_value.Goals as goal

pub returns-in-Ok-clause-outside : goal.returns-in-Ok-clause-outside
returns-in-Ok-clause-outside c = λ given none.
    let h = c.in-Ok.ensures.reads given in
    none h.0 (begins_there c.args.table.now c.args.ty c.args.bytes.now c.args.at h.0 c.in-Ok.read.0 h.1)

pub returns-in-Err-BadValue-clause-complete : goal.returns-in-Err-BadValue-clause-complete
returns-in-Err-BadValue-clause-complete c = λ given v b. absurd (never_stops c.args.table.now given.sound c.args.ty given.known c.args.bytes.now c.args.at c.in-Err-BadValue.at v (subst (λ (e : Refused). AloneRead c.args.table.now c.args.ty c.args.bytes.now c.args.at (Err e)) c.in-Err-BadValue.field-0-is (c.in-Err-BadValue.ensures.reads given)) b)

pub returns-in-Err-BadValue-clause-place : goal.returns-in-Err-BadValue-clause-place
returns-in-Err-BadValue-clause-place c = λ given k e.
    let same : c.in-Err-BadValue.at ≡ k = cc in
    subst (λ k. (d : ℕ) × (k ≡ c.args.at + d) × IsPlace (BeginsWith c.args.table.now c.args.ty) (drop c.args.at c.args.bytes.now) d) same (stops_at c.args.table.now given.sound c.args.ty given.known c.args.bytes.now c.args.at c.in-Err-BadValue.at (subst (λ (e : Refused). AloneRead c.args.table.now c.args.ty c.args.bytes.now c.args.at (Err e)) c.in-Err-BadValue.field-0-is (c.in-Err-BadValue.ensures.reads given)))
