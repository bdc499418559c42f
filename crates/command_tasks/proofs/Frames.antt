-- The frames of the tasks of a source that breaks no rule: a function that isn't fip has those that are given, and a fip
-- one is never out of frames.
use Rattle.std.proofs.Common.{◌≡◌, ◌≢◌, ◌∙◌, ◌+◌, ℕ, List, map, Option, Some, None, slice_get, option_map, if◌then◌else◌, refl, sym, ap, subst, arith}
use Rattle.std.proofs.lemmas.Option.{none-some, same_Some, slice_get-map}
use Rattle.task_correctness.proofs.source_safety.Accepted.{accepted_in_place, accepted_stack}
use Rattle.fip_base.specs.declared.plain.Stack.{Stack}
use Rattle.fip_language.specs.Meaning.{Answer, Deep}
use Rattle.fip_language.specs.Table.{HaveTypes}
use Rattle.fip_language.specs.Values.{Values}
use Rattle.fip_language.specs.declared.FunKind.TheVariants.{Fip, Fbip}
use Rattle.fip_language.specs.declared.limits.TheConstants.{FRAME_WORDS}
use Rattle.command_session.specs.command_run.fip_trees.declared.groups.Member.{Member}
use Rattle.command_session.specs.command_run.fip_trees.Tree.{Instance}
use Rattle.task_lines.specs.instance_semantics.Meaning.{flat_meaning}
use Rattle.task_correctness.specs.in_place_safety.InPlace.{EndsInPlace}
use Rattle.command_session.specs.command_run.session_semantics.Talk.{Setting, answer_of, frames_by, frames_of, free_frames}
use Rattle.command_session.specs.command_run.session_semantics.Turns.{type_of}
use Rattle.command_session.specs.command_run.source_report.Report.{IsAccepted}
use Rattle.command_session.proofs.command_run.source_report.FipCalls.{fip_calls}
use Rattle.command_session.specs.command_run.tail_groups.Members.{AreMembers, frame, stack}
use Rattle.command_session.specs.command_run.tail_groups.Registers as T
use Rattle.command_session.specs.command_run.tail_groups.Rules as U

not_deep : (o : Setting) (f : Instance) (vs : Values) (a : Answer) → EndsInPlace o.program.types f vs a → a ≢ Deep
not_deep o f vs a h e = subst (EndsInPlace o.program.types f vs) e h

module _ (source : List ℕ) (o : Setting) (accepted : IsAccepted source o.program) (found : AreMembers o.program.instances o.members) where
  none_held : (i : ℕ) (d : Instance) (m : Member) (s : Option Stack) → slice_get o.program.instances i ≡ Some d → d.kind ≡ Fbip → slice_get o.members i ≡ Some m → m.stack ≡ s → frames_of o.frames s ≡ o.frames
  none_held i d m None there kind at e = refl
  none_held i d m (Some s) there kind at e =
      let stacks = found.stacks (fip_calls source o.program accepted.tailed.credited.owned) in
      let has = stacks.none i s (slice_get-map stack o.members i ∙ ap (option_map stack) at ∙ ap Some e) in
      let fr : Some (frame d) ≡ Some (Some has.0) = sym (slice_get-map frame o.program.instances i ∙ ap (option_map frame) there) ∙ has.1 in
      let non : frame d ≡ None = ap (λ k. if U.is_fip k then Some (T.registers d + FRAME_WORDS) else None) kind in
      absurd (none-some has.0 (sym non ∙ same_Some (frame d) (Some has.0) fr))

  by_member : (i : ℕ) (d : Instance) (m : Option Member) → slice_get o.program.instances i ≡ Some d → d.kind ≡ Fbip → slice_get o.members i ≡ m → frames_by o.frames m ≡ o.frames
  by_member i d None there kind at = refl
  by_member i d (Some m) there kind at = none_held i d m m.stack there kind at refl

  pub free_given : (i : ℕ) (d : Instance) → slice_get o.program.instances i ≡ Some d → d.kind ≡ Fbip → free_frames o i ≡ o.frames
  free_given i d there kind = by_member i d (slice_get o.members i) there kind refl

  pub never_deep : (i : ℕ) (d : Instance) (vs : Values) → slice_get o.program.instances i ≡ Some d → d.kind ≡ Fip → HaveTypes o.program.types (map type_of d.params) vs → answer_of o i vs ≢ Deep
  never_deep i d vs there kind typed =
      let r = accepted_stack source o.program o.members i d accepted found there kind in
      let s : Stack = r.1 in
      let free : free_frames o i ≡ s.frames = ap (frames_by o.frames) r.2 ∙ ap (frames_of o.frames) r.3 in
      let place = accepted_in_place source o.program o.members i d r.0 s vs o.calls s.frames accepted found there kind r.2 r.3 typed (omega arith) in
      let shallow : (flat_meaning o.program i vs o.calls s.frames).answer ≢ Deep = not_deep o d vs (flat_meaning o.program i vs o.calls s.frames).answer place.ends in
      subst (λ n. (flat_meaning o.program i vs o.calls n).answer ≢ Deep) (sym free) shallow
