-- `exec` and `gen` end in one thing: a source means one thing, its input encodes one list of arguments, and its groups
-- report one bound of the entry, so that its frames are one.
use Rattle.std.proofs.Common.{◌≡◌, ◌∙◌, ℕ, Bool, List, Option, Some, slice_get, refl, sym, ap, subst, arith}
use Rattle.std.specs.Prelude.{Err}
use Rattle.command_library.specs.fip_language.Core.{Core}
use Rattle.command_library.specs.fip_language.Meaning.{Answer, Gives, Trap, Out, Deep, Stuck, Peak, Run, meaning}
use Rattle.command_library.specs.fip_language.Prefix.{IsPlace}
use Rattle.command_library.specs.fip_language.Statics.{NoClosed}
use Rattle.command_library.specs.fip_language.Values.{Values}
use Rattle.command_library.specs.fip_language.ValueText.{SpellsValues}
use Rattle.command_library.proofs.fip_language.OnePlace.{IsPlace-unique, IsPlace-not_spelt}
use Rattle.command_library.specs.fip_base.declared.plain.Stack.{Stack}
use Rattle.command_library.specs.command_run.fip_trees.Tree.{Instance, Program}
use Rattle.command_library.specs.command_run.tail_groups.Members.{AreMembers}
use Rattle.command_library.specs.command_words.Words.{Room}
use Rattle.command_library.specs.command_outcome.declared.failure.Failure.TheVariants as F
use Rattle.command_library.specs.session_semantics.Talk.{frames_of}
use Rattle.command_library.specs.command_eval.EvalAnswer.{Entry, Spells}
use Rattle.command_library.proofs.command_eval.Once.{one_program, one_root, one_core, typed_alike, one_text}
use Rattle.command_library.proofs.command_run.Entry.{root_at}
use Rattle.command_library.proofs.command_run.ExecOnce.{member_at, words_alike, spelt_alike}
use Rattle.command_answers.specs.Exec.{End, Start, Running, ReportsRun, ReportsAll, running, frames_for, run_of, words_of, Execs, Misspelt, Small, Ran}
use Rattle.command_answers.specs.Generating.{Generates, LongInput, Drawn}

reports_once : (r : Running) (vs : Values) (calls frames : ℕ) (gauge : Bool) (peak : Peak) (a : Answer) (d e : End) → ReportsRun r vs calls frames gauge peak a d → ReportsRun r vs calls frames gauge peak a e → d ≡ e
reports_once r vs calls frames gauge peak (Gives us left) d e h k = h ∙ sym k
reports_once r vs calls frames gauge peak (Trap kind line col) d e h k = h ∙ sym k
reports_once r vs calls frames gauge peak Out d e h k = h ∙ sym k
reports_once r vs calls frames gauge peak Deep d e h k = h ∙ sym k
reports_once r vs calls frames gauge peak Stuck d e h k = absurd h

module _ (source name : List ℕ) (s t : Start source name) where
  abbrev x : Entry source name
  x = s.entry

  abbrev y : Entry source name
  y = t.entry

  -- what its groups report of the entry is one
  bound_once : t.bound ≡ s.bound
  bound_once =
      let root = root_at name x.program.instances x.root x.named in
      let m = member_at x.program.instances s.members root.place x.root (s.found).size root.there in
      let other : AreMembers y.program.instances s.members = subst (λ (p : Program). AreMembers p.instances s.members) (sym (one_program source name x y)) s.found in
      let there : slice_get y.program.instances root.place ≡ Some y.root = ap (λ (p : Program). slice_get p.instances root.place) (one_program source name x y) ∙ root.there ∙ ap Some (sym (one_root source name x y)) in
      t.reported s.members other root.place m.0 there m.1 ∙ sym (s.reported s.members s.found root.place m.0 root.there m.1)

  module _ (room : Room) where
    -- what is meant, by the core form, the arguments and the bound
    abbrev meant : Core → Values → Option Stack → Run
    meant c ws b = meaning c name NoClosed ws room.calls (frames_of room.frames b)

    pub run_same : (vs us : Values) → us ≡ vs → run_of t us room ≡ run_of s vs room
    run_same vs us same =
        ap (λ (c : Core). meant c us t.bound) (one_core source name x y)
        ∙ (ap (λ ws. meant x.core ws t.bound) same ∙ ap (meant x.core vs) bound_once)

    module _ (gauge : Bool) (e : End) where
      abbrev Reported : Program → Instance → Core → Values → Option Stack → Type 0
      Reported p d c ws b = ReportsAll (record { types = p.types; instance = d; bound = b }) ws room.calls (frames_of room.frames b) gauge (meant c ws b) e

      pub reported_same : (vs us : Values) → us ≡ vs → Reported y.program y.root y.core us t.bound → Reported x.program x.root x.core vs s.bound
      reported_same vs us same h =
          subst (λ b. Reported x.program x.root x.core vs b) bound_once
          (subst (λ ws. Reported x.program x.root x.core ws t.bound) same
          (subst (λ (c : Core). Reported x.program x.root c us t.bound) (one_core source name x y)
          (subst (λ (d : Instance). Reported x.program d y.core us t.bound) (one_root source name x y)
          (subst (λ (p : Program). Reported p y.root y.core us t.bound) (one_program source name x y) h))))

module _ (source name input : List ℕ) (room : Room) (gauge : Bool) where
  pub trees_once : (d e : End) → Execs source name input room gauge d → Execs source name input room gauge e → d ≡ e
  trees_once d e (Misspelt x at h) (Misspelt y to k) =
      ap (λ n. Err (F.BadInput n)) (IsPlace-unique (Spells x) input at to h (typed_alike source name x y (λ tb ks. IsPlace (SpellsValues tb ks) input to) k))
  trees_once d e (Misspelt x at h) (Small y us k less) = absurd (IsPlace-not_spelt (Spells x) input at us h (spelt_alike source name x y input us k))
  trees_once d e (Misspelt x at h) (Ran t us f k fits reported) = absurd (IsPlace-not_spelt (Spells x) input at us h (spelt_alike source name x t.entry input us k))
  trees_once d e (Small x vs h less) (Misspelt y to k) = absurd (IsPlace-not_spelt (Spells y) input to vs k (spelt_alike source name y x input vs h))
  trees_once d e (Small x vs h less) (Small y us k more) =
      let words : words_of y us ≡ words_of x vs = words_alike source name x y us ∙ ap (words_of x) (one_text source name x y input vs us h k) in
      ap (λ n. Err (F.TooSmall n room.words)) (sym words)
  trees_once d e (Small x vs h less) (Ran t us f k fits reported) =
      let words : words_of t.entry us ≡ words_of x vs = words_alike source name x t.entry us ∙ ap (words_of x) (one_text source name x t.entry input vs us h k) in
      absurd (omega (arith, less, fits, words))
  trees_once d e (Ran s vs f h fits reported) (Misspelt y to k) = absurd (IsPlace-not_spelt (Spells y) input to vs k (spelt_alike source name y s.entry input vs h))
  trees_once d e (Ran s vs f h fits reported) (Small y us k less) =
      let words : words_of y us ≡ words_of s.entry vs = words_alike source name s.entry y us ∙ ap (words_of s.entry) (one_text source name s.entry y input vs us h k) in
      absurd (omega (arith, less, fits, words))
  trees_once d e (Ran s vs f h fits reported) (Ran t us g k also others) =
      let same : us ≡ vs = one_text source name s.entry t.entry input vs us h k in
      reports_once (running s) vs room.calls (frames_for s room) gauge (run_of s vs room).peak (run_of s vs room).answer d e reported
      (reported_same source name s t room gauge e vs us same others)

-- ---- gen

-- what `gen` ends in
pub generated_once : (seed count : ℕ) (d e : End) → Generates seed count d → Generates seed count e → d ≡ e
generated_once seed count d e (LongInput more) (LongInput further) = refl
generated_once seed count d e (LongInput more) (Drawn short) = absurd (omega (arith, more, short))
generated_once seed count d e (Drawn short) (LongInput more) = absurd (omega (arith, more, short))
generated_once seed count d e (Drawn short) (Drawn also) = refl
