use Rattle.std.proofs.Common.{Some, None, refl, inl, inr, subst}
use Rattle.command_answers.specs.command_library.derivation_check.Accepted.{IsDerivation}
use Rattle.command_answers.proofs.command_library.derivation_text.Whole.{one_derivation}
use Rattle.command_answers.specs.Ends as A
use Rattle.answer_correctness.proofs.Coming.{of_audit}
use Rattle.answer_correctness.proofs.members.a_derivation_is_judged.Goals as goal

pub returns : goal.returns
returns c = record {
  reported = λ files source input name proof r e h k. of_audit files source input name proof _ _ e refl (A.Reported r _ (k, h));
  missing = λ files source input name proof p e k m. of_audit files source input name proof None _ e k (A.NoProof p m);
  accepted = λ files source bytes input name proof p es e k m s t d.
      of_audit files source input name proof (Some bytes) _ e k
      (A.Judged p bytes _ m (record { file = record { short = s; derivation = es; text = t }; derives = d }, refl));
  other = λ files source bytes input name proof p es e k m s t d.
      of_audit files source input name proof (Some bytes) _ e k
      (A.Judged p bytes _ m (inr (
        record { short = s; derivation = es; text = t },
        λ h. d (subst (IsDerivation p) (one_derivation bytes h.file.derivation es h.file.text t) h.derives),
        refl,
      )));
  bad = λ files source bytes input name proof p at e k m b.
      of_audit files source input name proof (Some bytes) _ e k (A.Judged p bytes _ m (inl (at, b, refl)));
}
