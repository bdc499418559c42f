use Rattle.std.proofs.Common.{◌≡◌, map, sym, ap, subst, ◌∙◌, Result, Ok, Err}
use Rattle.derivation_trees.specs.Trees.{entry}
use Rattle.derivation_text.specs.declared.error.ProofError.{ProofError}
use Rattle.derivation_text.specs.declared.error.ProofError.TheVariants.{BadProof}
use Rattle.derivation_trees.specs.WholeTrees.{AreTrees}
use Rattle.derivation_text.specs.ProofText.{IsProofText}
use Rattle.derivation_text.specs.Machine.{flats, start}
use Rattle.derivation_text.specs.Reading.{Runs, runs}
use Rattle.derivation_text.proofs.Whole.{read_spelt, read_trees, spelt_read, read_place}
use Rattle.derivation_text.proofs.read.read_derivation.Goals as goal

pub returns-in-Ok : goal.returns-in-Ok
returns-in-Ok c =
    let bs = c.args.bytes.now in
    let e = ap (map entry) c.new.ensures.lines in
    record {
      text = subst (IsProofText bs) (sym e) (read_spelt bs c.in-Ok.lines c.in-Ok.ensures);
      only = λ es h. e ∙ spelt_read bs (Ok c.in-Ok.lines) es c.in-Ok.ensures h;
      trees = subst AreTrees (sym c.new.ensures.lines) (read_trees bs c.in-Ok.lines c.in-Ok.ensures);
      place = λ at h. cc;
    }

same_error : {A : Type 0} (x y : ProofError) → ◌≡◌ {A = Result A ProofError} (Err x) (Err y) → x ≡ y
same_error x y e = cc

pub returns-in-Err : goal.returns-in-Err
returns-in-Err c =
    let bs = c.args.bytes.now in
    record {
      text = tt;
      only = λ es h. spelt_read bs (Err c.in-Err.error) es c.in-Err.ensures h;
      trees = tt;
      place = λ at h. read_place bs at (subst (λ e. Runs (Err e) (runs (start flats) bs 0)) (same_error c.in-Err.error (BadProof at) h) c.in-Err.ensures);
    }
